-- Items of a pattern, one after the other.
use Rattle.std.specs.Prelude.{◌≡◌, ℕ, ◌+◌, ◌↔◌, List, [], ◌∷◌, ◌++◌, ◌&&◌, ◌≤◌, ◌<◌, ◌-◌, zero, suc}
use Rattle.std.specs.Prelude.{◌⊎◌, map, length, Option, Some, None, Bool, true, false, if◌then◌else◌}
use Rattle.std.specs.List.{AllByRecursion, list_all, list_any}
use Rattle.label_patterns.specs.declared.span.Span.{Span}
use Rattle.label_patterns.specs.Laws.{seen}
use Rattle.label_patterns.specs.Matches.{HasItsSets, Seen, Matches, MatchesOne}
use Rattle.label_patterns.specs.Patterns.{Pattern, Point, Set, Any, Start, End, Anchor, Group, Optional, Many, Then}
use Rattle.label_patterns.specs.Patterns.{Either}
use Rattle.label_patterns.specs.Rules.{is_anchor}
use Rattle.label_patterns.specs.Sets.{is_in}
use Rattle.ruleset_text.specs.Grammar.{Is, Item, Whole}
use Rattle.ruleset_text.specs.Rules.{has as has_sign, is_after, is_before}
use Rattle.ruleset_text.specs.Signs as sign
use Rattle.lgr_text.specs.ClassMembers.{has}
use Rattle.lgr_text.specs.Known.{Known}
use Rattle.lgr_text.specs.LabelEnds.{begins_label, begins_pattern, ends_label, ends_pattern}
use Rattle.lgr_text.specs.PartMatches.{BeginsWith, IsAnchored, IsOf, Matching, Place, rule_named}
use Rattle.lgr_text.specs.Records.{Class, Part}
use Rattle.lgr_text.specs.declared.records.Count.{Count}

-- what no part of a label matches: a code point before the start
abbrev pub never : Pattern
never = Then Any Start

abbrev pub is_start : Pattern → Bool
is_start Start = true
is_start p = false

-- the two, one after the other, are this pattern
abbrev pub is_never : Pattern → Pattern → Bool
is_never Any p = is_start p
is_never p q = false

-- the pattern as it may stand after the anchor, where no pattern has the start of a label: what no part of a label
-- matches becomes a code point after the end
abbrev pub turned : Pattern → Pattern
turned (Group p) = Group (turned p)
turned (Optional p) = Optional (turned p)
turned (Many p) = Many (turned p)
turned (Then p q) = if is_never p q then Then End Any else Then (turned p) (turned q)
turned (Either p q) = Either (turned p) (turned q)
turned p = p

-- what matches the empty part of a label at each place, and nothing else
abbrev pub nothing : Pattern
nothing = Optional (Group never)

-- an item, which may be the anchor
abbrev pub ItemMatches : Seen → Option Place → Pattern → ℕ → ℕ → Type 0
ItemMatches seen at Anchor i j = IsAnchored at i j
ItemMatches seen at p i j = Matches seen p i j

-- the part of a label from i to j matches the items, one after the other
abbrev pub ItemsMatch : Seen → Option Place → List Pattern → ℕ → ℕ → Type 0
ItemsMatch seen at [] i j = j ≡ i
ItemsMatch seen at (p ∷ ps) i j = (k : ℕ) × ItemMatches seen at p i k × ItemsMatch seen at ps k j

-- the items as one pattern
abbrev pub in_sequence : List Pattern → Pattern
in_sequence [] = nothing
in_sequence (p ∷ []) = p
in_sequence (p ∷ q ∷ ps) = Then p (in_sequence (q ∷ ps))

-- an item to which '?' or '*' may be added
abbrev pub is_atom : Pattern → Bool
is_atom (Point c) = true
is_atom (Set n) = true
is_atom Any = true
is_atom (Group p) = true
is_atom p = false

-- the items as one such item
abbrev pub as_atom : List Pattern → Pattern
as_atom [] = Group nothing
as_atom (p ∷ []) = if is_atom p then p else Group p
as_atom (p ∷ q ∷ ps) = Group (in_sequence (p ∷ q ∷ ps))

-- what is in a group, or the pattern, if it is none
abbrev pub ungrouped : Pattern → Pattern
ungrouped (Group p) = p
ungrouped p = p

-- one of the two
abbrev pub choice_of : List Pattern → List Pattern → Pattern
choice_of left right = Group (Either (in_sequence left) (ungrouped (in_sequence right)))

-- the items so many times
abbrev pub copies : ℕ → List Pattern → List Pattern
copies zero items = []
copies (suc n) items = copies n items ++ items

-- what may follow as many of the items as there have to be
abbrev pub further_up_to : Option ℕ → ℕ → List Pattern → List Pattern
further_up_to None least items = Many (as_atom items) ∷ []
further_up_to (Some most) least items = copies (most - least) (Optional (as_atom items) ∷ [])

abbrev pub further : Count → List Pattern → List Pattern
further count items = further_up_to count.most count.least items

-- an item by itself, which is neither a sequence nor a choice
abbrev pub is_item : Pattern → Bool
is_item (Then p q) = false
is_item (Either p q) = false
is_item p = true

-- how many of the items are the anchor
abbrev pub anchors : List Pattern → ℕ
anchors [] = 0
anchors (p ∷ ps) = (if is_anchor p then 1 else 0) + anchors ps

-- the start of a label stands in the pattern, elsewhere than in what no part of a label matches
abbrev pub has_start : Pattern → Bool
has_start p = has_sign sign.Start (turned p)

abbrev pub has_end : Pattern → Bool
has_end p = has_sign sign.End p

-- items without an anchor, of which the first begins with the start of a label, if it stands in one, and the last ends
-- with the end
pub record IsPlain (items : List Pattern) : Type 0 where
  pub no_anchor : list_any (has_sign sign.Anchor) items ≡ false
  pub start : list_any has_start items ≡ true → begins_pattern (in_sequence items) ≡ true
  pub end : list_any has_end items ≡ true → ends_pattern (in_sequence items) ≡ true

-- items with the anchor, no end of a label before it and no start after it
abbrev pub is_row : List Pattern → Bool
is_row [] = false
is_row (p ∷ ps) = if is_anchor p then list_all is_after ps else is_before p && is_row ps

abbrev pub IsPlaced : Bool → List Pattern → Type 0
IsPlaced true items = is_row items ≡ true
IsPlaced false items = IsPlain items

-- items of the notation, one of which is the anchor, or none
pub record HasShape (anchored : Bool) (items : List Pattern) : Type 0 where
  pub flat : list_all is_item items ≡ true
  pub one : anchors items ≡ (if anchored then 1 else 0)
  pub forms : AllByRecursion (Is Item) items
  pub placed : IsPlaced anchored items

-- the sets of the items are among the first n
abbrev pub HaveSets : ℕ → List Pattern → Type 0
HaveSets n items = AllByRecursion (HasItsSets n) items

-- items that match what R says of a label made of these code points, whatever sets follow these
abbrev pub AreItemsFor : List Span → List (List Span) → List Pattern → (Seen → Option Place → ℕ → ℕ → Type 0) → Type 0
AreItemsFor points sets items R =
    (all : List (List Span)) (label : List ℕ) (at : Option Place) (i j : ℕ) → BeginsWith all sets → IsOf points label
    → ItemsMatch (seen all label) at items i j ↔ R (seen all label) at i j

-- items for a part of a rule were appended, none of which is the anchor, and maybe sets. The start of a label stands in
-- them only where the part begins with it, and the end where it ends with it
pub record Appends (given : Known) (old_sets sets : List (List Span)) (old items : List Pattern) (p : Part) : Type 0
  where
    pub kept : BeginsWith sets old_sets
    pub added : List Pattern
    pub is : items ≡ old ++ added
    pub shape : HasShape false added
    pub start : list_any has_start added ≡ true → begins_label (rule_named given) p ≡ true
    pub end : list_any has_end added ≡ true → ends_label (rule_named given) p ≡ true
    pub known : HaveSets (length sets) added
    pub match_them : AreItemsFor given.points sets added (Matching given p)

-- items that may stand after the anchor were appended
pub record Follows (given : Known) (old_sets sets : List (List Span)) (old items : List Pattern) (p : Part) : Type 0
  where
    pub kept : BeginsWith sets old_sets
    pub added : List Pattern
    pub is : items ≡ old ++ added
    pub flat : list_all is_item added ≡ true
    pub one : anchors added ≡ 0
    pub forms : AllByRecursion (Is Item) added
    pub after : list_all is_after added ≡ true
    pub known : HaveSets (length sets) added
    pub match_them : AreItemsFor given.points sets added (Matching given p)

-- neither the anchor nor the start of a label nor its end stands in the pattern
pub record IsFree (p : Pattern) : Type 0 where
  pub anchor : has_sign sign.Anchor p ≡ false
  pub start : has_start p ≡ false
  pub end : has_end p ≡ false

-- the code point is in the class, and in labels
abbrev pub is_member : Known → Class → ℕ → Bool
is_member known class c = has known class c && is_in known.points c

-- a set that a line of the notation can have: some spans, and not too many
abbrev pub FitsLine : List Span → Type 0
FitsLine spans = (0 < length spans) × (length spans ≤ 500)

-- the pattern matches one code point of the spans, with sets that were appended, and that a line can have
pub record AddsChoice (spans : List Span) (old_sets sets : List (List Span)) (p : Pattern) : Type 0 where
  pub added : List (List Span)
  pub kept : sets ≡ old_sets ++ added
  pub fit : AllByRecursion FitsLine added
  pub form : Is Whole p
  pub free : IsFree p
  pub known : HasItsSets (length sets) p
  pub match_them : (all : List (List Span)) (label : List ℕ) (i j : ℕ) → BeginsWith all sets
      → Matches (seen all label) p i j ↔ MatchesOne (is_in spans) (seen all label) i j

-- an item was appended for the code points of a class that are in labels
pub record AddsSets (known : Known) (class : Class) (old_sets sets : List (List Span)) (old items : List Pattern)
    : Type 0 where
  pub item : Pattern
  pub is : items ≡ old ++ item ∷ []
  pub shape : HasShape false (item ∷ [])
  pub spans : List Span
  pub choice : AddsChoice spans old_sets sets item
  pub members : (c : ℕ) → c ≤ 0x10FFFF → is_in spans c ≡ is_member known class c

-- what matches nothing was appended, since none of a class is in labels
pub record AddsNever (known : Known) (class : Class) (old_sets sets : List (List Span))
    (old items : List Pattern) : Type 0 where
  pub same : sets ≡ old_sets
  pub is : items ≡ old ++ Group never ∷ []
  pub members : (c : ℕ) → c ≤ 0x10FFFF → is_member known class c ≡ false

-- a class was appended
abbrev pub AddsClass : Known → Class → List (List Span) → List (List Span) → List Pattern → List Pattern → Type 0
AddsClass known class old_sets sets old items =
    AddsSets known class old_sets sets old items ⊎ AddsNever known class old_sets sets old items

-- code points one after the other; what matches nothing, if one of them is in no label
abbrev pub literal_items : List Span → List ℕ → List Pattern
literal_items points literal =
    if list_all (is_in points) literal then map Point literal else Group never ∷ []
