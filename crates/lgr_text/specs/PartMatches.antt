-- Which parts of a label a rule, or a part of one, matches (RFC 7940, sections 6.3 and 6.4).
use Rattle.std.specs.Prelude.{◌≡◌, ℕ, zero, suc, ◌+◌, ◌<◌, ◌≤◌, ◌⊎◌, ◌↔◌, IsTrue, All, ◌||◌, ◌&&◌, Bool, true, false}
use Rattle.std.specs.Prelude.{not, nat_lt, List, ◌++◌, length, drop, slice_index_or, Option, Some, None}
use Rattle.std.specs.Prelude.{if◌then◌else◌}
use Rattle.std.specs.Option.{option_or}
use Rattle.label_patterns.specs.Matches.{Seen, Matches}
use Rattle.label_patterns.specs.Patterns as pattern
use Rattle.label_patterns.specs.Patterns.{Pattern, Either}
use Rattle.label_patterns.specs.Laws.{seen}
use Rattle.label_patterns.specs.Rules.{is_context_rule, Holds}
use Rattle.label_patterns.specs.Sets.{is_in}
use Rattle.label_patterns.specs.declared.span.Span.{Span}
use Rattle.ruleset_text.specs.Names.{number_of}
use Rattle.lgr_text.specs.declared.rule_error.RuleFault.{RuleFault}
use Rattle.lgr_text.specs.declared.rule_error.RuleFault.TheVariants.{Undefined, Misplaced, NotSupported}
use Rattle.label_patterns.specs.Places.{StandsAt}
use Rattle.lgr_text.specs.Records.{Class, Part, Literal, Any, Of, Start, End, Anchor, OfRule, Then, Choice, Times}
use Rattle.lgr_text.specs.ClassMembers.{class_fault, has, HasSpans}
use Rattle.lgr_text.specs.Known.{Known}
use Rattle.lgr_text.specs.LabelEnds.{begins_label, ends_label}
use Rattle.lgr_text.specs.declared.records.Count.{Count}

-- the part of a label that a condition is about, by the places where it begins and ends
pub record Place : Type 0 where
  pub start : ℕ
  pub end : ℕ

-- these code points stand at this place of the label
abbrev pub StandThere : List ℕ → List ℕ → ℕ → Type 0
StandThere points label i = (rest : List ℕ) × (drop i label ≡ points ++ rest)

-- so many rounds of R lead from i to j
abbrev pub Repeats : (ℕ → ℕ → Type 0) → ℕ → ℕ → ℕ → Type 0
Repeats R zero i j = j ≡ i
Repeats R (suc n) i j = (k : ℕ) × R i k × Repeats R n k j

abbrev pub IsUpTo : ℕ → Option ℕ → Type 0
IsUpTo n None = Unit {0}
IsUpTo n (Some most) = n ≤ most

-- the count allows so many times (section 6.3.3)
abbrev pub IsCounted : Count → ℕ → Type 0
IsCounted count n = (count.least ≤ n) × IsUpTo n count.most

-- the anchor stands for this part of the label; where there is none, it stands for nothing (section 6.4)
abbrev pub IsAnchored : Option Place → ℕ → ℕ → Type 0
IsAnchored None i j = ⊥
IsAnchored (Some place) i j = (i ≡ place.start) × (j ≡ place.end)

-- the part of the label from i to j matches a part of a rule, by which code points classes have, and by what the rules
-- that are named match in this label. A rule that is named stands for itself: its anchor is that of the rule that names
-- it (section 6.3.4)
abbrev pub PartMatches : (Class → ℕ → Bool) → (Option Place → List ℕ → ℕ → ℕ → Type 0) → List ℕ → Option Place → Part
    → ℕ → ℕ → Type 0
PartMatches has named label at (Literal points) i j = StandThere points label i × (j ≡ i + length points)
PartMatches has named label at Any i j = (i < length label) × (j ≡ i + 1)
PartMatches has named label at (Of class) i j = StandsAt (has class) label i × (j ≡ i + 1)
PartMatches has named label at Start i j = (i ≡ 0) × (j ≡ 0)
PartMatches has named label at End i j = (i ≡ length label) × (j ≡ length label)
PartMatches has named label at Anchor i j = IsAnchored at i j
PartMatches has named label at (OfRule name) i j = named at name i j
PartMatches has named label at (Then p q) i j =
    (k : ℕ) × PartMatches has named label at p i k × PartMatches has named label at q k j
PartMatches has named label at (Choice p q) i j =
    PartMatches has named label at p i j ⊎ PartMatches has named label at q i j
PartMatches has named label at (Times count p) i j =
    (n : ℕ) × IsCounted count n × Repeats (PartMatches has named label at p) n i j

-- ---- what it is made from

-- the pattern of the rule of this name; where there is none, the anchor alone
abbrev pub rule_named : Known → List ℕ → Pattern
rule_named known name = slice_index_or known.rules (number_of known.rule_names name) pattern.Anchor

-- the part of a label from i to j matches the pattern, where the anchor stands for a part of the label
abbrev pub MatchesAround : Seen → Option Place → Pattern → ℕ → ℕ → Type 0
MatchesAround seen at pattern.Anchor i j = IsAnchored at i j
MatchesAround seen at (pattern.Then p q) i j =
    (k : ℕ) × MatchesAround seen at p i k × MatchesAround seen at q k j
MatchesAround seen at (Either p q) i j = MatchesAround seen at p i j ⊎ MatchesAround seen at q i j
MatchesAround seen at p i j = Matches seen p i j

-- what is known is enough to tell what matches in a label: it is the label that the pattern of a rule sees
abbrev pub Matching : Known → Part → Seen → Option Place → ℕ → ℕ → Type 0
Matching known p seen at i j =
    PartMatches (has known) (λ place name k m. MatchesAround seen place (rule_named known name) k m) seen.label at p i j

-- the list begins so: sets keep their numbers
abbrev pub BeginsWith : List (List Span) → List (List Span) → Type 0
BeginsWith sets first = (more : List (List Span)) × (sets ≡ first ++ more)

-- a label of these code points alone
abbrev pub IsOf : List Span → List ℕ → Type 0
IsOf points label = All (λ c. IsTrue (is_in points c) × (c ≤ 0x10FFFF)) label

-- a rule holds for the part of a label from i to j: it matches some part of the label, where the anchor stands for that
-- part; without an anchor it is about the whole label (section 6.4)
abbrev pub RuleHolds : Known → Part → Seen → ℕ → ℕ → Type 0
RuleHolds known rule seen i j =
    (k : ℕ) × (m : ℕ) × (k ≤ length seen.label) × Matching known rule seen (Some (record { start = i; end = j })) k m

-- the pattern says the same as the rule of each label made of the known code points, whatever sets follow these
abbrev pub SaysRule : Known → List (List Span) → Pattern → Part → Type 0
SaysRule known sets p rule =
    (all : List (List Span)) (label : List ℕ) (i j : ℕ) → BeginsWith all sets → IsOf known.points label
    → i ≤ length label → j ≤ length label
    → Holds (seen all label) p i j ↔ RuleHolds known rule (seen all label) i j

-- the pattern matches the same parts of each label made of the known code points as the rule, where the anchor of both
-- stands for the same, whatever sets follow these
abbrev pub MatchesAsPart : Known → List (List Span) → Pattern → Part → Type 0
MatchesAsPart known sets p rule =
    (all : List (List Span)) (label : List ℕ) (at : Option Place) (k l : ℕ) → BeginsWith all sets
    → IsOf known.points label → MatchesAround (seen all label) at p k l ↔ Matching known rule (seen all label) at k l

-- there is a rule of this name
abbrev pub is_named : Known → List ℕ → Bool
is_named known name = nat_lt (number_of known.rule_names name) (length known.rules)

-- the anchor stands in it, or in a rule that it names
abbrev pub has_anchor : Known → Part → Bool
has_anchor known Anchor = true
has_anchor known (OfRule name) = is_named known name && is_context_rule (rule_named known name)
has_anchor known (Then p q) = has_anchor known p || has_anchor known q
has_anchor known (Choice p q) = has_anchor known p || has_anchor known q
has_anchor known (Times count p) = has_anchor known p
has_anchor known (Literal points) = false
has_anchor known Any = false
has_anchor known (Of class) = false
has_anchor known Start = false
has_anchor known End = false

-- no rule has the name
abbrev pub name_fault : Known → List ℕ → Option RuleFault
name_fault known name = if is_named known name then None else Some Undefined

-- the end of a label in the first of two parts, or its start in the second
abbrev pub parts_label : Known → Part → Part → Bool
parts_label known p q = ends_label (rule_named known) p || begins_label (rule_named known) q

-- two parts one after the other: a second anchor; the end of a label before the anchor, or its start after that,
-- which no label has; and else either of these where it isn't the last, or the first
abbrev pub then_fault : Known → Part → Part → Option RuleFault
then_fault known p q =
    if has_anchor known p && has_anchor known q then Some NotSupported else
    if not (parts_label known p q) then None else
    if has_anchor known p || has_anchor known q then Some NotSupported else Some Misplaced

-- what is counted: the anchor, the start of a label or its end
abbrev pub times_fault : Known → Part → Option RuleFault
times_fault known p =
    if has_anchor known p then Some NotSupported else
    if begins_label (rule_named known) p || ends_label (rule_named known) p then Some Misplaced else None

-- a choice of two parts, each of which is a branch of its rule (section 6.4.1): one of them alone has an anchor
abbrev pub choice_fault : Known → Part → Part → Option RuleFault
choice_fault known p q =
    if has_anchor known p && has_anchor known q then None else
    if has_anchor known p || has_anchor known q then Some NotSupported else None

-- the first thing that a part names and that isn't there; or a second anchor, or one in a part of a choice alone, or in
-- what is counted; or the start or the end of a label where it may not be
abbrev pub part_fault : Known → Part → Option RuleFault
part_fault known (Of class) = class_fault known class
part_fault known (OfRule name) = name_fault known name
part_fault known (Then p q) =
    option_or (then_fault known p q) (option_or (part_fault known p) (part_fault known q))
part_fault known (Choice p q) =
    option_or (choice_fault known p q) (option_or (part_fault known p) (part_fault known q))
part_fault known (Times count p) = option_or (times_fault known p) (part_fault known p)
part_fault known (Literal points) = None
part_fault known Any = None
part_fault known Start = None
part_fault known End = None
part_fault known Anchor = None

-- the spans of its classes are spans of code points, and no count is above what it may be at most
abbrev pub IsWellFormed : Part → Type 0
IsWellFormed (Of class) = HasSpans class
IsWellFormed (Then p q) = IsWellFormed p × IsWellFormed q
IsWellFormed (Choice p q) = IsWellFormed p × IsWellFormed q
IsWellFormed (Times count p) = IsUpTo count.least count.most × IsWellFormed p
IsWellFormed (Literal points) = Unit {0}
IsWellFormed Any = Unit {0}
IsWellFormed Start = Unit {0}
IsWellFormed End = Unit {0}
IsWellFormed Anchor = Unit {0}
IsWellFormed (OfRule name) = Unit {0}
