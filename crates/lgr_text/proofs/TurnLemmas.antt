-- Patterns as they may stand after the anchor.
use Rattle.std.proofs.Common.{◌≡◌, ℕ, ◌+◌, inl, inr, Bool, true, false, ◌&&◌, List, [], ◌∷◌, ◌++◌, length, map, Option, refl, ap, ◌∙◌, if◌then◌else◌, arith}
use Rattle.std.specs.Prelude.{◌↔◌}
use Rattle.std.specs.List.{list_all, list_any}
use Rattle.label_patterns.specs.declared.span.Span.{Span}
use Rattle.label_patterns.specs.Laws.{seen}
use Rattle.label_patterns.specs.Matches.{HasItsSets, Matches, Seen}
use Rattle.label_patterns.specs.Patterns.{Pattern, Point, Set, Any, Start, End, Anchor, Group, Optional, Many, Then, Either}
use Rattle.label_patterns.specs.Rules.{is_anchor}
use Rattle.lgr_text.specs.Known.{Known}
use Rattle.lgr_text.specs.LabelEnds.{begins_label}
use Rattle.lgr_text.specs.PartMatches.{Place, rule_named}
use Rattle.lgr_text.specs.Records.{Part}
use Rattle.lgr_text.specs.inner.Items.{anchors, has_start, is_item, is_never, is_start, turned, Appends, Follows, HaveSets, ItemMatches, ItemsMatch}
use Rattle.lgr_text.proofs.PlaceLemmas.{not-so, turned-after, turned-forms}
use Rattle.lgr_text.proofs.RepeatLemmas.{rounds-map}
use Rattle.lgr_text.proofs.RuleLemmas.{both-left, both-right}

-- ---- which parts of a label they match

start-none : (s : Seen) (q : Pattern) (i k j : ℕ) → is_start q ≡ true → Matches s Any i k → Matches s q k j → ⊥
start-none s Start i k j e one start = omega (arith, one.1, start.0)
start-none s (Point c) i k j e one start = absurd (cc)
start-none s (Set n) i k j e one start = absurd (cc)
start-none s Any i k j e one start = absurd (cc)
start-none s End i k j e one start = absurd (cc)
start-none s Anchor i k j e one start = absurd (cc)
start-none s (Group p) i k j e one start = absurd (cc)
start-none s (Optional p) i k j e one start = absurd (cc)
start-none s (Many p) i k j e one start = absurd (cc)
start-none s (Then p q) i k j e one start = absurd (cc)
start-none s (Either p q) i k j e one start = absurd (cc)

never-none : (s : Seen) (p q : Pattern) (i k j : ℕ) → is_never p q ≡ true → Matches s p i k → Matches s q k j → ⊥
never-none s Any q i k j e one start = start-none s q i k j e one start
never-none s Start q i k j e one start = absurd (cc)
never-none s (Point c) q i k j e one start = absurd (cc)
never-none s (Set n) q i k j e one start = absurd (cc)
never-none s End q i k j e one start = absurd (cc)
never-none s Anchor q i k j e one start = absurd (cc)
never-none s (Group p) q i k j e one start = absurd (cc)
never-none s (Optional p) q i k j e one start = absurd (cc)
never-none s (Many p) q i k j e one start = absurd (cc)
never-none s (Then p r) q i k j e one start = absurd (cc)
never-none s (Either p r) q i k j e one start = absurd (cc)

abbrev AreSame : Seen → Pattern → Pattern → Type 0
AreSame s p q = (i j : ℕ) → Matches s p i j ↔ Matches s q i j

then-same : (b : Bool) (s : Seen) (p q : Pattern) → is_never p q ≡ b → AreSame s p (turned p) → AreSame s q (turned q)
    → AreSame s (Then p q) (if b then Then End Any else Then (turned p) (turned q))
then-same true s p q e first rest i j = (
  λ h. absurd (never-none s p q i h.0 j e h.1 h.2),
  λ h. absurd (omega (arith, h.1.1, h.2.0.0)),
)
then-same false s p q e first rest i j = (
  λ h. (h.0, (first i h.0).0 h.1, (rest h.0 j).0 h.2),
  λ h. (h.0, (first i h.0).1 h.1, (rest h.0 j).1 h.2),
)

turned-same : (s : Seen) (p : Pattern) → AreSame s p (turned p)
turned-same s (Point c) i j = (λ h. h, λ h. h)
turned-same s (Set n) i j = (λ h. h, λ h. h)
turned-same s Any i j = (λ h. h, λ h. h)
turned-same s Start i j = (λ h. h, λ h. h)
turned-same s End i j = (λ h. h, λ h. h)
turned-same s Anchor i j = (λ h. h, λ h. h)
turned-same s (Group p) i j = turned-same s p i j
turned-same s (Optional p) i j = let same = turned-same s p i j in (
  λ h. elim h [ inl none ↦ inl none | inr one ↦ inr (same.0 one) ],
  λ h. elim h [ inl none ↦ inl none | inr one ↦ inr (same.1 one) ],
)
turned-same s (Many p) i j = (
  rounds-map (Matches s p) (Matches s (turned p)) (λ k m. (turned-same s p k m).0) i j,
  rounds-map (Matches s (turned p)) (Matches s p) (λ k m. (turned-same s p k m).1) i j,
)
turned-same s (Then p q) i j = then-same (is_never p q) s p q refl (turned-same s p) (turned-same s q) i j
turned-same s (Either p q) i j = let left = turned-same s p i j in let right = turned-same s q i j in (
  λ h. elim h [ inl l ↦ inl (left.0 l) | inr r ↦ inr (right.0 r) ],
  λ h. elim h [ inl l ↦ inl (left.1 l) | inr r ↦ inr (right.1 r) ],
)

-- ---- items

-- an item stays one
record StaysItem (p : Pattern) : Type 0 where
  item : is_item (turned p) ≡ true
  anchor : is_anchor (turned p) ≡ is_anchor p
  matches : (s : Seen) (at : Option Place) (i j : ℕ) → ItemMatches s at p i j ↔ ItemMatches s at (turned p) i j

stays : (p : Pattern) → is_item p ≡ true → StaysItem p
stays (Point c) e = record { item = refl; anchor = refl; matches = λ s at i j. (λ h. h, λ h. h) }
stays (Set n) e = record { item = refl; anchor = refl; matches = λ s at i j. (λ h. h, λ h. h) }
stays Any e = record { item = refl; anchor = refl; matches = λ s at i j. (λ h. h, λ h. h) }
stays Start e = record { item = refl; anchor = refl; matches = λ s at i j. (λ h. h, λ h. h) }
stays End e = record { item = refl; anchor = refl; matches = λ s at i j. (λ h. h, λ h. h) }
stays Anchor e = record { item = refl; anchor = refl; matches = λ s at i j. (λ h. h, λ h. h) }
stays (Group p) e = record { item = refl; anchor = refl; matches = λ s at i j. turned-same s (Group p) i j }
stays (Optional p) e = record { item = refl; anchor = refl; matches = λ s at i j. turned-same s (Optional p) i j }
stays (Many p) e = record { item = refl; anchor = refl; matches = λ s at i j. turned-same s (Many p) i j }
stays (Then p q) e = absurd (cc)
stays (Either p q) e = absurd (cc)

turned-items : (s : Seen) (at : Option Place) (ps : List Pattern) (i j : ℕ) → list_all is_item ps ≡ true
    → ItemsMatch s at ps i j ↔ ItemsMatch s at (map turned ps) i j
turned-items s at [] i j flat = (λ h. h, λ h. h)
turned-items s at (p ∷ ps) i j flat =
    let one = stays p (both-left (is_item p) (list_all is_item ps) flat) in
    let others = both-right (is_item p) (list_all is_item ps) flat in (
      λ h. (h.0, (one.matches s at i h.0).0 h.1, (turned-items s at ps h.0 j others).0 h.2),
      λ h. (h.0, (one.matches s at i h.0).1 h.1, (turned-items s at ps h.0 j others).1 h.2),
    )

turned-flat : (ps : List Pattern) → list_all is_item ps ≡ true → list_all is_item (map turned ps) ≡ true
turned-flat [] flat = refl
turned-flat (p ∷ ps) flat =
    let one = stays p (both-left (is_item p) (list_all is_item ps) flat) in
    ap (λ b. b && list_all is_item (map turned ps)) one.item ∙ turned-flat ps (both-right (is_item p) (list_all is_item ps) flat)

turned-anchors : (ps : List Pattern) → list_all is_item ps ≡ true → anchors (map turned ps) ≡ anchors ps
turned-anchors [] flat = refl
turned-anchors (p ∷ ps) flat =
    let one = stays p (both-left (is_item p) (list_all is_item ps) flat) in
    ap (λ b. (if b then 1 else 0) + anchors (map turned ps)) one.anchor
    ∙ ap (λ n. (if is_anchor p then 1 else 0) + n) (turned-anchors ps (both-right (is_item p) (list_all is_item ps) flat))

-- ---- which sets they name

then-has : (b : Bool) (n : ℕ) (p q : Pattern) → HasItsSets n p → HasItsSets n q → HasItsSets n (if b then Then End Any else Then p q)
then-has true n p q h k = (tt, tt)
then-has false n p q h k = (h, k)

turned-has : (n : ℕ) (p : Pattern) → HasItsSets n p → HasItsSets n (turned p)
turned-has n (Point c) h = h
turned-has n (Set m) h = h
turned-has n Any h = h
turned-has n Start h = h
turned-has n End h = h
turned-has n Anchor h = h
turned-has n (Group p) h = turned-has n p h
turned-has n (Optional p) h = turned-has n p h
turned-has n (Many p) h = turned-has n p h
turned-has n (Then p q) h = then-has (is_never p q) n (turned p) (turned q) (turned-has n p h.0) (turned-has n q h.1)
turned-has n (Either p q) h = (turned-has n p h.0, turned-has n q h.1)

turned-have : (n : ℕ) (ps : List Pattern) → HaveSets n ps → HaveSets n (map turned ps)
turned-have n [] h = tt
turned-have n (p ∷ ps) h = (turned-has n p h.0, turned-have n ps h.1)

-- ---- a part

pub turned-follows : (known : Known) (first last : List (List Span)) (old items others : List Pattern) (p : Part)
    → begins_label (rule_named known) p ≡ false → items ≡ old ++ map turned others → Appends known first last [] others p
    → Follows known first last old items p
turned-follows known first last old items others p none e appends = record {
  kept = appends.kept;
  added = map turned appends.added;
  is = e ∙ ap (λ ps. old ++ map turned ps) appends.is;
  flat = turned-flat appends.added appends.shape.flat;
  one = turned-anchors appends.added appends.shape.flat ∙ appends.shape.one;
  forms = turned-forms appends.added appends.shape.forms;
  after = turned-after appends.added appends.shape.placed.no_anchor
      (not-so (list_any has_start appends.added) (begins_label (rule_named known) p) appends.start none);
  known = turned-have (length last) appends.added appends.known;
  match_them = λ all label at i j begins of.
      let same = turned-items (seen all label) at appends.added i j appends.shape.flat in
      let as_part = appends.match_them all label at i j begins of in (
        λ h. as_part.0 (same.1 h),
        λ h. same.0 (as_part.1 h),
      );
}
