-- Rows of items, one of which matches, and the patterns that have them as branches.
use Rattle.std.proofs.Common.{◌≡◌, ℕ, zero, suc, inl, inr, Bool, true, false, List, [], ◌∷◌, get_or, map, Option, None, refl, ap, sym, subst, ◌∙◌, arith}
use Rattle.std.specs.Prelude.{◌↔◌}
use Rattle.std.specs.List.{AllByRecursion, list_all}
use Rattle.label_patterns.specs.Matches.{HasItsSets, Matches, Seen}
use Rattle.label_patterns.specs.Patterns.{Pattern, Point, Set, Any, Start, End, Anchor, Group, Optional, Many, Then, Either}
use Rattle.label_patterns.specs.Rules.{branches, is_context_rule}
use Rattle.lgr_text.specs.PartMatches.{MatchesAround, Place}
use Rattle.lgr_text.specs.inner.Branches.{in_choice, BranchesMatch, HasBranches, HaveBranches}
use Rattle.lgr_text.specs.inner.Items.{in_sequence, is_item, never, HasShape, HaveSets, ItemMatches, ItemsMatch}
use Rattle.lgr_text.proofs.ItemLemmas.{sequence-is}
use Rattle.lgr_text.proofs.RuleLemmas.{anchored-row, both-left, both-right, items-place, one-branch, row-rule, whole-row}

-- ---- what they match

pub never-matches : (s : Seen) (i j : ℕ) → Matches s never i j → ⊥
never-matches s i j h = let one = h.1.1 in let start = h.2.0 in absurd (omega (arith, one, start))

pub choice-is : (s : Seen) (rows : List (List Pattern)) (i j : ℕ) → Matches s (in_choice (map in_sequence rows)) i j ↔ BranchesMatch s None rows i j
choice-is s [] i j = (λ h. never-matches s i j h, λ h. absurd h)
choice-is s (row ∷ []) i j =
    let same = sequence-is s row i j in (λ h. inl (same.0 h), λ h. elim h [ inl one ↦ same.1 one | inr none ↦ absurd none ])
choice-is s (row ∷ next ∷ rows) i j =
    let same = sequence-is s row i j in
    let others = choice-is s (next ∷ rows) i j in (
      λ h. elim h [ inl one ↦ inl (same.0 one) | inr more ↦ inr (others.0 more) ],
      λ h. elim h [ inl one ↦ inl (same.1 one) | inr more ↦ inr (others.1 more) ],
    )

-- ---- around a part of a label

item-around : (s : Seen) (at : Option Place) (p : Pattern) (i j : ℕ) → is_item p ≡ true → MatchesAround s at p i j ↔ ItemMatches s at p i j
item-around s at (Point c) i j flat = (λ h. h, λ h. h)
item-around s at (Set n) i j flat = (λ h. h, λ h. h)
item-around s at Any i j flat = (λ h. h, λ h. h)
item-around s at Start i j flat = (λ h. h, λ h. h)
item-around s at End i j flat = (λ h. h, λ h. h)
item-around s at Anchor i j flat = (λ h. h, λ h. h)
item-around s at (Group p) i j flat = (λ h. h, λ h. h)
item-around s at (Optional p) i j flat = (λ h. h, λ h. h)
item-around s at (Many p) i j flat = (λ h. h, λ h. h)
item-around s at (Then p q) i j flat = absurd (cc)
item-around s at (Either p q) i j flat = absurd (cc)

sequence-around : (s : Seen) (at : Option Place) (ps : List Pattern) (i j : ℕ) → list_all is_item ps ≡ true
    → MatchesAround s at (in_sequence ps) i j ↔ ItemsMatch s at ps i j
sequence-around s at [] i j flat = sequence-is s [] i j
sequence-around s at (p ∷ []) i j flat =
    let item = item-around s at p i j (both-left (is_item p) true flat) in (
      λ h. (j, item.0 h, refl),
      λ h. item.1 (subst (λ k. ItemMatches s at p i k) (sym h.2) h.1),
    )
sequence-around s at (p ∷ q ∷ ps) i j flat = (
  λ h. (h.0, (item p i h.0 first).0 h.1, (sequence-around s at (q ∷ ps) h.0 j rest).0 h.2),
  λ h. (h.0, (item p i h.0 first).1 h.1, (sequence-around s at (q ∷ ps) h.0 j rest).1 h.2),
)
  where
    item : (r : Pattern) (k m : ℕ) → is_item r ≡ true → MatchesAround s at r k m ↔ ItemMatches s at r k m
    item = item-around s at

    first : is_item p ≡ true
    first = both-left (is_item p) (list_all is_item (q ∷ ps)) flat

    rest : list_all is_item (q ∷ ps) ≡ true
    rest = both-right (is_item p) (list_all is_item (q ∷ ps)) flat

pub choice-around : (s : Seen) (at : Option Place) (b : Bool) (rows : List (List Pattern)) (i j : ℕ) → AllByRecursion (HasShape b) rows
    → MatchesAround s at (in_choice (map in_sequence rows)) i j ↔ BranchesMatch s at rows i j
choice-around s at b [] i j shapes = (λ h. never-matches s i j h, λ h. absurd h)
choice-around s at b (row ∷ []) i j shapes =
    let same = sequence-around s at row i j shapes.0.flat in
    (λ h. inl (same.0 h), λ h. elim h [ inl one ↦ same.1 one | inr none ↦ absurd none ])
choice-around s at b (row ∷ next ∷ rows) i j shapes =
    let same = sequence-around s at row i j shapes.0.flat in
    let others = choice-around s at b (next ∷ rows) i j shapes.1 in (
      λ h. elim h [ inl one ↦ inl (same.0 one) | inr more ↦ inr (others.0 more) ],
      λ h. elim h [ inl one ↦ inl (same.1 one) | inr more ↦ inr (others.1 more) ],
    )

-- ---- without an anchor

pub no-anchor-rule : (rows : List (List Pattern)) → AllByRecursion (HasShape false) rows → is_context_rule (in_choice (map in_sequence rows)) ≡ false
no-anchor-rule [] h = refl
no-anchor-rule (row ∷ []) h = whole-row row h.0.flat h.0.one
no-anchor-rule (row ∷ next ∷ rows) h = sym (row-rule row h.0.flat) ∙ whole-row row h.0.flat h.0.one

pub rows-place : (s : Seen) (at other : Option Place) (rows : List (List Pattern)) (i j : ℕ) → AllByRecursion (HasShape false) rows
    → BranchesMatch s at rows i j → BranchesMatch s other rows i j
rows-place s at other [] i j all h = h
rows-place s at other (row ∷ rows) i j all h = elim h [
  | inl one ↦ inl (items-place s at other row i j all.0.one one)
  | inr more ↦ inr (rows-place s at other rows i j all.1 more)
]

-- ---- with one

pub anchored-rule : (row : List Pattern) (rows : List (List Pattern)) → AllByRecursion (HasShape true) (row ∷ rows)
    → is_context_rule (in_choice (map in_sequence (row ∷ rows))) ≡ true
anchored-rule row [] h = anchored-row row h.0.flat h.0.one
anchored-rule row (next ∷ rows) h = sym (row-rule row h.0.flat) ∙ anchored-row row h.0.flat h.0.one

pub all-branches : (row : List Pattern) (rows : List (List Pattern)) → AllByRecursion (HasShape true) (row ∷ rows)
    → branches (in_choice (map in_sequence (row ∷ rows))) ≡ map in_sequence (row ∷ rows)
all-branches row [] h = one-branch row h.0.flat
all-branches row (next ∷ rows) h = ap (λ l. in_sequence row ∷ l) (all-branches next rows h.1)

-- ---- a rule that is named

pub named-branches : (rules : List Pattern) (k : ℕ) → HaveBranches rules → HasBranches (get_or rules k Anchor)
named-branches [] k have = record { anchored = true; rows = (Anchor ∷ []) ∷ []; is = refl; shapes = (record { flat = refl; one = refl; forms = (tt, tt); placed = refl }, tt) }
named-branches (p ∷ rules) zero have = have.0
named-branches (p ∷ rules) (suc k) have = named-branches rules k have.1

-- where it is no context rule, it is about no place
pub whole-around : (s : Seen) (at : Option Place) (p : Pattern) (i j : ℕ) → HasBranches p → is_context_rule p ≡ false
    → Matches s p i j ↔ MatchesAround s at p i j
whole-around s at p i j has none =
    subst (λ q. Matches s q i j ↔ MatchesAround s at q i j) (sym has.is)
    (by has.anchored has.rows has.shapes (ap is_context_rule (sym has.is) ∙ none))
  where
    by : (b : Bool) (rows : List (List Pattern)) → AllByRecursion (HasShape b) rows → is_context_rule (in_choice (map in_sequence rows)) ≡ false
        → Matches s (in_choice (map in_sequence rows)) i j ↔ MatchesAround s at (in_choice (map in_sequence rows)) i j
    by b [] shapes is = (λ h. h, λ h. h)
    by true (row ∷ rows) shapes is = absurd (let one = anchored-rule row rows shapes in cc)
    by false (row ∷ rows) shapes is =
        let same = choice-is s (row ∷ rows) i j in
        let around = choice-around s at false (row ∷ rows) i j shapes in (
          λ h. around.1 (rows-place s None at (row ∷ rows) i j shapes (same.0 h)),
          λ h. same.1 (rows-place s at None (row ∷ rows) i j shapes (around.0 h)),
        )

-- where it is one, its branches are rows, in each of which the anchor stands once
pub record HasRows (p : Pattern) : Type 0 where
  pub row : List Pattern
  pub others : List (List Pattern)
  pub is : p ≡ in_choice (map in_sequence (row ∷ others))
  pub shapes : AllByRecursion (HasShape true) (row ∷ others)

pub context-rows : (p : Pattern) → HasBranches p → is_context_rule p ≡ true → HasRows p
context-rows p has one = by has.anchored has.rows has.is has.shapes
  where
    by : (b : Bool) (rows : List (List Pattern)) → p ≡ in_choice (map in_sequence rows) → AllByRecursion (HasShape b) rows → HasRows p
    by b [] is shapes = absurd (let e = ap is_context_rule is in cc)
    by false (row ∷ rows) is shapes =
        absurd (let e = ap is_context_rule is in let none = no-anchor-rule (row ∷ rows) shapes in cc)
    by true (row ∷ rows) is shapes = record { row = row; others = rows; is = is; shapes = shapes }

-- the sets that they name
items-have : (ps : List Pattern) (n : ℕ) → HasItsSets n (in_sequence ps) → HaveSets n ps
items-have [] n h = tt
items-have (p ∷ []) n h = (h, tt)
items-have (p ∷ q ∷ ps) n h = (h.0, items-have (q ∷ ps) n h.1)

pub rows-have : (rows : List (List Pattern)) (n : ℕ) → HasItsSets n (in_choice (map in_sequence rows)) → AllByRecursion (HaveSets n) rows
rows-have [] n h = tt
rows-have (row ∷ []) n h = (items-have row n h, tt)
rows-have (row ∷ next ∷ rows) n h = (items-have row n h.0, rows-have (next ∷ rows) n h.1)
