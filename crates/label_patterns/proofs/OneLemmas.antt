-- One code point, and a part that may be left out.
use Rattle.std.proofs.Common.{◌≡◌, ℕ, ◌+◌, ◌≤◌, ◌<◌, ◌⊎◌, inl, inr, Bool, List, [], length, set, get_or, refl, sym, subst, arith}
use Rattle.std.specs.Prelude.{slice_index}
use Rattle.std.proofs.lemmas.Bool.{cases_order}
use Rattle.std.proofs.lemmas.List.{get_or-set_same, get_or-set_other}
use Rattle.label_patterns.specs.declared.span.Span.{Span}
use Rattle.label_patterns.specs.inner.Masks.{AreMasksTo}
use Rattle.label_patterns.specs.Sets.{is_in}
use Rattle.label_patterns.specs.Places.{Has, AreEnds, AreStarts, StandsAt, AreThePlaces}
use Rattle.label_patterns.proofs.PlaceLemmas.{not-in-none}
use Rattle.label_patterns.proofs.RoundLemmas.{AreParts}

pub no-63 : (test : ℕ → Bool) (label : List ℕ) (members : ℕ) → length label ≤ 63 → AreThePlaces test label members → Has members 63 → ⊥
no-63 test label members short are h = let inside : 63 < length label = ((are 63).0 h).0 in omega (arith, inside, short)

pub one-ends : (test : ℕ → Bool) (label : List ℕ) (members starts ends : ℕ) → AreThePlaces test label members
    → AreEnds (λ i j. Has members i × (j ≡ i + 1)) starts ends → AreEnds (λ i j. StandsAt test label i × (j ≡ i + 1)) starts ends
one-ends test label members starts ends are e j = (
  λ h. let f = (e j).0 h in (f.0, f.1, ((are f.0).0 f.2.0, f.2.1)),
  λ h. (e j).1 (h.0, h.1, ((are h.0).1 h.2.0, h.2.1)),
)

pub one-starts : (test : ℕ → Bool) (label : List ℕ) (members stops starts : ℕ) → AreThePlaces test label members
    → AreStarts (λ i j. Has members i × (j ≡ i + 1)) stops starts → AreStarts (λ i j. StandsAt test label i × (j ≡ i + 1)) stops starts
one-starts test label members stops starts are e i = (
  λ h. let f = (e i).0 h in (f.0, f.1, ((are i).0 f.2.0, f.2.1)),
  λ h. (e i).1 (h.0, h.1, ((are i).1 h.2.0, h.2.1)),
)

pub no-ends : (starts : ℕ) → AreEnds (λ i j. ⊥) starts 0
no-ends starts j = (λ h. absurd (not-in-none j h), λ h. absurd h.2)

pub no-starts : (stops : ℕ) → AreStarts (λ i j. ⊥) stops 0
no-starts stops i = (λ h. absurd (not-in-none i h), λ h. absurd h.2)

pub optional-ends : (R : ℕ → ℕ → Type 0) (starts ends all : ℕ) → AreEnds R starts ends → AreParts starts ends all → AreEnds (λ i j. (j ≡ i) ⊎ R i j) starts all
optional-ends R starts ends all e parts j = (
  λ h. elim ((parts j).0 h) [
    | inl k ↦ (j, k, inl refl)
    | inr k ↦ (let s = (e j).0 k in (s.0, s.1, inr s.2))
  ],
  λ h. elim h.2 [
    | inl same ↦ (parts j).1 (subst (Has starts) (sym same) h.1)
    | inr r ↦ (parts j).2 ((e j).1 (h.0, h.1, r))
  ],
)

pub optional-starts : (R : ℕ → ℕ → Type 0) (stops starts all : ℕ) → AreStarts R stops starts → AreParts stops starts all → AreStarts (λ i j. (j ≡ i) ⊎ R i j) stops all
optional-starts R stops starts all e parts i = (
  λ h. elim ((parts i).0 h) [
    | inl k ↦ (i, k, inl refl)
    | inr k ↦ (let s = (e i).0 k in (s.0, s.1, inr s.2))
  ],
  λ h. elim h.2 [
    | inl same ↦ (parts i).1 (subst (Has stops) same h.1)
    | inr r ↦ (parts i).2 ((e i).1 (h.0, h.1, r))
  ],
)

-- the masks of one set more
pub more-masks : (sets : List (List Span)) (label masks : List ℕ) (number value : ℕ) → number < length masks → AreMasksTo number sets label masks
    → AreThePlaces (is_in (get_or sets number [])) label value → AreMasksTo (number + 1) sets label (set masks number value)
more-masks sets label masks number value inside before now m l = elim (cases_order m number) [
  | inl e ↦ subst (λ n. AreThePlaces (is_in (get_or sets n [])) label (slice_index (set masks number value) n)) (sym e)
      (subst (AreThePlaces (is_in (get_or sets number [])) label) (sym (get_or-set_same masks number value 0 inside)) now)
  | inr o ↦ elim o [
    | inl less ↦ subst (AreThePlaces (is_in (get_or sets m [])) label) (sym (get_or-set_other masks number m value 0 (λ e. omega (arith, e, less)))) (before m less)
    | inr more ↦ absurd (omega (arith, l, more))
  ]
]
