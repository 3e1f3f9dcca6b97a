-- The first place at which a test fails.
use Rattle.std.proofs.Common.{◌≡◌, ℕ, zero, suc, ◌+◌, ◌<◌, Bool, true, false, ◌&&◌, ◌||◌, not, ◌⊎◌, ◌↔◌, List, [], ◌∷◌, length, map, Option, None, Some, refl, sym, ap, ◌∙◌, inl, inr, arith}
use Rattle.std.proofs.Math.Bool.{not-not}
use Rattle.std.specs.Option.{is_some}
use Rattle.std.proofs.lemmas.Bool.{cases_lt, false_from_ne_true, and_from}
use Rattle.idn_class.specs.Tests.{all_places, is_en, is_an, is_rtl, is_ltr}
use Rattle.idn_class.proofs.BidiLemmas.{list_any-classes}
use Rattle.idn_class.specs.declared.bidi_class.BidiClass.{BidiClass}
use Rattle.idn_class.specs.declared.bidi_class.BidiClass.TheVariants.{L, R, AL}
use Rattle.idn_class.specs.declared.broken.BidiCondition.TheVariants.{First}
use Rattle.idn_class.specs.BidiClass.{bidi_class}
use Rattle.idn_class.proofs.TestLemmas.{all_places-at}
use Rattle.idn_class.specs.Causes.{IsFirstFailing, earlier_or, first_failing, class_at, some_place, numbers_agree_to, broken_at, broken_in_rtl, broken_in_ltr, broken_in_name}
use Rattle.idn_class.specs.declared.properties.Properties.{Properties}

-- no place fails
pub first_failing-none : (n : ℕ) (passes : ℕ → Bool) → ((k : ℕ) → k < n → passes k ≡ true) → first_failing n passes ≡ None
first_failing-none zero passes each = refl
first_failing-none (suc n) passes each =
    rw (first_failing-none n passes (λ k low. each k (omega arith)), each n (omega arith)) refl

-- a place fails, and none before it does
pub first_failing-found : (n : ℕ) (passes : ℕ → Bool) (place : ℕ) → place < n → passes place ≡ false → ((k : ℕ) → k < place → passes k ≡ true) → first_failing n passes ≡ Some place
first_failing-found zero passes place within fails before = absurd (omega arith)
first_failing-found (suc n) passes place within fails before =
    elim (cases_lt place n) [
      | inl lt ↦ rw (first_failing-found n passes place lt fails before) refl
      | inr from ↦
          let same : place ≡ n = omega arith in
          let here : passes n ≡ false = sym (ap passes same) ∙ fails in
          rw (first_failing-none n passes (λ k low. before k (omega arith)), here) (ap Some (sym same))
    ]

earlier_none : (earlier : Option ℕ) (passes : Bool) (n : ℕ) → earlier_or earlier passes n ≡ None → (earlier ≡ None) × (passes ≡ true)
earlier_none None true n none = (refl, refl)
earlier_none None false n none = cc
earlier_none (Some place) passes n none = cc

pub first_failing-no : (n : ℕ) (passes : ℕ → Bool) → first_failing n passes ≡ None → all_places n passes ≡ true
first_failing-no zero passes none = refl
first_failing-no (suc n) passes none =
    let parts = earlier_none (first_failing n passes) (passes n) n none in
    and_from (passes n) (all_places n passes) parts.1 (first_failing-no n passes parts.0)

nothing_told : (earlier : Option ℕ) (here : Bool) (n : ℕ) → is_some (earlier_or earlier here n) ≡ not (here && not (is_some earlier))
nothing_told None true n = refl
nothing_told None false n = refl
nothing_told (Some place) true n = refl
nothing_told (Some place) false n = refl

failing-all_places : (n : ℕ) (passes : ℕ → Bool) → is_some (first_failing n passes) ≡ not (all_places n passes)
failing-all_places zero passes = refl
failing-all_places (suc n) passes = nothing_told (first_failing n passes) (passes n) n ∙ ap (λ some. not (passes n && not some)) (failing-all_places n passes) ∙ ap (λ all. not (passes n && all)) (not-not (all_places n passes))

-- whether no place is told is whether the test holds at all
pub none_failing : (n : ℕ) (passes : ℕ → Bool) (none : Bool) → is_some (first_failing n passes) ≡ not none → none ≡ all_places n passes
none_failing n passes none told =
    sym (not-not none) ∙ ap not (sym told ∙ failing-all_places n passes) ∙ not-not (all_places n passes)

-- the same by the rule that the test decides
pub first_failing-found_by : (n : ℕ) (passes : ℕ → Bool) (Passes : ℕ → Type 0) → ((k : ℕ) → k < n → (passes k ≡ true) ↔ Passes k) → (place : ℕ) → place < n → ¬ (Passes place) → ((k : ℕ) → k < place → Passes k) → first_failing n passes ≡ Some place
first_failing-found_by n passes Passes agree place within fails before =
    first_failing-found n passes place within (false_from_ne_true (passes place) (λ h. fails ((agree place within).0 h)))
    (λ k low. (agree k (omega arith)).1 (before k low))

pub first_failing-none_by : (n : ℕ) (passes : ℕ → Bool) (Passes : ℕ → Type 0) → ((k : ℕ) → k < n → (passes k ≡ true) ↔ Passes k) → ((k : ℕ) → k < n → Passes k) → first_failing n passes ≡ None
first_failing-none_by n passes Passes agree each = first_failing-none n passes (λ k low. (agree k low).1 (each k low))

-- ---- the Bidi rule

module _ (properties : Properties) where
  -- up to a place, by what is known of the places before it
  pub numbers_at : (label : List ℕ) (p : ℕ) (class : BidiClass) (e a en an : Bool) → class ≡ class_at properties label p → e ≡ is_en class → a ≡ is_an class → en ≡ some_place p (λ k. is_en (class_at properties label k)) → an ≡ some_place p (λ k. is_an (class_at properties label k)) → numbers_agree_to properties label p ≡ not ((e || en) && (a || an))
  numbers_at label p class e a en an here is_e is_a before_e before_a = rw (is_e, is_a, before_e, before_a, here) refl

  pub some_more : (holds : ℕ → Bool) (p : ℕ) (here before : Bool) → here ≡ holds p → before ≡ some_place p holds → (here || before) ≡ some_place (p + 1) holds
  some_more holds p here before is so =
      let next : suc p ≡ p + 1 = omega arith in
      let grown : (here || before) ≡ some_place (suc p) holds = rw (is, so) refl in
      grown ∙ ap (λ n. some_place n holds) next

  -- the class of the first code point tells which conditions are asked
  pub in_name-empty : (label : List ℕ) → length label ≡ 0 → broken_in_name properties label ≡ None
  unfolding broken_in_name
  in_name-empty [] none = refl
  in_name-empty (c ∷ label) none = absurd (omega arith)

  pub in_name-ltr : (label : List ℕ) → 0 < length label → class_at properties label 0 ≡ L → broken_in_name properties label ≡ broken_in_ltr properties label
  unfolding broken_in_name
  in_name-ltr [] within first = absurd (omega arith)
  in_name-ltr (c ∷ label) within first = rw first refl

  pub in_name-rtl : (label : List ℕ) → 0 < length label → (class_at properties label 0 ≡ R) ⊎ (class_at properties label 0 ≡ AL) → broken_in_name properties label ≡ broken_in_rtl properties label
  unfolding broken_in_name
  in_name-rtl [] within first = absurd (omega arith)
  in_name-rtl (c ∷ label) within first = elim first [ inl r ↦ rw r refl | inr al ↦ rw al refl ]

  first_other : (class : BidiClass) (classes : List BidiClass) → (class ≡ L → ⊥) → (class ≡ R → ⊥) → (class ≡ AL → ⊥) → (is_rtl (class ∷ classes) ≡ false) × (is_ltr (class ∷ classes) ≡ false)
  first_other L classes l r al = absurd (l refl)
  first_other R classes l r al = absurd (r refl)
  first_other AL classes l r al = absurd (al refl)
  first_other _ classes l r al = (refl, refl)

  pub in_name-first : (label : List ℕ) → 0 < length label → (class_at properties label 0 ≡ L → ⊥) → (class_at properties label 0 ≡ R → ⊥) → (class_at properties label 0 ≡ AL → ⊥) → broken_in_name properties label ≡ broken_at First (Some 0)
  unfolding broken_in_name
  in_name-first [] within l r al = absurd (omega arith)
  in_name-first (c ∷ label) within l r al =
      let other = first_other (bidi_class properties c) (map (bidi_class properties) label) l r al in rw (other.0, other.1) refl

pub ruleset first_places = (first_failing-none, first_failing-found)

pub ruleset class_lists = (list_any-classes)

-- ---- a place that is told is the first that fails, and there is no other such place

earlier_some : (earlier : Option ℕ) (passes : Bool) (n place : ℕ) → earlier_or earlier passes n ≡ Some place → (earlier ≡ Some place) ⊎ ((earlier ≡ None) × (passes ≡ false) × (n ≡ place))
earlier_some None true n place told = cc
earlier_some None false n place told = let same : Some n ≡ Some place = told in let at : n ≡ place = cc in inr (refl, refl, at)
earlier_some (Some earlier) passes n place told = inl told

pub first_failing-some : (n : ℕ) (passes : ℕ → Bool) (place : ℕ) → first_failing n passes ≡ Some place → (place < n) × (passes place ≡ false) × ((k : ℕ) → k < place → passes k ≡ true)
first_failing-some zero passes place told = let clash : None ≡ Some place = told in cc
first_failing-some (suc n) passes place told =
    elim (earlier_some (first_failing n passes) (passes n) n place told) [
      | inl before ↦ let found = first_failing-some n passes place before in let within : place < n = found.0 in (omega arith, found.1, found.2)
      | inr here ↦
          let same : n ≡ place = here.2 in
          (omega arith, ap passes (sym same) ∙ here.1, λ k low. all_places-at n passes (first_failing-no n passes here.0) k (omega arith))
    ]

pub failing_in-is : (label : List ℕ) (passes : ℕ → Bool) (Passes : ℕ → Type 0) → ((k : ℕ) → k < length label → (passes k ≡ true) ↔ Passes k) → (place : ℕ) → (first_failing (length label) passes ≡ Some place) ↔ IsFirstFailing label Passes place
failing_in-is label passes Passes agree place = (
  λ told.
      let found = first_failing-some (length label) passes place told in
      let within : place < length label = found.0 in
      record {
        within = within;
        fails = λ holds. let clash : false ≡ true = sym found.1 ∙ (agree place within).1 holds in cc;
        before = λ k low. (agree k (omega arith)).0 (found.2 k low);
      },
  λ first. first_failing-found_by (length label) passes Passes agree place first.within first.fails first.before,
)

-- no two places are the first
pub first_place-unique : (label : List ℕ) (Passes : ℕ → Type 0) (p q : ℕ) → IsFirstFailing label Passes p → IsFirstFailing label Passes q → p ≡ q
first_place-unique label Passes p q first second =
    elim (cases_lt p q) [
      | inl lt ↦ absurd (first.fails (second.before p lt))
      | inr from ↦
          elim (cases_lt q p) [
            | inl lt ↦ absurd (second.fails (first.before q lt))
            | inr upto ↦ omega arith
          ]
    ]

pub no_first_place : (label : List ℕ) (passes : ℕ → Bool) (Passes : ℕ → Type 0) → ((k : ℕ) → k < length label → (passes k ≡ true) ↔ Passes k) → first_failing (length label) passes ≡ None → (k : ℕ) → k < length label → Passes k
no_first_place label passes Passes agree none k low = (agree k low).0 (all_places-at (length label) passes (first_failing-no (length label) passes none) k low)
