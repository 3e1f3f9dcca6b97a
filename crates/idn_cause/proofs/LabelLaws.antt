-- The first label of a name that fails a test, and what causes of names are.
use Rattle.std.proofs.Common.{◌≡◌, ℕ, suc, ◌+◌, Bool, true, false, ◌↔◌, List, [], ◌∷◌, ◌++◌, length, cond, None, Some, refl, sym, ap, subst, ◌∙◌, arith}
use Rattle.std.specs.Prelude.{IsTrue}
use Rattle.std.specs.List.{AllByRecursion}
use Rattle.std.proofs.lemmas.Bool.{false_from_ne_true}
use Rattle.idn_cause.specs.NameLabels.{first_failing_label, IsFirstFailingLabel}

abbrev pub Found : Type 0
Found = ℕ × List ℕ

abbrev Passing : (List ℕ → Bool) → List ℕ → Type 0
Passing passes label = IsTrue (passes label)

-- what is told of labels of which the first has this number
record IsTold (passes : List ℕ → Bool) (number : ℕ) (labels : List (List ℕ)) (found : Found) : Type 0 where
  before : List (List ℕ)
  after : List (List ℕ)
  split : labels ≡ before ++ found.1 ∷ after
  counted : found.0 ≡ number + length before
  earlier : AllByRecursion (Passing passes) before
  fails : passes found.1 ≡ false

told : (passes : List ℕ → Bool) (number : ℕ) (labels : List (List ℕ)) (found : Found) → first_failing_label passes number labels ≡ Some found → IsTold passes number labels found
told passes number [] found h = let clash : None ≡ Some found = h in cc
told passes number (label ∷ labels) found h = by_test (told passes (suc number) labels found) (passes label) refl h
  where
    by_test : (first_failing_label passes (suc number) labels ≡ Some found → IsTold passes (suc number) labels found) → (test : Bool) → passes label ≡ test → cond test (first_failing_label passes (suc number) labels) (Some (number, label)) ≡ Some found → IsTold passes number (label ∷ labels) found
    by_test told_later true e is =
        let later = told_later is in
        let count = later.counted in
        record {
          before = label ∷ later.before;
          after = later.after;
          split = ap (λ ls. label ∷ ls) later.split;
          counted = omega arith;
          earlier = (e, later.earlier);
          fails = later.fails;
        }
    by_test told_later false e is =
        let same : (number, label) ≡ found = cc in
        subst (IsTold passes number (label ∷ labels)) same (record {
          before = [];
          after = labels;
          split = refl;
          counted = omega arith;
          earlier = tt;
          fails = e;
        })

from_parts : (passes : List ℕ → Bool) (number : ℕ) (before after : List (List ℕ)) (label : List ℕ) → AllByRecursion (Passing passes) before → passes label ≡ false → first_failing_label passes number (before ++ label ∷ after) ≡ Some (number + length before, label)
from_parts passes number [] after label earlier fails =
    let same : number ≡ number + 0 = omega arith in rw fails (ap (λ n. Some (n, label)) same)
from_parts passes number (first ∷ before) after label earlier fails =
    let same : suc number + length before ≡ number + suc (length before) = omega arith in
    rw earlier.0 (from_parts passes (suc number) before after label earlier.1 fails ∙ ap (λ n. Some (n, label)) same)

pub first_failing_label-is : (passes : List ℕ → Bool) (labels : List (List ℕ)) (number : ℕ) (label : List ℕ) → (first_failing_label passes 0 labels ≡ Some (number, label)) ↔ IsFirstFailingLabel labels (λ l. IsTrue (passes l)) number label
first_failing_label-is passes labels number label = (
  λ h.
      let is = told passes 0 labels (number, label) h in
      let count = is.counted in
      record {
        before = is.before;
        after = is.after;
        split = is.split;
        counted = omega arith;
        earlier = is.earlier;
        fails = λ holds. let clash : true ≡ false = sym holds ∙ is.fails in cc;
      },
  λ first.
      let count = first.counted in
      let same : 0 + length first.before ≡ number = omega arith in
      ap (first_failing_label passes 0) first.split
      ∙ from_parts passes 0 first.before first.after label first.earlier (false_from_ne_true (passes label) first.fails)
      ∙ ap (λ n. Some (n, label)) same,
)

-- no label is told if each of them passes, and only then
pub first_failing_label-none : (passes : List ℕ → Bool) (number : ℕ) (labels : List (List ℕ)) → (first_failing_label passes number labels ≡ None) ↔ AllByRecursion (λ l. IsTrue (passes l)) labels
first_failing_label-none passes number [] = (λ h. tt, λ all. refl)
first_failing_label-none passes number (label ∷ labels) = (by_test (first_failing_label-none passes (suc number) labels).0 (passes label) refl, λ all. rw all.0 ((first_failing_label-none passes (suc number) labels).1 all.1))
  where
    by_test : (first_failing_label passes (suc number) labels ≡ None → AllByRecursion (λ l. IsTrue (passes l)) labels) → (test : Bool) → passes label ≡ test → cond test (first_failing_label passes (suc number) labels) (Some (number, label)) ≡ None → AllByRecursion (λ l. IsTrue (passes l)) (label ∷ labels)
    by_test all_later true e none = (e, all_later none)
    by_test all_later false e none = let clash : Some (number, label) ≡ None = none in cc
