-- The first label of a name that fails a test. Labels are counted from 0.
use Rattle.std.specs.Prelude.{◌≡◌, ℕ, suc, Bool, List, [], ◌∷◌, ◌++◌, length, Option, Some, None, if◌then◌else◌}
use Rattle.std.specs.List.{AllByRecursion}

-- the first of these labels at which the test fails, with its number, if the first of them has this one
abbrev pub first_failing_label : (List ℕ → Bool) → ℕ → List (List ℕ) → Option (ℕ × List ℕ)
first_failing_label passes number [] = None
first_failing_label passes number (label ∷ labels) =
    if passes label then first_failing_label passes (suc number) labels else Some (number, label)

-- the same by what it has to be: what is asked fails for the label of this number, and holds for each label before
pub record IsFirstFailingLabel (labels : List (List ℕ)) (Passes : List ℕ → Type 0) (number : ℕ)
    (label : List ℕ) : Type 0 where
  pub before : List (List ℕ)
  pub after : List (List ℕ)
  pub split : labels ≡ before ++ label ∷ after
  pub counted : number ≡ length before
  pub earlier : AllByRecursion Passes before
  pub fails : ¬ (Passes label)
