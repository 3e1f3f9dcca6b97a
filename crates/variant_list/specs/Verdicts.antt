-- What a judge says of a label.
use Rattle.std.specs.Prelude.{◌≡◌, ℕ, Bool, true, false, List, Some, None}
use Rattle.variant_list.specs.Beginnings.{shortest_hopeless}
use Rattle.variant_list.specs.declared.verdict.Verdict.{Verdict}
use Rattle.variant_list.specs.declared.verdict.Verdict.TheVariants.{DeadPrefix, Accepted, NotAccepted}

-- whether the label is accepted, and what is told of it if it is
abbrev pub IsAnswer : (List ℕ → Bool) → (List ℕ → Type 0) → List ℕ → Bool → Type 0
IsAnswer accepts tells label true = (accepts label ≡ true) × tells label
IsAnswer accepts tells label false = accepts label ≡ false

-- the verdict on a label: its shortest dead prefix, or whether it is accepted
abbrev pub IsVerdict : (List ℕ → Bool) → (List ℕ → Bool) → (List ℕ → Type 0) → List ℕ → Verdict → Type 0
IsVerdict accepts hopeless tells label (DeadPrefix count) = shortest_hopeless hopeless label ≡ Some count
IsVerdict accepts hopeless tells label Accepted =
    (shortest_hopeless hopeless label ≡ None) × IsAnswer accepts tells label true
IsVerdict accepts hopeless tells label NotAccepted =
    (shortest_hopeless hopeless label ≡ None) × IsAnswer accepts tells label false
