-- The variants of labels that are variants of each other.
use Rattle.std.proofs.Common.{ℕ, Bool, List}
use Rattle.std.specs.Prelude.{IsTrue}
use Rattle.variant_table.specs.Entries.{TableValue}
use Rattle.variant_list.specs.Labels.{IsBelow, IsListOf}
use Rattle.variant_list.specs.MutualLaws.{VariantsAreMutual}
use Rattle.variant_list.specs.Spelling.{Spells}
use Rattle.variant_list.specs.Variants.{AreVariants, IsVariant}
use Rattle.variant_list.proofs.ListedLemmas.{IsListOf-same}
use Rattle.variant_list.proofs.MutualLemmas.{variants-first, variants-same}

module _ (accepts : List ℕ → Bool) (table : TableValue) (after : List ℕ) where
  -- what is asked of a variant, whatever label it is of
  abbrev IsTaken : List ℕ → Type 0
  IsTaken v = IsTrue (accepts v) × IsBelow after v

  taken : (label : List ℕ) (vs : List (List ℕ)) → AreVariants accepts table label after vs → IsListOf (λ v. IsTaken v × Spells table label v) vs
  taken label vs of_label = IsListOf-same (IsVariant accepts table label after) (λ v. IsTaken v × Spells table label v) vs (λ v. (λ h. ((h.accepted, h.greater), h.spelled), λ h. record { accepted = h.0.0; spelled = h.1; greater = h.0.1 })) of_label

pub variants_are_mutual : VariantsAreMutual
variants_are_mutual accepts table after label other vs ws symmetric asked asked_too of_label of_other =
    let P : List ℕ → Type 0 = IsTaken accepts table after in
    let first = taken accepts table after label vs of_label in
    let second = taken accepts table after other ws of_other in (
      variants-same table symmetric.well_formed symmetric.gaps symmetric.points symmetric.free P label other vs ws first second (asked_too.accepted, asked_too.greater) asked_too.cut,
      variants-first table symmetric.well_formed symmetric.gaps symmetric.points symmetric.free P label other vs ws first second (asked.accepted, asked.greater) (asked_too.accepted, asked_too.greater) asked.cut asked_too.cut,
    )
