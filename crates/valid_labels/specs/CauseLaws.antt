-- The law of causes.
use Rattle.std.specs.Prelude.{◌≡◌, ◌↔◌, ℕ, true, Some, List}
use Rattle.std.specs.Option.{is_some}
use Rattle.variant_table.specs.Entries.{TableValue}
use Rattle.valid_labels.specs.declared.cause.ValidityCause.{ValidityCause}
use Rattle.valid_labels.specs.Causes.{IsCause, cause_of}
use Rattle.valid_labels.specs.Validity.{AllowsAnyCut, IsSound, IsAdmitted}

-- the cause that is told is the one that there is; a label that may not be asked about has one; and one that may has
-- none, unless a table of version 1 or 2 lets it be cut in another way than longest first
pub record CauseIsExact : Type 0 where
  pub exactly : (table : TableValue) (label : List ℕ) (cause : ValidityCause) → IsSound table
      → (cause_of table label ≡ Some cause) ↔ IsCause table label cause
  pub told : (table : TableValue) (label : List ℕ) → IsSound table → ¬ IsAdmitted table label
      → is_some (cause_of table label) ≡ true
  pub alone : (table : TableValue) (label : List ℕ) (cause : ValidityCause) → IsSound table → ¬ AllowsAnyCut table
      → IsCause table label cause → ¬ IsAdmitted table label
