-- What a test of labels says and keeps.
use Rattle.std.specs.Prelude.{◌≡◌, ℕ, min, Bool, true, false, Option, Some, None, List, length, take, refl}
use Rattle.std.specs.Coded.{Coded, code_by, coded×, coded_ℕ, coded_list}
use Rattle.variant_dispositions.specs.declared.disposition.Disposition.{Disposition}
use Rattle.variant_dispositions.specs.declared.variant.VariantDisposition.{VariantDisposition}
use Rattle.variant_dispositions.specs.declared.variant.VariantDisposition.TheVariants.{Clear, Unclear}
use Rattle.variant_table.specs.Entries.{TableValue}
use Rattle.variant_table.specs.TableCodes.{table_code}
use Rattle.valid_labels.specs.declared.validity.Admission.{Admission}
use Rattle.valid_labels.specs.declared.validity.Admission.TheVariants.{NotCut, NotAdmitted, Admitted}
use Rattle.valid_labels.specs.declared.validity.Validity.{Validity}
use Rattle.valid_labels.specs.declared.validity.Validity.TheVariants as validity
use Rattle.variant_table.specs.Segmentations.{IsMadeOfSources}
use Rattle.valid_labels.specs.Dispositions.{IsOwnDisposition}
use Rattle.valid_labels.specs.Tests.{is_invalid}
use Rattle.valid_labels.specs.Validity.{IsAdmitted, IsValid, IsShortestDeadUnder, HasNoDeadPrefixUnder}

-- the table whose labels are tested, and the label that was tested last
pub record Testing : Type 0 where
  pub table : TableValue
  pub cached : List ℕ

abbrev pub testing_code : Coded Testing
testing_code =
    code_by (TableValue × List ℕ) (coded× table_code (coded_list coded_ℕ)) (λ t. (t.table, t.cached))
    (λ p. record { table = p.0; cached = p.1 }) (λ _. refl)

-- of the cached label as many code points as are shared, or all if it has fewer, are the first ones of this label
abbrev pub SharesCached : ℕ → List ℕ → List ℕ → Type 0
SharesCached shared cached label = take (min shared (length cached)) cached ≡ take (min shared (length cached)) label

-- whether a label may be asked about, and with which disposition, and if not, why
abbrev pub IsAdmission : TableValue → List ℕ → Admission → Type 0
IsAdmission table label NotCut = ¬ IsMadeOfSources table label
IsAdmission table label NotAdmitted = IsMadeOfSources table label × (¬ IsAdmitted table label)
IsAdmission table label (Admitted d) = IsAdmitted table label × IsOwnDisposition table label d

-- by what is told of a label itself, where nothing else is left to ask
abbrev pub admission_by : Bool → Disposition → Admission
admission_by true d = NotAdmitted
admission_by false d = Admitted d

abbrev pub admission_of : Option VariantDisposition → Admission
admission_of None = NotAdmitted
admission_of (Some Unclear) = NotAdmitted
admission_of (Some (Clear d)) = admission_by (is_invalid d) d

-- whether a label is valid, and if not, how long its shortest dead prefix is
abbrev pub IsValidity : TableValue → List ℕ → Validity → Type 0
IsValidity table label validity.Valid = IsValid table label × HasNoDeadPrefixUnder table label
IsValidity table label (validity.DeadPrefix n) = IsShortestDeadUnder table label n
IsValidity table label validity.NotValid = (¬ IsValid table label) × HasNoDeadPrefixUnder table label
