-- What a table admits, by its test, or without one where it asks nothing.
use Rattle.std.proofs.Common.{◌≡◌, ◌≢◌, inl, refl, sym, subst, ℕ, List, [], Bool, true, false, Some, None, if◌then◌else◌}
use Rattle.idn_text.specs.declared.refusal.Refusal.{Refusal}
use Rattle.idn_text.specs.declared.refusal.Refusal.TheVariants as refusals
use Rattle.variant_dispositions.specs.declared.disposition.Disposition.{Disposition}
use Rattle.variant_dispositions.specs.declared.disposition.Disposition.TheVariants as outcomes
use Rattle.variant_table.specs.Entries.{TableValue}
use Rattle.variant_table.specs.Segmentations.{HasSegmentation, IsMadeOfSources}
use Rattle.valid_labels.specs.Testing.{IsAdmission}
use Rattle.valid_labels.specs.Tests.{asks_nothing}
use Rattle.valid_labels.specs.Validity.{IsSound}
use Rattle.valid_labels.specs.declared.validity.Admission.TheVariants.{Admitted}
use Rattle.valid_labels.proofs.NothingLemmas.{admitted-valid, nothing-is-asked}
use Rattle.valid_labels.proofs.TestLemmas.{tests-agree}
use Rattle.idn2_answers.specs.Answers.{IsRefusedAs}
use Rattle.idn2_cli.specs.inner.Ruling.{IsOwnBy, IsRefusedBy, ruling_of}

module _ (table : TableValue) (label : List ℕ) (sound : IsSound table) (some : label ≢ []) where
  free_admits : (d : Disposition) → true ≡ asks_nothing table → d ≡ outcomes.Valid → IsMadeOfSources table label → IsAdmission table label (Admitted d)
  free_admits d free own made =
      subst (λ (x : Disposition). IsAdmission table label (Admitted x)) (sym own) (nothing-is-asked.admitted table label sound.entries (nothing-is-asked.of_sources table ((tests-agree.nothing table sound.entries).0 (sym free))) some made)

  -- a label that is made of sources, with its disposition
  pub own-admission : (d : Disposition) → IsMadeOfSources table label → IsOwnBy (ruling_of table) label d → IsAdmission table label (Admitted d)
  own-admission d made own = by_test (asks_nothing table) refl own
    where
      by_test : (b : Bool) → b ≡ asks_nothing table → IsOwnBy (if b then None else Some table) label d → IsAdmission table label (Admitted d)
      by_test true free own = free_admits d free own made
      by_test false asks own = own

  -- one that can't be cut into sources
  pub unsegmented-refused : (d : Disposition) → IsOwnBy (ruling_of table) label d → ¬ HasSegmentation table label → IsRefusedAs table label refusals.NotInTable
  unsegmented-refused d own none = by_test (asks_nothing table) refl own
    where
      by_test : (b : Bool) → b ≡ asks_nothing table → IsOwnBy (if b then None else Some table) label d → IsRefusedAs table label refusals.NotInTable
      by_test true free own = inl (λ made. none (admitted-valid.segmented table label (free_admits d free own made).0), refl)
      by_test false asks own = absurd (none (admitted-valid.segmented table label own.0))

-- why it is refused by the table of its test
pub refused-by : (table : TableValue) (label : List ℕ) (refusal : Refusal) → IsRefusedBy (ruling_of table) label refusal → IsRefusedAs table label refusal
refused-by table label refusal is = by_test (asks_nothing table) is
  where
    by_test : (b : Bool) → IsRefusedBy (if b then None else Some table) label refusal → IsRefusedAs table label refusal
    by_test true is = absurd is
    by_test false is = is
