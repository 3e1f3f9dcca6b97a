-- Whether a label may be asked about, by what is told of it itself.
use Rattle.std.proofs.Common.{◌≡◌, ◌↔◌, ℕ, inl, inr, Bool, true, false, List, refl, subst}
use Rattle.std.specs.Prelude.{Option, Some, None}
use Rattle.variant_dispositions.specs.declared.disposition.Disposition.{Disposition}
use Rattle.variant_dispositions.specs.declared.disposition.Disposition.TheVariants.{Invalid}
use Rattle.variant_dispositions.specs.declared.variant.VariantDisposition.{VariantDisposition}
use Rattle.variant_dispositions.specs.declared.variant.VariantDisposition.TheVariants.{Clear, Unclear}
use Rattle.variant_table.specs.Entries.{TableValue}
use Rattle.variant_table.specs.Segmentations.{IsMadeOfSources}
use Rattle.valid_labels.specs.Causes.{IsDisposed}
use Rattle.valid_labels.specs.Dispositions.{IsClearItself, IsOwnDisposition, told_itself}
use Rattle.valid_labels.specs.Testing.{IsAdmission, admission_by, admission_of}
use Rattle.valid_labels.specs.Tests.{is_invalid}
use Rattle.valid_labels.specs.Validity.{AsksNothing, IsAdmitted, IsSound, IsValid}
use Rattle.valid_labels.proofs.EligibleLemmas.{eligible-segmentation, opposite}
use Rattle.valid_labels.proofs.ItselfLemmas.{one-disposition, told-clear, told-none, told-unclear}
use Rattle.valid_labels.proofs.NothingLemmas.{any-cut-asks_nothing}
use Rattle.valid_labels.proofs.SegmentationLemmas.{made-from_segmentation}
use Rattle.valid_labels.proofs.TestLemmas.{invalid-agrees}

module _ (table : TableValue) (label : List ℕ) where
  -- under a table that asks something a label that may be asked about is eligible
  pub admitted-disposed : (AsksNothing table → ⊥) → IsAdmitted table label → IsDisposed table label
  admitted-disposed asks h = record { eligible = elim h.cut [ inl any ↦ absurd (asks (any-cut-asks_nothing table any.0)) | inr eligible ↦ eligible ]; met = h.met }

  -- and each that is valid is disposed
  pub disposed-valid : (AsksNothing table → ⊥) → IsDisposed table label ↔ IsValid table label
  disposed-valid asks = (
    λ d. record { cut = inr d.eligible; met = d.met },
    λ h. record { eligible = elim h.cut [ inl any ↦ absurd (asks (any-cut-asks_nothing table any)) | inr eligible ↦ eligible ]; met = h.met },
  )

  pub admission-told : IsSound table → IsDisposed table label → IsAdmission table label (admission_of (told_itself table label))
  admission-told sound disposed = by_value (told_itself table label) refl
    where
      made : IsMadeOfSources table label
      made = made-from_segmentation table label (eligible-segmentation table label disposed.eligible)

      by_invalid : (d : Disposition) → IsClearItself table label → IsOwnDisposition table label d → (b : Bool) → is_invalid d ≡ b → IsAdmission table label (admission_by b d)
      by_invalid d clear own true is = (made, λ h. h.not_invalid (subst (IsOwnDisposition table label) ((invalid-agrees d).0 is) own))
      by_invalid d clear own false is = (
        record {
          cut = inr disposed.eligible;
          met = disposed.met;
          clear = clear;
          not_invalid = λ other. opposite (is_invalid d) ((invalid-agrees d).1 (one-disposition table label d Invalid clear own other)) is;
        },
        own,
      )

      by_value : (o : Option VariantDisposition) → told_itself table label ≡ o → IsAdmission table label (admission_of o)
      by_value None is = absurd ((told-none table label sound).0 is (eligible-segmentation table label disposed.eligible))
      by_value (Some Unclear) is = (made, λ h. (told-unclear table label sound).0 is h.clear)
      by_value (Some (Clear d)) is = (let own = (told-clear table label sound d).0 is in by_invalid d own.0 own.1 (is_invalid d) refl)
