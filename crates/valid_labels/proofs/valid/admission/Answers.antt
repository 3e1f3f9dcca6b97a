use Rattle.std.proofs.Common.{sym, ap, subst, ◌∙◌}
use Rattle.std.specs.Prelude.{Option}
use Rattle.variant_dispositions.specs.declared.variant.VariantDisposition.{VariantDisposition}
use Rattle.variant_table.specs.Entries.{TableValue}
use Rattle.valid_labels.specs.Dispositions.{told_itself}
use Rattle.valid_labels.specs.Testing.{IsAdmission, admission_of}
use Rattle.valid_labels.specs.Validity.{IsAdmitted}
use Rattle.valid_labels.proofs.AdmissionLemmas.{admission-told, admitted-disposed}
use Rattle.valid_labels.proofs.EligibleLemmas.{opposite}
use Rattle.valid_labels.proofs.valid.admission.Goals as goal

pub refusal_of-requires-clause-refused : goal.refusal_of-requires-clause-refused
refusal_of-requires-clause-refused c =
    subst (λ (t : TableValue). ¬ IsAdmitted t c.args.label.now) (sym c.table-table.ensures)
    (λ h. opposite c.is_disposed.result (c.is_disposed.ensures.1 (admitted-disposed c.args.segments.now c.args.label.now c.recall_soundness.ensures.asks h)) c.if-not-is_disposed.true)

pub returns-then-not-is_disposed : goal.returns-then-not-is_disposed
returns-then-not-is_disposed c = subst (λ (t : TableValue). IsAdmission t c.args.label.now c.refusal_of.result) c.table-table.ensures c.refusal_of.ensures

pub returns : goal.returns
returns c =
    let table = c.args.segments.now in
    let label = c.args.label.now in
    let told = c.in_ok-told.ensures ∙ ap (λ (t : TableValue). told_itself t label) c.table-table.ensures in
    subst (IsAdmission table label) (sym (c.admission_told.ensures ∙ ap admission_of told))
    (admission-told table label c.recall_soundness.ensures.sound (c.is_disposed.ensures.0 c.if-not-is_disposed.false))
