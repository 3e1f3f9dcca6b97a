use Rattle.std.proofs.Common.{ap, sym, subst, ◌∙◌}
use Rattle.std.specs.Prelude.{Option, ◌≢◌}
use Rattle.std.proofs.lemmas.Result.{err_from_is_err_and}
use Rattle.idn_text.specs.declared.refusal.Refusal.TheVariants.{Memory}
use Rattle.variant_table.specs.Entries.{TableValue}
use Rattle.valid_labels.specs.Actions.{actions_of}
use Rattle.valid_labels.specs.Validity.{IsSound}
use Rattle.valid_labels.proofs.SegmentationLemmas.{made-from_segmentation}
use Rattle.idn2_answers.specs.Answers.{IsRefusedAs}
use Rattle.idn2_cli.specs.inner.Ruling.{IsOwnBy, IsRefusedBy, ruling_in}
use Rattle.idn2_cli.proofs.AdmissionLemmas.{own-admission, refused-by, unsegmented-refused}
use Rattle.idn2_cli.proofs.RulingLemmas.{same-table, some-point}
use Rattle.idn2_cli.proofs.modes.admission.admitted_net.Goals as goal

pub own_disposition-requires-clause-tested : goal.own_disposition-requires-clause-tested
own_disposition-requires-clause-tested c = λ test is.
    let same = same-table test c.args.table.now (sym (ap ruling_in is) ∙ c.requires.ruling) in (
      subst IsSound (sym same) c.requires.sound,
      c.requires.actions ∙ ap (λ (t : TableValue). actions_of t.definitions) (sym same),
    )

pub returns-in_err-disposition-clause-refused : goal.returns-in_err-disposition-clause-refused
returns-in_err-disposition-clause-refused c =
    let p = err_from_is_err_and c.from_residual.result c.from_residual.ensures.1 in
    let table = c.args.table.now in
    let label = c.args.label.now in
    let refusal = c.in_err-disposition.field-0.0 in
    let refused : refusal ≢ Memory → IsRefusedAs table label refusal = λ other.
    refused-by table label refusal
    (subst (λ (r : Option TableValue). IsRefusedBy r label refusal) c.requires.ruling (c.in_err-disposition.ensures.refused other)) in
    rw (p.1, p.2) refused

pub returns-in-Ok-clause-admitted : goal.returns-in-Ok-clause-admitted
returns-in-Ok-clause-admitted c =
    let table = c.args.table.now in
    let label = c.args.label.now in
    own-admission table label c.requires.sound (some-point label c.requires.some) c.in_ok-disposition.disposition (made-from_segmentation table label c.in-Ok.ensures.segmented)
    (subst (λ (r : Option TableValue). IsOwnBy r label c.in_ok-disposition.disposition) c.requires.ruling c.in_ok-disposition.ensures.admitted)

pub returns-in-Err-NothingSpelled-clause-refused : goal.returns-in-Err-NothingSpelled-clause-refused
returns-in-Err-NothingSpelled-clause-refused c = λ _.
    let table = c.args.table.now in
    let label = c.args.label.now in
    unsegmented-refused table label c.requires.sound (some-point label c.requires.some) c.in_ok-disposition.disposition
    (subst (λ (r : Option TableValue). IsOwnBy r label c.in_ok-disposition.disposition) c.requires.ruling c.in_ok-disposition.ensures.admitted)
    (c.in-Err-NothingSpelled.ensures.nothing_spelled c.in-Err-NothingSpelled.field-0-is)
