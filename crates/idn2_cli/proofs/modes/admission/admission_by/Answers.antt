use Rattle.std.proofs.Common.{ap, sym, subst, ◌∙◌}
use Rattle.std.specs.Prelude.{IfOk}
use Rattle.variant_table.specs.Entries.{TableValue}
use Rattle.valid_labels.specs.Actions.{actions_of}
use Rattle.valid_labels.specs.Testing.{IsAdmission}
use Rattle.valid_labels.proofs.NothingLemmas.{nothing-is-asked}
use Rattle.idn2_cli.specs.inner.Ruling.{ruling_in}
use Rattle.idn2_cli.proofs.RulingLemmas.{nothing-asked, same-table, some-point}
use Rattle.idn2_cli.proofs.modes.admission.admission_by.Goals as goal

pub returns-then-is_made_of_sources-clause-admission : goal.returns-then-is_made_of_sources-clause-admission
returns-then-is_made_of_sources-clause-admission c =
    let table = c.args.table.now in
    let free = nothing-asked table c.requires.sound (sym (ap ruling_in c.in-None.is) ∙ c.requires.ruling) in
    nothing-is-asked.admitted table c.args.label.now c.requires.sound.entries (nothing-is-asked.of_sources table free) (some-point c.args.label.now c.requires.some) (c.is_made_of_sources.ensures.0 c.if-is_made_of_sources.true)

pub admission-requires-clause-actions : goal.admission-requires-clause-actions
admission-requires-clause-actions c =
    let same = same-table c.in-Some.test c.args.table.now (sym (ap ruling_in c.in-Some.is) ∙ c.requires.ruling) in
    c.requires.actions ∙ ap (λ (t : TableValue). actions_of t.definitions) (sym same)

pub returns-in-Some-clause-admission : goal.returns-in-Some-clause-admission
returns-in-Some-clause-admission c =
    let same = same-table c.in-Some.test c.args.table.now (sym (ap ruling_in c.in-Some.is) ∙ c.requires.ruling) in
    subst (λ (t : TableValue). IfOk c.admission.result (IsAdmission t c.args.label.now)) same c.admission.ensures.admission
