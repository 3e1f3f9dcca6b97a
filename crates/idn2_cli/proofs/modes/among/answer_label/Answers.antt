use Rattle.std.proofs.Common.{List, ℕ, Some, sym, subst}
use Rattle.idn_label.proofs.RequirementLemmas.{MeetsRequirements-registrable}
use Rattle.variant_table.specs.Entries.{TableValue}
use Rattle.idn2_options.specs.Settings.{Settings, keeping}
use Rattle.idn2_answers.specs.Collisions.{IsGood, collision_block}
use Rattle.idn2_output.specs.Writing.{Emits}
use Rattle.idn2_cli.specs.inner.Asked.{lines_to}
use Rattle.idn2_cli.proofs.RefusedLines.{answered_none, emits_answered, refused_is, replies_refusal}
use Rattle.idn2_answers.proofs.AdmittedLabels.{admitted-made, admitted_answer, refused_answer, some-length}
use Rattle.idn2_cli.proofs.modes.among.answer_label.Goals as goal

pub near-requires-clause-some : goal.near-requires-clause-some
near-requires-clause-some g c = some-length c.args.label.now (MeetsRequirements-registrable c.args.mode.now.options.now.properties c.args.label.now c.requires.registrable).some

pub near-requires-clause-short : goal.near-requires-clause-short
near-requires-clause-short g c = (MeetsRequirements-registrable c.args.mode.now.options.now.properties c.args.label.now c.requires.registrable).points

pub write_collisions-requires-clause-good : goal.write_collisions-requires-clause-good
write_collisions-requires-clause-good g c =
    let o : Settings = c.args.mode.now.options.now in
    let table : TableValue = c.args.mode.now.search.now.table.now in
    let pair = c.in-Ok.ensures.near.pair in
    let good : IsGood o table c.args.label.now = record { registrable = c.requires.registrable; admitted = c.in-Ok.ensures.admitted } in
    subst (λ (l : List ℕ). IsGood o c.in-Ok.near.decisions.table.now l) (sym pair.label_is) (subst (λ (t : TableValue). IsGood o t c.args.label.now) (sym pair.table_is) good)

pub returns-in-Ok-clause-written : goal.returns-in-Ok-clause-written
returns-in-Ok-clause-written g c =
    let o : Settings = c.args.mode.now.options.now in
    let table : TableValue = c.args.mode.now.search.now.table.now in
    let label : List ℕ = c.args.label.now in
    let labels : List (List ℕ) = c.args.mode.now.registered.now in
    let pair = c.in-Ok.ensures.near.pair in
    let by_table = subst (λ (t : TableValue). Emits c.args.console.now c.write_collisions.new.console (lines_to c.args.asked.now (collision_block o t labels c.in-Ok.near.decisions.label.now)) c.write_collisions.result) pair.table_is c.write_collisions.ensures.written in
    let written = subst (λ (l : List ℕ). Emits c.args.console.now c.write_collisions.new.console (lines_to c.args.asked.now (collision_block o table labels l)) c.write_collisions.result) pair.label_is by_table in
    rw (admitted_answer table label (collision_block (keeping (Some labels) o) table labels label) c.requires.ready.sound c.in-Ok.ensures.admitted)
    (emits_answered _ _ _ c.write_collisions.result c.answered.result c.answered.ensures written)

pub returns-in-Ok-clause-refused : goal.returns-in-Ok-clause-refused
returns-in-Ok-clause-refused g c =
    rw (admitted_answer c.args.mode.now.search.now.table.now c.args.label.now _ c.requires.ready.sound c.in-Ok.ensures.admitted) (answered_none c.write_collisions.result c.answered.result c.answered.ensures)

pub returns-in-Err-clause-written : goal.returns-in-Err-clause-written
returns-in-Err-clause-written g c =
    replies_refusal _ _ _ c.in-Err.refusal _ c.refused.result
    (λ other. refused_answer c.args.mode.now.search.now.table.now c.args.label.now c.in-Err.refusal _ c.requires.ready.sound (c.in-Err.ensures.refused other) (admitted-made c.args.mode.now.search.now.table.now c.args.label.now))
    c.refused.ensures.refused c.refused.ensures.memory

pub returns-in-Err-clause-refused : goal.returns-in-Err-clause-refused
returns-in-Err-clause-refused g c =
    refused_is c.in-Err.refusal _ c.refused.result
    (λ other. refused_answer c.args.mode.now.search.now.table.now c.args.label.now c.in-Err.refusal _ c.requires.ready.sound (c.in-Err.ensures.refused other) (admitted-made c.args.mode.now.search.now.table.now c.args.label.now))
    c.refused.ensures.refused c.refused.ensures.memory
