use Rattle.std.proofs.Common.{List, ℕ, [], ◌∷◌, subst}
use Rattle.idn_label.proofs.RequirementLemmas.{MeetsRequirements-registrable}
use Rattle.variant_table.specs.Entries.{TableValue}
use Rattle.idn2_refusals.specs.Requests.{requested_label}
use Rattle.idn2_answers.specs.Answers.{least_near}
use Rattle.idn2_answers.specs.Said.{Least}
use Rattle.idn2_output.specs.Writing.{Emits}
use Rattle.idn2_cli.specs.inner.Asked.{said_to}
use Rattle.idn2_cli.proofs.RefusedLines.{answered_none, emits_answered, refused_is, replies_refusal}
use Rattle.idn2_answers.proofs.AdmittedLabels.{admitted-made, admitted_answer, refused_answer, some-length}
use Rattle.idn2_cli.proofs.modes.jumps.answer_least.Goals as goal

pub near-requires-clause-some : goal.near-requires-clause-some
near-requires-clause-some g c =
    let label = requested_label c.args.points.now in rw c.parts_of.ensures.label (some-length label (MeetsRequirements-registrable c.args.mode.now.properties label c.requires.registrable).some)

pub near-requires-clause-short : goal.near-requires-clause-short
near-requires-clause-short g c =
    rw c.parts_of.ensures.label (MeetsRequirements-registrable c.args.mode.now.properties (requested_label c.args.points.now) c.requires.registrable).points

pub returns-in-Ok-clause-written : goal.returns-in-Ok-clause-written
returns-in-Ok-clause-written g c =
    let properties = c.args.mode.now.properties in
    let table : TableValue = c.args.mode.now.search.now.table.now in
    let label : List ℕ = c.parts_of.result.0.now in
    let text : List ℕ = c.parts_of.result.1.now in
    let pair = c.in-Ok.ensures.near.pair in
    let by_table = subst (λ (t : TableValue). Emits c.args.console.now c.write_least.new.console (said_to c.args.asked.now (Least (least_near properties t c.in-Ok.near.decisions.label.now text)) ∷ []) c.write_least.result) pair.table_is c.write_least.ensures.written in
    let written = subst (λ (l : List ℕ). Emits c.args.console.now c.write_least.new.console (said_to c.args.asked.now (Least (least_near properties table l text)) ∷ []) c.write_least.result) pair.label_is by_table in
    rw (← c.parts_of.ensures.label, ← c.parts_of.ensures.text, admitted_answer table label _ c.requires.ready.sound c.in-Ok.ensures.admitted)
    (emits_answered _ _ _ c.write_least.result c.answered.result c.answered.ensures written)

pub returns-in-Ok-clause-refused : goal.returns-in-Ok-clause-refused
returns-in-Ok-clause-refused g c =
    rw (← c.parts_of.ensures.label, ← c.parts_of.ensures.text, admitted_answer c.args.mode.now.search.now.table.now c.parts_of.result.0.now _ c.requires.ready.sound c.in-Ok.ensures.admitted)
    (answered_none c.write_least.result c.answered.result c.answered.ensures)

pub returns-in-Err-clause-written : goal.returns-in-Err-clause-written
returns-in-Err-clause-written g c =
    rw (← c.parts_of.ensures.label, ← c.parts_of.ensures.text)
    (replies_refusal _ _ _ c.in-Err.refusal _ c.refused.result
    (λ other. refused_answer c.args.mode.now.search.now.table.now c.parts_of.result.0.now c.in-Err.refusal _ c.requires.ready.sound (c.in-Err.ensures.refused other) (admitted-made c.args.mode.now.search.now.table.now c.parts_of.result.0.now))
    c.refused.ensures.refused c.refused.ensures.memory)

pub returns-in-Err-clause-refused : goal.returns-in-Err-clause-refused
returns-in-Err-clause-refused g c =
    rw (← c.parts_of.ensures.label, ← c.parts_of.ensures.text)
    (refused_is c.in-Err.refusal _ c.refused.result
    (λ other. refused_answer c.args.mode.now.search.now.table.now c.parts_of.result.0.now c.in-Err.refusal _ c.requires.ready.sound (c.in-Err.ensures.refused other) (admitted-made c.args.mode.now.search.now.table.now c.parts_of.result.0.now))
    c.refused.ensures.refused c.refused.ensures.memory)
