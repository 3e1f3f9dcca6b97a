use Rattle.std.proofs.Common.{Err, ap, sym, subst, ◌∙◌}
use Rattle.idn_label.specs.FirstFault.{first_fault}
use Rattle.idn_label.specs.Memory.{NeedsNoMemory}
use Rattle.idn2_cli.proofs.JumpAnswers.{jump-refused}
use Rattle.idn2_cli.proofs.RefusedLines.{kept_as_it_was, refused_is, refused_without, replies_refusal}
use Rattle.idn2_cli.proofs.modes.jumps.JumpsPointAnswering.answer_points.Goals as goal

pub returns-in-Ok-clause-no_memory : goal.returns-in-Ok-clause-no_memory
returns-in-Ok-clause-no_memory g c none = absurd (none.1 (ap (first_fault c.args.self.now.properties) (sym c.label_of_request.ensures.label) ∙ c.in-Ok.ensures.registrable))

pub returns-in-Err-clause-written : goal.returns-in-Err-clause-written
returns-in-Err-clause-written g c =
    replies_refusal _ _ _ c.in-Err.refusal _ c.refused.result (λ other. jump-refused c.args.self.now.properties c.args.self.now.search.now.table.now c.args.points.now c.in-Err.refusal (ap (first_fault c.args.self.now.properties) (sym c.label_of_request.ensures.label) ∙ c.in-Err.ensures.fault other))
    c.refused.ensures.refused c.refused.ensures.memory

pub returns-in-Err-clause-refused : goal.returns-in-Err-clause-refused
returns-in-Err-clause-refused g c =
    refused_is c.in-Err.refusal _ c.refused.result (λ other. jump-refused c.args.self.now.properties c.args.self.now.search.now.table.now c.args.points.now c.in-Err.refusal (ap (first_fault c.args.self.now.properties) (sym c.label_of_request.ensures.label) ∙ c.in-Err.ensures.fault other))
    c.refused.ensures.refused c.refused.ensures.memory

pub returns-in-Err-clause-kept : goal.returns-in-Err-clause-kept
returns-in-Err-clause-kept g c = kept_as_it_was _ c.refused.result

pub returns-in-Err-clause-no_memory : goal.returns-in-Err-clause-no_memory
returns-in-Err-clause-no_memory g c none =
    refused_without c.in-Err.refusal c.refused.result
    (λ memory. c.check_registrable.ensures.no_memory (subst NeedsNoMemory (sym c.label_of_request.ensures.label) none.0) (c.in-Err.is ∙ ap Err memory)) c.refused.ensures.refused
