use Rattle.std.proofs.Common.{◌≡◌, ◌∙◌, Err, Some, ap, subst}
use Rattle.idn_label.specs.FirstFault.{IsRegistrable, first_fault}
use Rattle.idn2_options.specs.Settings.{Settings, keeping}
use Rattle.idn2_cli.proofs.ListingProgress.{answer-refused}
use Rattle.idn2_cli.proofs.RefusedLines.{kept_as_it_was, refused_is, refused_without, replies_refusal}
use Rattle.idn2_cli.proofs.modes.among.AmongPointAnswering.answer_points.Goals as goal

pub returns-in-Ok-clause-no_memory : goal.returns-in-Ok-clause-no_memory
returns-in-Ok-clause-no_memory g c none = absurd (none.1 (subst (λ (o : Settings). IsRegistrable o.properties c.args.points.now) c.options.view_is c.in-Ok.ensures.registrable))

pub returns-in-Err-clause-written : goal.returns-in-Err-clause-written
returns-in-Err-clause-written g c =
    replies_refusal _ _ _ c.in-Err.refusal _ c.refused.result (λ other. answer-refused (keeping (Some c.args.self.now.registered.now) c.args.self.now.options.now) c.args.self.now.search.now.table.now c.args.points.now c.in-Err.refusal (subst (λ (o : Settings). first_fault o.properties c.args.points.now ≡ Some c.in-Err.refusal) c.options.view_is (c.in-Err.ensures.fault other)))
    c.refused.ensures.refused c.refused.ensures.memory

pub returns-in-Err-clause-refused : goal.returns-in-Err-clause-refused
returns-in-Err-clause-refused g c =
    refused_is c.in-Err.refusal _ c.refused.result (λ other. answer-refused (keeping (Some c.args.self.now.registered.now) c.args.self.now.options.now) c.args.self.now.search.now.table.now c.args.points.now c.in-Err.refusal (subst (λ (o : Settings). first_fault o.properties c.args.points.now ≡ Some c.in-Err.refusal) c.options.view_is (c.in-Err.ensures.fault other)))
    c.refused.ensures.refused c.refused.ensures.memory

pub returns-in-Err-clause-kept : goal.returns-in-Err-clause-kept
returns-in-Err-clause-kept g c = kept_as_it_was _ c.refused.result

pub returns-in-Err-clause-no_memory : goal.returns-in-Err-clause-no_memory
returns-in-Err-clause-no_memory g c none =
    refused_without c.in-Err.refusal c.refused.result (λ memory. c.check_registrable.ensures.no_memory none.0 (c.in-Err.is ∙ ap Err memory)) c.refused.ensures.refused

pub answer_label-requires-clause-registrable : goal.answer_label-requires-clause-registrable
answer_label-requires-clause-registrable g c = subst (λ (o : Settings). IsRegistrable o.properties c.args.points.now) c.options.view_is c.in-Ok.ensures.registrable
