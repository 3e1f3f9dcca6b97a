use Rattle.std.proofs.Common.{◌∙◌}
use Rattle.std.proofs.lemmas.Result.{IfErr-weaker, on_ok_weaker}
use Rattle.idn_label.proofs.OldNameLemmas.{old_utf8_fault-other, old_utf8_fault-points}
use Rattle.idn_label.proofs.old_names.test_old_utf8.Goals as goal

pub returns-in_default-clause-fault : goal.returns-in_default-clause-fault
returns-in_default-clause-fault c = old_utf8_fault-other c.args.label.now c.in_default.ensures.refused

pub returns-clause-passes : goal.returns-clause-passes
returns-clause-passes c = on_ok_weaker c.check_old.result (λ none. old_utf8_fault-points c.args.label.now _ c.in-Some.ensures.points ∙ none) c.check_old.ensures.passes

pub returns-clause-fault : goal.returns-clause-fault
returns-clause-fault c = IfErr-weaker c.check_old.result _ _ (λ refusal fault. old_utf8_fault-points c.args.label.now _ c.in-Some.ensures.points ∙ fault) c.check_old.ensures.fault
