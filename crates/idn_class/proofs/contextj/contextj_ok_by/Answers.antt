use Rattle.std.proofs.Common.{length, ap, sym, ◌∙◌}
use Rattle.std.specs.Option.{is_some}
use Rattle.idn_class.specs.Tests.{joiner_at, contextj_ok}
use Rattle.idn_class.proofs.CauseLemmas.{none_failing}
use Rattle.idn_class.proofs.contextj.contextj_ok_by.Goals as goal

pub returns-clause-test : goal.returns-clause-test
unfolding contextj_ok
returns-clause-test c =
    let label = c.args.label.now in
    none_failing (length label) (joiner_at c.args.properties label) _ (ap is_some (sym c.misplaced_joiner.ensures.test) ∙ c.is_none.ensures)
