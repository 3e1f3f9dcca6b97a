use Rattle.std.proofs.Common.{length, ap, sym, ◌∙◌}
use Rattle.std.specs.Option.{is_some}
use Rattle.idn_class.specs.Tests.{other_at, contexto_ok}
use Rattle.idn_class.proofs.CauseLemmas.{none_failing}
use Rattle.idn_class.proofs.contexto.contexto_ok.Goals as goal

pub returns-clause-test : goal.returns-clause-test
unfolding contexto_ok
returns-clause-test c =
    let label = c.args.label.now in
    none_failing (length label) (other_at label) _ (ap is_some (sym c.misplaced_other.ensures.test) ∙ c.is_none.ensures)
