use Rattle.idn2_laws.proofs.DemandLaws.{demands-are-actions}
use Rattle.idn2_laws.proofs.laws.demands_are_actions.Goals as goal

pub returns : goal.returns
returns c = demands-are-actions
