use Rattle.std.proofs.Common.{refl}
use Rattle.idn_class.proofs.ComputedLabels.{rules}
use Rattle.idn_class.proofs.laws.joiner_rows.Goals as goal

pub returns-clause-met : goal.returns-clause-met
unfolding rules
returns-clause-met c = refl

pub returns-clause-broken : goal.returns-clause-broken
unfolding rules
returns-clause-broken c = refl
