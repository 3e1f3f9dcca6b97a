use Rattle.std.proofs.Common.{refl}
use Rattle.idn_class.proofs.ComputedLabels.{rules}
use Rattle.idn_class.proofs.laws.mark_rows.Goals as goal

pub returns-clause-marked : goal.returns-clause-marked
unfolding rules
returns-clause-marked c = refl

pub returns-clause-unmarked : goal.returns-clause-unmarked
unfolding rules
returns-clause-unmarked c = refl

pub returns-clause-empty : goal.returns-clause-empty
unfolding rules
returns-clause-empty c = refl
