use Rattle.std.proofs.Common.{subst}
use Rattle.std.specs.Prelude.{Option}
use Rattle.label_patterns.specs.declared.condition.Condition.{Condition}
use Rattle.valid_labels.specs.inner.Singles.{IsSingle}
use Rattle.valid_labels.proofs.single_points.SinglePoints.find.Goals as goal

pub returns-in-None-clause-single : goal.returns-in-None-clause-single
returns-in-None-clause-single c = subst (λ t. (d : Option Condition) → ¬ IsSingle t c.args.point d) c.self.view_is c.in-None.ensures
