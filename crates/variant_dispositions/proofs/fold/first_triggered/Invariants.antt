use Rattle.std.proofs.Common.{◌≡◌}
use Rattle.std.proofs.Common.{drop}
use Rattle.variant_dispositions.specs.Kinds.{kinds_in}
use Rattle.variant_dispositions.specs.Actions.{first_triggered}
use Rattle.variant_dispositions.proofs.fold.first_triggered.Given as goal

-- the first of the actions that are left is the first of all
abbrev pub invariant-loop-action : goal.invariant-loop-action
invariant-loop-action g l =
    let matched = g.R.LabelRules.matched l.rules in
    first_triggered matched (kinds_in l.kinds) (drop l.action-index l.actions) ≡ first_triggered matched (kinds_in l.kinds) l.fn.actions
