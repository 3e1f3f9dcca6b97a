use Rattle.variant_dispositions.proofs.DefaultLemmas.{told-default, told-valid}
use Rattle.variant_dispositions.proofs.fold.disposition_of.Goals as goal

pub returns-in-Some-first_triggered : goal.returns-in-Some-first_triggered
returns-in-Some-first_triggered g c = told-default (g.R.LabelRules.matched c.args.rules.now) c.args.actions.now c.args.kinds c.in-None.ensures c.in-Some-first_triggered.disposition c.in-Some-first_triggered.ensures

pub returns-in-None-first_triggered : goal.returns-in-None-first_triggered
returns-in-None-first_triggered g c = told-valid (g.R.LabelRules.matched c.args.rules.now) c.args.actions.now c.args.kinds c.in-None.ensures c.in-None-first_triggered.ensures
