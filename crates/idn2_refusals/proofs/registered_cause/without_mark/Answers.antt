use Rattle.std.proofs.Common.{◌-◌, Bool, cond, List, ℕ, length, ap, sym, ◌∙◌, arith, length-take}
use Rattle.idn_label.specs.OldNames.{before_mark, mark}
use Rattle.idn2_refusals.proofs.registered_cause.without_mark.Goals as goal

pub returns-in-Some-clause-label : goal.returns-in-Some-clause-label
returns-in-Some-clause-label c =
    c.in-Some.ensures.marked.1 ∙ sym (ap (λ (m : Bool). let l : List ℕ = cond m (before_mark c.args.body.now) c.args.body.now in l) c.in-Some.ensures.marked.0)

pub returns-in-Some-clause-shorter : goal.returns-in-Some-clause-shorter
returns-in-Some-clause-shorter c = omega (arith, ap length c.in-Some.ensures.marked.1, length-take (length c.args.body.now - length mark) c.args.body.now)

pub returns-in-None-clause-label : goal.returns-in-None-clause-label
returns-in-None-clause-label c = sym (ap (λ (m : Bool). let l : List ℕ = cond m (before_mark c.args.body.now) c.args.body.now in l) c.in-None.ensures.other)
