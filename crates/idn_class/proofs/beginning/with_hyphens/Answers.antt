use Rattle.std.proofs.Common.{sym, ap, ◌∙◌, subst, min}
use Rattle.idn_class.specs.DeadPrefixes.{IsShortestDeadPrefix}
use Rattle.idn_class.proofs.DeadPrefixShortest.{shortest-with, shortest-without}
use Rattle.idn_class.proofs.beginning.with_hyphens.Goals as goal

pub returns-then-has_hyphens_third_and_fourth-clause-shortest : goal.returns-then-has_hyphens_third_and_fourth-clause-shortest
returns-then-has_hyphens_third_and_fourth-clause-shortest c =
    subst (IsShortestDeadPrefix c.args.properties c.args.label.now) (sym (c.min.ensures ∙ ap (λ n. min n 4) c.unwrap_or.ensures))
    (shortest-with c.args.properties c.args.label.now c.args.breaking c.requires (sym c.if-has_hyphens_third_and_fourth.ensures))

pub returns-else-has_hyphens_third_and_fourth-clause-shortest : goal.returns-else-has_hyphens_third_and_fourth-clause-shortest
returns-else-has_hyphens_third_and_fourth-clause-shortest c =
    shortest-without c.args.properties c.args.label.now c.args.breaking c.requires (sym c.if-has_hyphens_third_and_fourth.ensures)
