use Rattle.std.proofs.Common.{sym, ap, ◌++◌, ◌∙◌, take_all, arith}
use Rattle.idn_label.proofs.SimpleNames.{a_label_of-ascii}
use Rattle.idn_label.proofs.query.simple.push_a_label.Goals as goal

pub returns : goal.returns
returns c =
    let label = c.args.label.now in
    c.loop-c.invariant ∙ ap (λ x. c.args.query.now.items ++ x) (take_all c.loop-c.c-index label (omega arith) ∙ sym (a_label_of-ascii label (sym c.if-not-is_all_ascii.ensures)))
