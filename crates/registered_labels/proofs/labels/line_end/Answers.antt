use Rattle.std.proofs.Common.{slice_range, sym, ap, ◌∙◌, eqb-true}
use Rattle.std.specs.List.{list_all}
use Rattle.idn_label.specs.Steps.{is_ldh_point}
use Rattle.registered_labels.proofs.LineEnds.{IsLineEnd-after}
use Rattle.registered_labels.proofs.labels.line_end.Goals as goal

pub returns-clause-end : goal.returns-clause-end
returns-clause-end c = IsLineEnd-after c.args.text.now c.args.at c.ldh_end-ldh.result c.feed_from-end.result c.ldh_end-ldh.ensures c.feed_from-end.ensures

pub returns-clause-ldh : goal.returns-clause-ldh
returns-clause-ldh c is =
    ap (λ k. list_all is_ldh_point (slice_range c.args.text.now c.args.at k)) (sym (eqb-true c.ldh_end-ldh.result c.feed_from-end.result is)) ∙ c.ldh_end-ldh.ensures.ldh
