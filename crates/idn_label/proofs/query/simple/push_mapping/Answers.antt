use Rattle.std.proofs.Common.{List, ℕ, ◌++◌, ◌∷◌, [], take, sym, ap, subst, ◌∙◌}
use Rattle.std.proofs.lemmas.List.{take_more}
use Rattle.idn_label.specs.inner.SimpleNames.{AreAppended}
use Rattle.idn_label.proofs.SimplePoints.{facts_of_one, appended_nothing, appended_more}
use Rattle.idn_label.proofs.query.simple.push_mapping.Goals as goal

pub push_kept-requires : goal.push_kept-requires
push_kept-requires c = facts_of_one c.of.result c.c-item.result c.of.ensures

pub loop-c-init : goal.loop-c-init
loop-c-init c = appended_nothing c.none-facts.result c.args.mapped.now.items c.none-facts.ensures

pub loop-c-preserved : goal.loop-c-preserved
loop-c-preserved c =
    let points = c.args.points.now in
    let i = c.loop-c.c-index in
    let more = ap (λ x. take i points ++ x ∷ []) c.c-item.is ∙ sym (take_more points i c.c-item.result c.loop-c-test.true) in
    subst (λ (points : List ℕ). AreAppended c.args.mapped.now.items c.push_kept.new.mapped.items points c.joined-facts.result) more
    (appended_more c.joined-facts.result c.loop-c.invariant c.in_ok-push_kept.ensures c.joined-facts.ensures)
