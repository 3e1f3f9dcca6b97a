use Rattle.std.proofs.Common.{◌≡◌, map, sym, ap, subst, ◌∙◌}
use Rattle.std.specs.Prelude.{◌↔◌, IsTrue}
use Rattle.std.specs.List.{All}
use Rattle.std.proofs.lemmas.List.{take_all}
use Rattle.std.proofs.lemmas.Result.{IfOk-weaker}
use Rattle.label_patterns.specs.Sets.{is_in}
use Rattle.lgr_text.specs.CodePoints.{IsSpan}
use Rattle.lgr_text.specs.Records.{entry}
use Rattle.lgr_text.specs.Meanings.{IsKept}
use Rattle.lgr_table.specs.Tables.{may_stand}
use Rattle.lgr_table.proofs.PointLemmas.{all-spans, all_spans, are-kept}
use Rattle.lgr_table.proofs.points.points_of.Goals as goal

pub of_spans-requires : goal.of_spans-requires
of_spans-requires c =
    let may = may_stand c.args.properties in
    let all = map entry c.args.entries.now in
    let is : c.deref.result.now ≡ all_spans may all =
    c.deref.ensures.value ∙ c.loop-entry.invariant
    ∙ ap (λ l. all_spans may (map entry l)) (take_all c.loop-entry.entry-index c.args.entries.now c.loop-entry-test.false) in
    subst (All IsSpan) (sym is) (all-spans c.args.properties all)

pub returns : goal.returns
returns c =
    let may = may_stand c.args.properties in
    let all = map entry c.args.entries.now in
    let is : c.deref.result.now ≡ all_spans may all =
    c.deref.ensures.value ∙ c.loop-entry.invariant
    ∙ ap (λ l. all_spans may (map entry l)) (take_all c.loop-entry.entry-index c.args.entries.now c.loop-entry-test.false) in
    IfOk-weaker c.of_spans.result _ _
    (λ points members n.
    subst (λ b. IsTrue b ↔ IsKept may all n) (sym (members n ∙ ap (λ l. is_in l n) is)) (are-kept may all n))
    c.of_spans.ensures
