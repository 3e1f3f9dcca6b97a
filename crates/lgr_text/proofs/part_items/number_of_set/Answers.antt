use Rattle.std.proofs.Common.{rules, ◌<◌, [], true, length, refl, sym, ◌∙◌, arith}
use Rattle.std.proofs.lemmas.List.{get_or_default}
use Rattle.std.proofs.lemmas.Slice.Eq.{slice_eq-Decides}
use Rattle.lgr_text.proofs.part_items.number_of_set.Goals as goal

pub returns-then-eq-clause-number : goal.returns-then-eq-clause-number
returns-then-eq-clause-number c =
    let same = slice_eq-Decides (λ a b. search rules) c.spans.result.now c.spans-in-loop-number.result.now true c.if-eq.ensures in
    let less : c.loop-number.number < length c.args.sets.now.items = omega (arith, c.loop-number-test.true, c.len-number-end.ensures) in
    get_or_default c.args.sets.now.items c.loop-number.number [] c.index.result.now less
    ∙ sym c.index.ensures ∙ sym c.spans.ensures ∙ same.0 refl ∙ c.spans-in-loop-number.ensures
