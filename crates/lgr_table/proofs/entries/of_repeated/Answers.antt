use Rattle.std.proofs.Common.{◌≡◌, ap, get_or, subst, sym, ◌∙◌}
use Rattle.std.proofs.lemmas.List.{get_or_default}
use Rattle.lgr_text.specs.declared.records.Variant.{Variant}
use Rattle.lgr_table.specs.inner.FaultSteps.{TellsRepeated}
use Rattle.lgr_table.proofs.entries.of_repeated.Goals as goal

pub returns-then-is_repeated : goal.returns-then-is_repeated
returns-then-is_repeated c =
    let variants = c.args.variants.now in
    let k = c.loop-number.number in
    let x = c.index-variants-number.result in
    let twice = c.is_repeated.ensures c.if-is_repeated.true in
    let same : get_or variants k x ≡ twice.again = get_or_default variants k x twice.again twice.within ∙ twice.there in
    subst (TellsRepeated variants) (sym c.on.ensures) (k, twice, ap (λ (v : Variant). v.line) same)
