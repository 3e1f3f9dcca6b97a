use Rattle.std.proofs.Common.{◌↔◌, List, arith, subst}
use Rattle.std.specs.List.{Contains}
use Rattle.std.proofs.lemmas.List.{take_all}
use Rattle.variant_dispositions.specs.Kinds.{Kind, kinds_in}
use Rattle.valid_labels.specs.declared.invalid.CutSource.{CutSource}
use Rattle.valid_labels.specs.Causes.{cut_kinds}
use Rattle.valid_labels.proofs.KindWords.{kinds-more, kinds-none}
use Rattle.valid_labels.proofs.invalid.kinds_of.Goals as goal

pub loop-source-init : goal.loop-source-init
loop-source-init c = kinds-none

pub loop-source-preserved : goal.loop-source-preserved
loop-source-preserved c =
    kinds-more c.loop-source.kinds c.kind_of_source-kinds.result c.args.sources.now c.loop-source.source-index _ c.loop-source-test.true c.kind_of_source-kinds.ensures.kind c.loop-source.invariant

pub returns : goal.returns
returns c =
    subst (λ (s : List CutSource). (kind : Kind) → Contains (kinds_in c.loop-source.kinds) kind ↔ Contains (cut_kinds s) kind)
    (take_all c.loop-source.source-index c.args.sources.now (omega (arith, c.loop-source-test.false))) c.loop-source.invariant
