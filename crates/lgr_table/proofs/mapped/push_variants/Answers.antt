use Rattle.std.proofs.Common.{◌∷◌, [], List, map, take, ap, subst, ◌∙◌, refl}
use Rattle.lgr_text.specs.Records.{variant}
use Rattle.lgr_text.specs.Records as lgr
use Rattle.lgr_table.specs.Entries.{variants_of}
use Rattle.lgr_table.specs.Tables.{may_stand}
use Rattle.lgr_table.specs.inner.EntrySteps.{PushesVariants}
use Rattle.lgr_table.proofs.CalledLemmas.{mapped-more, pushes-more, pushes-none, variants-more}
use Rattle.variant_table.specs.Entries.{Variant}
use Rattle.lgr_table.proofs.mapped.push_variants.Goals as goal

pub loop-variant-init : goal.loop-variant-init
loop-variant-init c = pushes-none c.args.definitions.now c.args.mapped.now.items [] refl

pub loop-variant-preserved : goal.loop-variant-preserved
loop-variant-preserved c =
    let d = c.args.definitions.now in
    let vs = c.args.variants.now in
    let i = c.loop-variant.variant-index in
    let this = c.variant-item.result in
    let may = may_stand d.properties in
    let all : List lgr.Variant → List Variant = variants_of may c.args.numbers.now c.args.source.now in
    subst (PushesVariants d c.args.mapped.now.items c.push_variant.new.mapped.items)
    (variants-more may c.args.numbers.now c.args.source.now (map variant (take i vs)) (variant this)
    ∙ ap all (mapped-more variant vs i this c.loop-variant-test.true c.variant-item.is))
    (pushes-more d c.args.mapped.now.items c.loop-variant.mapped.items c.push_variant.new.mapped.items (all (map variant (take i vs))) (all (variant this ∷ []))
    c.loop-variant.invariant c.in_ok-push_variant.ensures)
