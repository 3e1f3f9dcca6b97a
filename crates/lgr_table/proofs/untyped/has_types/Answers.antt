use Rattle.std.proofs.Common.{Bool, sym, ◌∙◌}
use Rattle.std.specs.Prelude.{is_some}
use Rattle.lgr_text.specs.Records.{variant}
use Rattle.lgr_text.specs.Records as lgr
use Rattle.lgr_table.proofs.FirstLemmas.{any-found, any-more, any-none}
use Rattle.lgr_table.proofs.untyped.has_types.Goals as goal

abbrev typed : lgr.Variant → Bool
typed v = is_some v.type_name

pub returns-then-is_some : goal.returns-then-is_some
returns-then-is_some c =
    any-found typed variant c.args.variants.now c.loop-variant.variant-index c.variant-item.result c.loop-variant-test.true c.variant-item.is
    (sym c.is_some.ensures ∙ c.if-is_some.true)

pub loop-variant-preserved : goal.loop-variant-preserved
loop-variant-preserved c =
    any-more typed variant c.args.variants.now c.loop-variant.variant-index c.variant-item.result c.loop-variant-test.true c.variant-item.is
    c.loop-variant.invariant (sym c.is_some.ensures ∙ c.if-is_some.false)

pub returns : goal.returns
returns c = any-none typed variant c.args.variants.now c.loop-variant.variant-index c.loop-variant-test.false c.loop-variant.invariant
