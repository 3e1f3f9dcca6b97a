use Rattle.std.proofs.Common.{Bool, map, sym, ap, ◌∙◌}
use Rattle.std.specs.List.{list_any}
use Rattle.idn_class.specs.declared.properties.Properties.{Properties}
use Rattle.lgr_text.specs.Records.{source, variant}
use Rattle.lgr_text.specs.Records as lgr
use Rattle.lgr_text.specs.declared.records.Entry.{Entry}
use Rattle.lgr_text.specs.Repertoire.{sources}
use Rattle.lgr_table.specs.Tables.{may_stand}
use Rattle.lgr_table.specs.declared.untyped.Wanted.{Wanted}
use Rattle.lgr_table.specs.inner.Wanted.{keeps_with}
use Rattle.lgr_table.proofs.FirstLemmas.{any-found, any-more, any-none}
use Rattle.lgr_table.proofs.untyped.kept_in.Goals as goal

abbrev is_kept : Properties → Wanted → Entry → lgr.Variant → Bool
is_kept properties wanted e v = keeps_with (may_stand properties) wanted v (sources (source e.source))

pub returns-then-kept : goal.returns-then-kept
returns-then-kept c =
    let kept = is_kept c.args.properties c.args.wanted c.args.entry.now in
    any-found kept variant c.deref-variant-items.result.now c.loop-variant.variant-index c.variant-item.result c.loop-variant-test.true
    c.variant-item.is (sym c.in_ok-kept.ensures ∙ c.if-kept.true)
    ∙ ap (λ l. list_any kept (map variant l)) c.deref-variant-items.ensures.value

pub loop-variant-preserved : goal.loop-variant-preserved
loop-variant-preserved c =
    any-more (is_kept c.args.properties c.args.wanted c.args.entry.now) variant c.deref-variant-items.result.now c.loop-variant.variant-index
    c.variant-item.result c.loop-variant-test.true c.variant-item.is c.loop-variant.invariant (sym c.in_ok-kept.ensures ∙ c.if-kept.false)

pub returns : goal.returns
returns c =
    let kept = is_kept c.args.properties c.args.wanted c.args.entry.now in
    any-none kept variant c.deref-variant-items.result.now c.loop-variant.variant-index c.loop-variant-test.false c.loop-variant.invariant
    ∙ ap (λ l. list_any kept (map variant l)) c.deref-variant-items.ensures.value
