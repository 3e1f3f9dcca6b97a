use Rattle.std.proofs.Common.{Bool, map, sym, ap, ◌∙◌}
use Rattle.std.specs.Prelude.{is_some}
use Rattle.std.specs.List.{list_any}
use Rattle.lgr_text.specs.Records.{entry, variant}
use Rattle.lgr_text.specs.Records as lgr
use Rattle.lgr_table.proofs.FirstLemmas.{any-found, any-more, any-none}
use Rattle.lgr_table.proofs.untyped.have_types.Goals as goal

abbrev typed : lgr.Entry → Bool
typed e = list_any (λ v. is_some v.type_name) e.variants

pub returns-then-has_types : goal.returns-then-has_types
returns-then-has_types c =
    any-found typed entry c.args.entries.now c.loop-entry.entry-index c.entry-item.result c.loop-entry-test.true c.entry-item.is
    (ap (λ l. list_any (λ v. is_some v.type_name) (map variant l)) (sym c.deref.ensures.value) ∙ sym c.has_types.ensures ∙ c.if-has_types.true)

pub loop-entry-preserved : goal.loop-entry-preserved
loop-entry-preserved c =
    any-more typed entry c.args.entries.now c.loop-entry.entry-index c.entry-item.result c.loop-entry-test.true c.entry-item.is
    c.loop-entry.invariant
    (ap (λ l. list_any (λ v. is_some v.type_name) (map variant l)) (sym c.deref.ensures.value) ∙ sym c.has_types.ensures ∙ c.if-has_types.false)

pub returns : goal.returns
returns c = any-none typed entry c.args.entries.now c.loop-entry.entry-index c.loop-entry-test.false c.loop-entry.invariant
