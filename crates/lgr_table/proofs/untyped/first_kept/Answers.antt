use Rattle.std.proofs.Common.{sym, ◌∙◌}
use Rattle.lgr_text.specs.Records.{entry}
use Rattle.lgr_table.specs.Tables.{may_stand}
use Rattle.lgr_table.specs.inner.Wanted.{keeps_in}
use Rattle.lgr_table.proofs.FirstLemmas.{any-found, any-more, any-none}
use Rattle.lgr_table.proofs.untyped.first_kept.Goals as goal

pub returns-then-is_some : goal.returns-then-is_some
returns-then-is_some c =
    let found = sym c.is_some.ensures ∙ c.if-is_some.true in
    found
    ∙ any-found (keeps_in (may_stand c.args.properties) c.args.wanted) entry c.args.entries.now c.loop-entry.entry-index c.entry-item.result
    c.loop-entry-test.true c.entry-item.is (sym c.in_ok-line.ensures ∙ found)

pub loop-entry-preserved : goal.loop-entry-preserved
loop-entry-preserved c =
    any-more (keeps_in (may_stand c.args.properties) c.args.wanted) entry c.args.entries.now c.loop-entry.entry-index c.entry-item.result
    c.loop-entry-test.true c.entry-item.is c.loop-entry.invariant (sym c.in_ok-line.ensures ∙ sym c.is_some.ensures ∙ c.if-is_some.false)

pub returns : goal.returns
returns c =
    any-none (keeps_in (may_stand c.args.properties) c.args.wanted) entry c.args.entries.now c.loop-entry.entry-index c.loop-entry-test.false
    c.loop-entry.invariant
