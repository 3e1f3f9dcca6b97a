use Rattle.std.proofs.Common.{◌≡◌, suc, ◌∷◌, ◌++◌, List, drop, length, map, take, sym, ap, subst, ◌∙◌}
use Rattle.std.proofs.lemmas.List.{take_all}
use Rattle.std.proofs.lemmas.Result.{err_from_is_err_and}
use Rattle.lgr_text.specs.Records.{Entry, entry, file}
use Rattle.lgr_text.specs.declared.records.Entry.{Entry as HeldEntry}
use Rattle.lgr_table.specs.Faults.{IsFaultOfTable}
use Rattle.lgr_table.specs.inner.FaultSteps.{HasDefinitionsOf, HasEntriesOf}
use Rattle.lgr_table.specs.Tables.{may_stand}
use Rattle.lgr_table.specs.inner.EntrySteps.{AddsEntry}
use Rattle.lgr_table.specs.inner.Steps.{AddsEntries}
use Rattle.lgr_table.proofs.CalledLemmas.{mapped-more}
use Rattle.lgr_table.proofs.EntryLemmas.{entries-more, entries-none, with_only}
use Rattle.lgr_table.proofs.SourceLemmas.{split-at}
use Rattle.ruleset_text.specs.Definitions.{Definitions}
use Rattle.variant_table.specs.Entries.{TableValue}
use Rattle.lgr_table.proofs.entries.add_entries.Goals as goal

pub loop-entry-init : goal.loop-entry-init
loop-entry-init c =
    let t = c.args.builder.now in
    entries-none (may_stand t.definitions.properties) (file c.args.ruleset.now) c.args.numbers.now t c.requires.none

pub add_entry-requires-clause-types : goal.add_entry-requires-clause-types
add_entry-requires-clause-types c =
    ap (λ (t : TableValue). length t.definitions.types) c.loop-entry.invariant.others ∙ c.requires.types

pub add_entry-requires-clause-rules : goal.add_entry-requires-clause-rules
add_entry-requires-clause-rules c =
    ap (λ (t : TableValue). length t.definitions.rule_names) c.loop-entry.invariant.others ∙ c.requires.rules

pub loop-entry-preserved : goal.loop-entry-preserved
loop-entry-preserved c =
    let t = c.args.builder.now in
    let u = c.loop-entry.builder in
    let v = c.add_entry.new.builder in
    let n = c.args.numbers.now in
    let r = file c.args.ruleset.now in
    let may = may_stand t.definitions.properties in
    let xs = c.deref-entry-items.result.now in
    let i = c.loop-entry.entry-index in
    let this = c.entry-item.result in
    let same : u.definitions ≡ t.definitions = ap (λ (w : TableValue). w.definitions) c.loop-entry.invariant.others in
    let one : AddsEntry may n (entry this) u v = subst (λ (d : Definitions). AddsEntry (may_stand d.properties) n (entry this) u v) same c.in_ok-add_entry.ensures.added in
    subst (λ (es : List Entry). AddsEntries may (with_only r es) n t v) (mapped-more entry xs i this c.loop-entry-test.true c.entry-item.is)
    (entries-more may r n (map entry (take i xs)) (entry this) t u v c.loop-entry.invariant one)

pub returns-clause-added : goal.returns-clause-added
returns-clause-added c =
    let t = c.args.builder.now in
    subst (λ l. AddsEntries (may_stand t.definitions.properties) (with_only (file c.args.ruleset.now) (map entry l)) c.args.numbers.now t c.loop-entry.builder)
    (take_all c.loop-entry.entry-index c.deref-entry-items.result.now c.loop-entry-test.false ∙ c.deref-entry-items.ensures.value) c.loop-entry.invariant

pub returns-in_err-check_ranges-clause-fault : goal.returns-in_err-check_ranges-clause-fault
returns-in_err-check_ranges-clause-fault c = λ spans defined.
    let p = err_from_is_err_and c.from_residual.result c.from_residual.ensures.1 in
    rw (p.1, p.2) (c.in_err-check_ranges.ensures (may_stand c.args.builder.now.definitions.properties) c.args.ruleset.now (sym c.deref.ensures.value) spans)

pub returns-in_err-add_entry-clause-fault : goal.returns-in_err-add_entry-clause-fault
returns-in_err-add_entry-clause-fault c = λ spans defined.
    let p = err_from_is_err_and c.from_residual-in_err-add_entry.result c.from_residual-in_err-add_entry.ensures.1 in
    let t = c.args.builder.now in
    let u = c.loop-entry.builder in
    let n = c.args.numbers.now in
    let xs = c.deref-entry-items.result.now in
    let i = c.loop-entry.entry-index in
    let this = c.entry-item.result in
    let r = c.args.ruleset.now in
    let same : u.definitions ≡ t.definitions = ap (λ (w : TableValue). w.definitions) c.loop-entry.invariant.others in
    let tells =
    subst (λ (d : Definitions). (before after : List HeldEntry) (w : TableValue) → r.entries.items ≡ before ++ this ∷ after
    → HasEntriesOf (may_stand d.properties) n before w u → HasDefinitionsOf (may_stand d.properties) r n w
    → IsFaultOfTable (may_stand d.properties) r c.in_err-add_entry.field-0.0) same (c.in_err-add_entry.ensures.fault r) in
    rw (p.1, p.2) (tells (take i xs) (drop (suc i) xs) t (sym c.deref-entry-items.ensures.value ∙ split-at xs i this c.loop-entry-test.true c.entry-item.is)
    c.loop-entry.invariant.others defined)
