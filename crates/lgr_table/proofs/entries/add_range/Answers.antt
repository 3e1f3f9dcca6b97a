use Rattle.std.proofs.Common.{◌≡◌, ℕ, ◌+◌, ◌-◌, ◌∷◌, [], List, length, sym, ap, subst, ◌∙◌, arith}
use Rattle.std.proofs.lemmas.Result.{err_from_is_err_and}
use Rattle.lgr_text.specs.Records.{entry}
use Rattle.lgr_table.specs.Tables.{may_stand}
use Rattle.lgr_table.specs.inner.EntrySteps.{AddsSources}
use Rattle.lgr_table.specs.inner.FaultSteps.{TellsSources}
use Rattle.lgr_table.proofs.EntryLemmas.{same_definitions, singles, singles-push, sources-more, sources-none}
use Rattle.lgr_table.proofs.SourceLemmas.{range-told}
use Rattle.ruleset_text.specs.Definitions.{Definitions}
use Rattle.lgr_table.proofs.entries.add_range.Goals as goal

pub returns-then-span-clause-added : goal.returns-then-span-clause-added
returns-then-span-clause-added c =
    let t = c.args.builder.now in
    let may = may_stand t.definitions.properties in
    let first = c.args.span.first in
    let none : 0 ≡ c.args.span.last + 1 - first = omega arith in
    subst (λ k. AddsSources may c.args.numbers.now (entry c.args.entry.now) (singles first k) t t) none
    (sources-none may c.args.numbers.now (entry c.args.entry.now) t)

pub loop-offset-init : goal.loop-offset-init
loop-offset-init c =
    let t = c.args.builder.now in
    sources-none (may_stand t.definitions.properties) c.args.numbers.now (entry c.args.entry.now) t

pub add_source-requires-clause-types : goal.add_source-requires-clause-types
add_source-requires-clause-types c =
    let same = same_definitions _ _ _ _ _ _ c.loop-offset.invariant in
    ap (λ (d : Definitions). length d.types) same ∙ c.requires.types

pub add_source-requires-clause-rules : goal.add_source-requires-clause-rules
add_source-requires-clause-rules c =
    let same = same_definitions _ _ _ _ _ _ c.loop-offset.invariant in
    ap (λ (d : Definitions). length d.rule_names) same ∙ c.requires.rules

pub loop-offset-preserved : goal.loop-offset-preserved
loop-offset-preserved c =
    let t = c.args.builder.now in
    let u = c.loop-offset.builder in
    let v = c.add_source.new.builder in
    let n = c.args.numbers.now in
    let e = entry c.args.entry.now in
    let may = may_stand t.definitions.properties in
    let first = c.args.span.first in
    let k = c.loop-offset.offset in
    let here : List (List ℕ) = ((first + k) ∷ []) ∷ [] in
    let same = same_definitions may n e (singles first k) t u c.loop-offset.invariant in
    let one : AddsSources may n e here u v = subst (λ (d : Definitions). AddsSources (may_stand d.properties) n e here u v) same c.in_ok-add_source.ensures.added in
    subst (λ (l : List (List ℕ)). AddsSources may n e l t v) (sym (singles-push first k))
    (sources-more may n e (singles first k) here t u v c.loop-offset.invariant one)

pub returns-clause-added : goal.returns-clause-added
returns-clause-added c =
    let t = c.args.builder.now in
    let first = c.args.span.first in
    let all : c.loop-offset.offset ≡ c.args.span.last + 1 - first = omega arith in
    subst (λ k. AddsSources (may_stand t.definitions.properties) c.args.numbers.now (entry c.args.entry.now) (singles first k) t c.loop-offset.builder) all
    c.loop-offset.invariant

pub returns-in_err-add_source-clause-fault : goal.returns-in_err-add_source-clause-fault
returns-in_err-add_source-clause-fault c =
    let t = c.args.builder.now in
    let u = c.loop-offset.builder in
    let n = c.args.numbers.now in
    let e = c.args.entry.now in
    let may = may_stand t.definitions.properties in
    let first = c.args.span.first in
    let k = c.loop-offset.offset in
    let p = err_from_is_err_and c.from_residual.result c.from_residual.ensures.1 in
    let same = same_definitions may n (entry e) (singles first k) t u c.loop-offset.invariant in
    let told = c.in_err-add_source.field-0.0 in
    let tells : TellsSources may n e (((first + k) ∷ []) ∷ []) u told =
    subst (λ (d : Definitions). TellsSources (may_stand d.properties) n e (((first + k) ∷ []) ∷ []) u told) same c.in_err-add_source.ensures.fault in
    rw (p.1, p.2) (range-told may n e first (c.args.span.last + 1 - first) k t u told c.loop-offset.invariant (omega arith) tells)
