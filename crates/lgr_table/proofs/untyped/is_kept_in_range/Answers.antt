use Rattle.std.proofs.Common.{◌≡◌, ℕ, ◌+◌, ◌-◌, ◌<◌, ◌≤◌, ◌∷◌, [], List, length, get_or, sym, ap, ◌∙◌, arith}
use Rattle.std.specs.List.{range_with_len}
use Rattle.std.proofs.lemmas.List.FromFn.{get_or-range_with_len, length-range_with_len}
use Rattle.lgr_text.specs.Records.{variant}
use Rattle.lgr_table.specs.Tables.{may_stand}
use Rattle.lgr_table.proofs.EntryLemmas.{singles}
use Rattle.lgr_table.proofs.FirstLemmas.{any-found, any-more, any-none}
use Rattle.lgr_table.proofs.KeptLemmas.{keeps-alone, keeps-each, keeps_one}
use Rattle.lgr_table.specs.inner.Wanted.{keeps_with}
use Rattle.lgr_table.proofs.untyped.is_kept_in_range.Goals as goal

abbrev single : ℕ → List ℕ
single p = p ∷ []

pub returns-then-span : goal.returns-then-span
returns-then-span c =
    let none : 0 ≡ c.args.span.last + 1 - c.args.span.first = omega arith in
    ap (λ k. keeps_with (may_stand c.args.properties) c.args.wanted (variant c.args.variant.now) (singles c.args.span.first k)) none

pub returns-then-kept : goal.returns-then-kept
returns-then-kept c =
    let first = c.args.span.first in
    let count = c.args.span.last + 1 - first in
    let i = c.loop-offset.offset in
    let may = may_stand c.args.properties in
    let v = variant c.args.variant.now in
    let less : i < length (range_with_len first count) = omega (arith, length-range_with_len first count) in
    let there : first + i ≡ get_or (range_with_len first count) i (first + i) = sym (get_or-range_with_len first count i (first + i) (omega arith)) in
    any-found (keeps_one may c.args.wanted v) single (range_with_len first count) i (first + i) less there
    (sym (keeps-alone may c.args.wanted v (single (first + i))) ∙ sym c.in_ok-kept.ensures ∙ c.if-kept.true)
    ∙ sym (keeps-each may c.args.wanted v (singles first count))

pub loop-offset-preserved : goal.loop-offset-preserved
loop-offset-preserved c =
    let first = c.args.span.first in
    let count = c.args.span.last + 1 - first in
    let i = c.loop-offset.offset in
    let may = may_stand c.args.properties in
    let v = variant c.args.variant.now in
    let less : i < length (range_with_len first count) = omega (arith, length-range_with_len first count) in
    let there : first + i ≡ get_or (range_with_len first count) i (first + i) = sym (get_or-range_with_len first count i (first + i) (omega arith)) in
    any-more (keeps_one may c.args.wanted v) single (range_with_len first count) i (first + i) less there c.loop-offset.invariant
    (sym (keeps-alone may c.args.wanted v (single (first + i))) ∙ sym c.in_ok-kept.ensures ∙ c.if-kept.false)

pub returns : goal.returns
returns c =
    let first = c.args.span.first in
    let count = c.args.span.last + 1 - first in
    let may = may_stand c.args.properties in
    let v = variant c.args.variant.now in
    let all : length (range_with_len first count) ≤ c.loop-offset.offset = omega (arith, length-range_with_len first count) in
    any-none (keeps_one may c.args.wanted v) single (range_with_len first count) c.loop-offset.offset all c.loop-offset.invariant
    ∙ sym (keeps-each may c.args.wanted v (singles first count))
