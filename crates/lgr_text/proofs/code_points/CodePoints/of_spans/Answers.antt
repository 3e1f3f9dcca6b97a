use Rattle.std.proofs.Common.{rules, subst, sym, ap, ◌∙◌}
use Rattle.std.specs.List.{All}
use Rattle.std.specs.List.Sorted.{IsNonDecreasingBy}
use Rattle.std.proofs.lemmas.List.Sorted.{All-permutation, IsNonDecreasingBy-from_sort_by_key, list_any-IsPermutation}
use Rattle.label_patterns.specs.Sets.{is_in, is_in_span}
use Rattle.lgr_text.specs.CodePoints.{IsSpan}
use Rattle.lgr_text.proofs.SortedLemmas.{joined-next, joined-whole, past_end}
use Rattle.lgr_text.proofs.code_points.CodePoints.of_spans.Goals as goal

pub append-requires-clause-span : goal.append-requires-clause-span
append-requires-clause-span c =
    let given : All IsSpan c.in_ok-sorted.sorted.items = subst (All IsSpan) (sym c.in_ok-sorted.ensures.items) c.requires in
    let sorted : All IsSpan c.sort_by_key.new.self.items = All-permutation IsSpan _ _ c.in_ok-sort_by_key.ensures.permutation given in
    let here : All IsSpan c.deref-span-items.result.now = subst (All IsSpan) (sym c.deref-span-items.ensures.value) sorted in
    here c.loop-span.span-index past_end c.loop-span-test.true

pub loop-span-preserved : goal.loop-span-preserved
loop-span-preserved c =
    let sorted : IsNonDecreasingBy (λ s. s.first) c.sort_by_key.new.self.items =
    IsNonDecreasingBy-from_sort_by_key (λ s. s.first) _ c.in_ok-sort_by_key.ensures.sorted (λ a r q k. search rules) in
    let rising : IsNonDecreasingBy (λ s. s.first) c.deref-span-items.result.now = subst (IsNonDecreasingBy (λ s. s.first)) (sym c.deref-span-items.ensures.value) sorted in
    joined-next c.deref-span-items.result.now c.loop-span.joined.items c.append.new.spans.items c.loop-span.span-index c.loop-span-test.true
    rising c.loop-span.invariant c.in_ok-append.ensures.apart c.in_ok-append.ensures.order c.in_ok-append.ensures.members

pub returns : goal.returns
returns c = λ d.
    joined-whole c.deref-span-items.result.now c.loop-span.joined.items c.loop-span.span-index c.loop-span-test.false c.loop-span.invariant d
    ∙ ap (λ l. is_in l d) c.deref-span-items.ensures.value
    ∙ sym (list_any-IsPermutation (is_in_span d) _ _ c.in_ok-sort_by_key.ensures.permutation)
    ∙ ap (λ l. is_in l d) c.in_ok-sorted.ensures.items
