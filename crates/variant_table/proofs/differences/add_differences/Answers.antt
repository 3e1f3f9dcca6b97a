use Rattle.std.proofs.Common.{arith, ◌≡◌, ◌-◌, ◌+◌, take, ap, sym, ◌∙◌, List, ℕ, Some}
use Rattle.std.specs.Prelude.{slice_get}
use Rattle.std.specs.List.{flat_map}
use Rattle.variant_table.specs.Entries.{Entry, sequences_in}
use Rattle.variant_table.specs.Gaps.{pairs_of, inserted}
use Rattle.variant_table.specs.Differences.{difference_at}
use Rattle.variant_table.proofs.GapLemmas.{inserted_more}
use Rattle.variant_table.proofs.WritingLemmas.{slice_get-later}
use Rattle.variant_table.proofs.differences.add_differences.Goals as goal

pub loop-number-preserved : goal.loop-number-preserved
loop-number-preserved c =
    let e : Entry = c.args.entry.now in
    let t : List Entry = c.args.entries.now in
    let n : ℕ = c.loop-number.number in
    let v : List ℕ = c.replacement.result.now in
    let old : List (List ℕ × List ℕ) = pairs_of c.args.found.now.keys in
    let here : slice_get (sequences_in e.variants) (n - 1) ≡ Some v = sym (slice_get-later e.source (sequences_in e.variants) n (omega arith)) ∙ c.replacement.ensures in
    let count : n - 1 + 1 ≡ n + 1 - 1 = omega arith in
    c.in_ok-add_difference.ensures ∙ ap (λ ps. inserted ps (difference_at t e v)) c.loop-number.invariant
    ∙ inserted_more (difference_at t e) (sequences_in e.variants) (n - 1) v old here ∙ ap (λ k. inserted old (flat_map (difference_at t e) (take k (sequences_in e.variants)))) count
