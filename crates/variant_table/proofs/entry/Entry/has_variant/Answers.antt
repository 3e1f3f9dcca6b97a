use Rattle.std.proofs.Common.{arith, ◌≡◌, ◌-◌, ◌+◌, take, ap, sym, ◌∙◌, List, ℕ, Some}
use Rattle.std.specs.Prelude.{slice_get, bytes_eq}
use Rattle.std.specs.List.{list_any}
use Rattle.variant_table.specs.Entries.{Entry, sequences_in}
use Rattle.variant_table.proofs.GapLemmas.{any_at, any_more}
use Rattle.variant_table.proofs.WritingLemmas.{slice_get-later}
use Rattle.variant_table.proofs.entry.Entry.has_variant.Goals as goal

pub returns-then-eq : goal.returns-then-eq
returns-then-eq c =
    let e : Entry = c.args.self.now in
    let n : ℕ = c.loop-number.number in
    let v : List ℕ = c.replacement.result.now in
    let here : slice_get (sequences_in e.variants) (n - 1) ≡ Some v = sym (slice_get-later e.source (sequences_in e.variants) n (omega arith)) ∙ c.replacement.ensures in
    sym (any_at (bytes_eq c.args.sequence.now) (sequences_in e.variants) (n - 1) v here (sym c.eq.ensures ∙ c.if-eq.true))

pub loop-number-preserved : goal.loop-number-preserved
loop-number-preserved c =
    let e : Entry = c.args.self.now in
    let n : ℕ = c.loop-number.number in
    let v : List ℕ = c.replacement.result.now in
    let here : slice_get (sequences_in e.variants) (n - 1) ≡ Some v = sym (slice_get-later e.source (sequences_in e.variants) n (omega arith)) ∙ c.replacement.ensures in
    let count : n + 1 - 1 ≡ n - 1 + 1 = omega arith in
    ap (λ k. list_any (bytes_eq c.args.sequence.now) (take k (sequences_in e.variants))) count ∙ any_more (bytes_eq c.args.sequence.now) (sequences_in e.variants) (n - 1) v here (sym c.eq.ensures ∙ c.if-eq.false) c.loop-number.invariant
