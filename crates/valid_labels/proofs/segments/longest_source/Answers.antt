use Rattle.std.proofs.Common.{◌≡◌, ℕ, ◌+◌, ◌++◌, ◌∷◌, [], List, length, map, max, take, sym, ap, subst, ◌∙◌, arith}
use Rattle.std.proofs.lemmas.List.{map_push, take_all}
use Rattle.variant_table.specs.Entries.{Entry}
use Rattle.variant_table.proofs.ListLemmas.{take_next}
use Rattle.valid_labels.proofs.MostLemmas.{IsMostOf, most-more, most-longest}
use Rattle.valid_labels.proofs.segments.longest_source.Goals as goal

pub loop-number-preserved : goal.loop-number-preserved
loop-number-preserved c =
    let entries = c.args.table.now.entries in
    let f : Entry → List ℕ = λ e. e.source in
    let n = c.loop-number.number in
    let more : map f (take (n + 1) entries) ≡ map f (take n entries) ++ c.entry.result.source ∷ [] =
    ap (map f) (take_next entries n c.entry.result c.entry.ensures) ∙ map_push f (take n entries) c.entry.result in
    let is : IsMostOf (map f (take n entries) ++ c.entry.result.source ∷ []) c.greater-longest.result =
    subst (IsMostOf (map f (take n entries) ++ c.entry.result.source ∷ [])) (ap (λ s. max c.loop-number.longest (length s)) (sym c.source.ensures) ∙ sym c.greater-longest.ensures)
    (most-more (map f (take n entries)) c.entry.result.source c.loop-number.longest c.loop-number.invariant) in
    subst (λ s. IsMostOf s c.greater-longest.result) (sym more) is

pub returns-clause-longest : goal.returns-clause-longest
returns-clause-longest c =
    let entries = c.args.table.now.entries in
    let f : Entry → List ℕ = λ e. e.source in
    most-longest c.args.table.now c.loop-number.longest
    (subst (λ s. IsMostOf s c.loop-number.longest) (ap (map f) (take_all c.loop-number.number entries (omega (arith, c.loop-number-test.false, c.len-number-end.ensures.count)))) c.loop-number.invariant)
