use Rattle.std.proofs.Common.{arith, ◌≡◌, ◌≤◌, ◌||◌, ◌+◌, ℕ, List, false, drop, length, ap, sym, ◌∙◌}
use Rattle.std.proofs.lemmas.List.{at_drop_all}
use Rattle.variant_table.specs.Entries.{Entry, TableValue, has_types}
use Rattle.variant_table.proofs.ListLemmas.{drop_next}
use Rattle.variant_table.proofs.table.Table.has_types.Goals as goal

pub returns-then-has_types : goal.returns-then-has_types
returns-then-has_types c =
    let t : List Entry = c.self.inside.entries in
    let i : ℕ = c.loop-index.index in
    sym (ap (λ (v : TableValue). has_types v.entries) (sym c.self.view_is) ∙ sym c.loop-index.invariant ∙ ap has_types (drop_next t i c.get.result c.get.ensures) ∙ ap (λ b. b || has_types (drop (i + 1) t)) (sym c.has_types.ensures ∙ c.if-has_types.true))

pub loop-index-preserved : goal.loop-index-preserved
loop-index-preserved c =
    let t : List Entry = c.self.inside.entries in
    let i : ℕ = c.loop-index.index in
    sym (ap has_types (drop_next t i c.get.result c.get.ensures) ∙ ap (λ b. b || has_types (drop (i + 1) t)) (sym c.has_types.ensures ∙ c.if-has_types.false)) ∙ c.loop-index.invariant

-- past the last entry nothing is found
none : (t u : List Entry) (i n : ℕ) → t ≡ u → n ≡ length u → n ≤ i → has_types (drop i t) ≡ has_types t → has_types u ≡ false
none t u i n same all past rest = sym (ap has_types same) ∙ sym rest ∙ at_drop_all has_types t i (omega (arith, ap length same))

pub returns : goal.returns
returns c =
    sym (none c.self.inside.entries c.args.self.now.entries c.loop-index.index c.len-index-end.result (ap (λ (v : TableValue). v.entries) c.self.view_is) c.len-index-end.ensures.count c.loop-index-test.false c.loop-index.invariant)
