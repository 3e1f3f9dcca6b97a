use Rattle.std.proofs.Common.{◌≡◌, ℕ, true, false, Option, Some, None, List, [], ◌∷◌, sym, ap, subst, ◌∙◌}
use Rattle.std.specs.List.{AllPairs}
use Rattle.std.specs.Prelude.{MatchOption}
use Rattle.variant_table.specs.Entries.{Entry, TableValue}
use Rattle.variant_table.specs.Places.{entry_with}
use Rattle.variant_table.specs.Singles.{IsSingle}
use Rattle.variant_table.specs.WellFormed.{IsTable}
use Rattle.variant_table.specs.inner.Order.{HasNoLonger}
use Rattle.variant_table.proofs.BeginningLemmas.{entry_with-found, entry_with-of}
use Rattle.variant_table.proofs.table.Table.single.Goals as goal

abbrev Tells : List Entry → ℕ → Option Entry → Type 0
Tells entries point o = MatchOption o ((e : Entry) → ¬ IsSingle entries point e) (IsSingle entries point)

single-is : (entries : List Entry) (point : ℕ) (o : Option Entry) → AllPairs (λ (e : Entry) (f : Entry). e.source ≡ f.source → ⊥) entries → o ≡ entry_with entries (point ∷ []) → HasNoLonger entries (point ∷ []) → Tells entries point o
single-is entries point None apart is none = λ e single. (let clash : None ≡ Some e = is ∙ entry_with-of entries (point ∷ []) e apart single.in_table single.alone in cc)
single-is entries point (Some e) apart is none = let f = entry_with-found entries (point ∷ []) e (sym is) in record { in_table = f.0; alone = f.1; longest = none }

pub returns-then-has_longer : goal.returns-then-has_longer
returns-then-has_longer c =
    let same = ap (λ (t : TableValue). t.entries) c.self.view_is in
    subst (λ es. Tells es c.args.point None) same
    (λ e single. (let clash : true ≡ false = sym c.if-has_longer.true ∙ c.look_up-entry.ensures.longer.1 single.longest in cc))

pub returns-else-has_longer : goal.returns-else-has_longer
returns-else-has_longer c =
    let same = ap (λ (t : TableValue). t.entries) c.self.view_is in
    let t : IsTable c.args.self.now = subst IsTable c.self.view_is c.self.invariant in
    subst (λ es. Tells es c.args.point c.look_up-entry.result.entry) same
    (single-is c.self.inside.entries c.args.point c.look_up-entry.result.entry (subst (λ es. AllPairs (λ (e : Entry) (f : Entry). e.source ≡ f.source → ⊥) es) (sym same) t.well_formed.sources) c.look_up-entry.ensures.entry (c.look_up-entry.ensures.longer.0 c.if-has_longer.false))
