use Rattle.std.proofs.Common.{◌≡◌, ◌-◌, ◌<◌, ◌≤◌, ℕ, length}
use Rattle.std.specs.Ordering.{nat_cmp}
use Rattle.std.specs.declared.cmp.Ordering.TheVariants.{Less, Greater}
use Rattle.std.specs.Cmp.Lexicographic.{slice_cmp}
use Rattle.variant_table.specs.inner.Order.{source_at}
use Rattle.variant_table.proofs.ordered_entries.search.Given as goal

-- the place lies between, sources before `low` are less, and those from `high` on are greater
abbrev pub invariant-loop-low : goal.invariant-loop-low
invariant-loop-low l = record {
  in_order : l.low ≤ l.high;
  within : l.high ≤ length l.order;
  between : l.low < l.high → (l.low ≤ l.place) × (l.place < l.high);
  before : (i : ℕ) → i < l.low → slice_cmp nat_cmp (source_at l.entries l.order i) l.source ≡ Less;
  after : (i : ℕ) → l.high ≤ i → i < length l.order → slice_cmp nat_cmp (source_at l.entries l.order i) l.source ≡ Greater;
}

abbrev pub decreases-loop-low : goal.decreases-loop-low
decreases-loop-low l = l.high - l.low
