use Rattle.std.proofs.Common.{arith, ◌≡◌, ◌<◌, ℕ, List, length, ap, sym, ◌∙◌}
use Rattle.std.specs.Ordering.{nat_cmp}
use Rattle.std.specs.Cmp.Lexicographic.{slice_cmp}
use Rattle.std.proofs.lemmas.Map.Lookups.{exact_bytes}
use Rattle.variant_table.specs.Entries.{Entry}
use Rattle.variant_table.specs.inner.Order.{source_at}
use Rattle.variant_table.proofs.OrderLemmas.{number_below, source-read, less_before, greater_after}
use Rattle.variant_table.proofs.ordered_entries.search.Goals as goal
use Rattle.variant_table.proofs.ordered_entries.search.Goals.{in-Less, in-Greater}

pub get-requires : goal.get-requires
get-requires c = number_below c.args.entries.now c.args.order.now c.requires c.loop-low.place (omega (arith, c.loop-low.invariant.within, (c.loop-low.invariant.between c.loop-low-test.true).1))

pub returns-in-Equal : goal.returns-in-Equal
returns-in-Equal c =
    let between = c.loop-low.invariant.between c.loop-low-test.true in (
      omega (arith, c.loop-low.invariant.within, between.1),
      source-read c.args.entries.now c.args.order.now c.loop-low.place c.get.result c.get.ensures ∙ sym c.source.ensures ∙ exact_bytes c.source.result.now c.args.source.now (sym c.in-Equal.ensures),
    )

pub loop-low-preserved : goal.loop-low-preserved
loop-low-preserved c =
    let table : List Entry = c.args.entries.now in
    let order : List ℕ = c.args.order.now in
    let s : List ℕ = c.args.source.now in
    let place : ℕ = c.loop-low.place in
    let between = c.loop-low.invariant.between c.loop-low-test.true in
    let within : place < length order = omega (arith, c.loop-low.invariant.within, between.1) in
    let is : slice_cmp nat_cmp (source_at table order place) s ≡ c.order_of.result = ap (λ r. slice_cmp nat_cmp r s) (source-read table order place c.get.result c.get.ensures ∙ sym c.source.ensures) ∙ sym c.order_of.ensures in
    elim c.match-order_of.branch [
      | in-Less w ↦ record {
        in_order = omega (arith, between.1, w.low-is, w.high-is);
        within = omega (arith, c.loop-low.invariant.within, w.high-is);
        between = λ l. (omega arith, omega (arith, l));
        before = λ i l. less_before table order c.requires place s within (is ∙ w.in-Less.is) i (omega (arith, l, w.low-is));
        after = λ i l m. c.loop-low.invariant.after i (omega (arith, l, w.high-is)) m;
      }
      | in-Greater w ↦ record {
        in_order = omega (arith, between.0, w.low-is, w.high-is);
        within = omega (arith, within, w.high-is);
        between = λ l. (omega arith, omega (arith, l));
        before = λ i l. c.loop-low.invariant.before i (omega (arith, l, w.low-is));
        after = λ i l m. greater_after table order c.requires place s (is ∙ w.in-Greater.is) i (omega (arith, l, w.high-is)) m;
      }
    ]
