use Rattle.std.proofs.Common.{◌≡◌, ℕ, ◌+◌, ◌≤◌, true, length, take, sym, subst, arith}
use Rattle.std.specs.List.{list_all}
use lib.Count.{count_trailing_zeros}
use Rattle.xml_text.specs.inner.Runs.{goes_on}
use Rattle.xml_text.proofs.BlockLemmas.{block_led, block_ends}
use Rattle.xml_text.proofs.run.Run.lead.Goals as goal

pub loop-place-preserved : goal.loop-place-preserved
loop-place-preserved c = record {
  within = omega arith;
  run = block_led (goes_on c.args.self) c.args.text.now c.loop-place.place 16 (omega arith) c.loop-place.invariant.run (omega (arith, c.stops-stops.ensures));
}

pub returns-then-stops-ne0 : goal.returns-then-stops-ne0
returns-then-stops-ne0 c =
    let p = goes_on c.args.self in
    let text = c.args.text.now in
    let i = c.loop-place.place in
    let found = c.stops-stops in
    let ends = subst (λ (m : ℕ). (i + count_trailing_zeros 64 m ≤ length text) × (list_all p (take (i + count_trailing_zeros 64 m) text) ≡ true)) (sym found.ensures)
    (block_ends p text i 16 (omega arith) (omega arith) c.loop-place.invariant.run (omega (arith, found.ensures))) in
    record { within = ends.0; run = ends.1 }
