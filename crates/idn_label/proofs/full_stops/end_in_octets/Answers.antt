use Rattle.std.proofs.Common.{◌≡◌, ℕ, ◌+◌, ◌-◌, ◌/◌, ◌≤◌, ◌^◌, ◌%◌, cond, eqb, List, length, map, take, drop, slice_range, replicate, w8, refl, ap, ◌∙◌, arith}
use Rattle.std.specs.Simd.Lanes.{chunk, mask_l, zip2, top}
use Rattle.std.proofs.lemmas.Bool.{eqb-true}
use Rattle.std.proofs.lemmas.List.Elements.{AllWithin-upto}
use Rattle.std.proofs.lemmas.Simd.{length-chunk, bitmask_splat}
use Rattle.idna.specs.Labels.{is_full_stop}
use Rattle.idn_label.proofs.LabelsByPlace.{IsNoStop, AllWithin-join, ends_at_stop, ends_with_name}
use Rattle.idn_label.proofs.LaneLemmas.{mask_after, next_lane, none_from_mask}
use Rattle.idn_label.proofs.full_stops.end_in_octets.Goals as goal

-- the full stops from `at` on in the chunk that begins at `from`, by a bit each
masked : (name : List ℕ) (at from : ℕ) → from ≤ at → from + 16 ≤ length name → mask_l (map (top 7) (zip2 (λ a b. cond (eqb a b) 255 0) (chunk from 16 name) (replicate 16 46))) % 2 ^ 64 / 2 ^ (at - from) ≡ mask_l (map is_full_stop (slice_range name at (from + 16)))
masked name at from early room =
    let count : 16 ≡ from + 16 - from = omega arith in
    ap (λ m. m / 2 ^ (at - from))
    (bitmask_splat w8 eqb (chunk from 16 name) 16 46 (length-chunk from 16 name room) (omega arith)
    ∙ ap (λ n. mask_l (map is_full_stop (take n (drop from name)))) count)
    ∙ mask_after is_full_stop name from at (from + 16) early

pub returns-then-stops-ne0 : goal.returns-then-stops-ne0
returns-then-stops-ne0 c =
    let name = c.args.name.now in
    let at = c.loop-at.at in
    let from = c.min-from.result in
    let i = c.loop-at.invariant in
    let next = next_lane is_full_stop name at (from + 16) _ (omega arith) (omega arith) (omega arith) (masked name at from (omega arith) (omega arith)) c.if-stops-ne0.true in
    ends_at_stop name c.args.start _ (omega arith) (omega (arith, next.before)) (AllWithin-join IsNoStop name c.args.start at at _ (omega arith) i.none next.none) (eqb-true _ 0x2E next.passes)

pub loop-at-preserved : goal.loop-at-preserved
loop-at-preserved c =
    let name = c.args.name.now in
    let at = c.loop-at.at in
    let from = c.min-from.result in
    let mask = masked name at from (omega arith) (omega arith) in record {
      order = omega arith;
      within = omega arith;
      none = AllWithin-join IsNoStop name c.args.start at at (from + 16) (omega arith) c.loop-at.invariant.none (none_from_mask is_full_stop name at (from + 16) _ (omega arith) (omega arith) mask c.if-stops-ne0.false);
    }

pub returns : goal.returns
returns c =
    let name = c.args.name.now in
    ends_with_name name c.args.start _ c.requires.begins refl (AllWithin-upto IsNoStop name c.args.start c.loop-at.at (length name) (omega arith) c.loop-at.invariant.none)
