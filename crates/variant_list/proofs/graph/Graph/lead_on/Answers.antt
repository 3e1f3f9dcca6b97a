use Rattle.std.proofs.Common.{ℕ, ◌+◌, ◌<◌, ◌≤◌, slice_index, arith, sym, subst, refl, ◌∙◌, ◌↔◌, length, None}
use Rattle.variant_list.specs.inner.Holding.{BitRows, Holds}
use Rattle.variant_list.specs.inner.Plans.{Plan}
use Rattle.variant_list.specs.inner.Scans.{IsLed}
use Rattle.variant_list.proofs.EdgeScans.{IsLed-start, IsLed-skip, IsLed-least, IsLed-filled, IsLed-stays}
use Rattle.variant_list.proofs.NextBit.{IsAhead-same}
use Rattle.variant_list.proofs.graph.Graph.lead_on.Goals as goal

pub follow-found-requires-clause-place : goal.follow-found-requires-clause-place
follow-found-requires-clause-place c =
    let has = subst (λ r. Holds c.loop-place.rows r c.in-Some.place) c.loop-place.invariant.row c.in-Some.ensures.found.0 in
    c.requires.inside c.in-Some.place ((c.loop-place.invariant.led.others c.args.row c.in-Some.place c.requires.apart).0 has)

pub loop-place-init : goal.loop-place-init
loop-place-init c =
    let net : Plan = c.args.self.now in
    let none = c.places_of-ahead.ensures.all in
    record {
      ahead = c.places_of-ahead.ensures.ahead;
      row = c.places_of-ahead.ensures.row;
      inside = omega (arith, none);
      led = subst (λ n. IsLed net c.args.rows.now c.args.rows.now c.args.row c.args.into (slice_index net.starts n) c.args.least c.args.within None) (sym none)
          (IsLed-start net c.args.rows.now c.args.row c.args.into c.args.least c.args.within c.places-places.ensures.is_net);
      size = refl;
      looks = omega arith;
    }

pub loop-place-preserved : goal.loop-place-preserved
loop-place-preserved c =
    let net : Plan = c.args.self.now in
    let old : BitRows = c.args.rows.now in
    let now : BitRows = c.loop-place.rows in
    let new : BitRows = c.follow-found.new.rows in
    let next : ℕ = c.loop-place.ahead.from in
    let place : ℕ = c.in-Some.place in
    let led = c.loop-place.invariant.led in
    let same = c.loop-place.invariant.row in
    let has : Holds old c.args.row place = (led.others c.args.row place c.requires.apart).0 (subst (λ r. Holds now r place) same c.in-Some.ensures.found.0) in
    let from = c.in-Some.ensures.found.1 in
    let moved = c.in-Some.ensures.ahead.0 in
    let below : place < length net.rests = c.requires.inside place has in
    let up = c.places-places.ensures.is_net.laid_out.rising next place from (omega (arith, below)) in
    let passed = IsLed-skip net old c.args.row c.args.into c.args.least c.args.within c.places-places.ensures.is_net now next place c.loop-place.found from (omega (arith, below))
    (λ p l m h. omega (arith, m, c.in-Some.ensures.least p l (subst (λ r. Holds now r p) (sym same) ((led.others c.args.row p c.requires.apart).1 h)))) led in
    let row = c.next_place.ensures.row ∙ same in
    let after = c.follow-found.ensures.led old c.args.row has passed in
    let same_row : (p : ℕ) → Holds new c.args.row p ↔ Holds now c.args.row p = λ p.
    (λ h. (led.others c.args.row p c.requires.apart).1 ((after.others c.args.row p c.requires.apart).0 h), λ h. (after.others c.args.row p c.requires.apart).1 ((led.others c.args.row p c.requires.apart).0 h)) in
    record {
      ahead = IsAhead-same now new c.next_place.new.ahead c.follow-found.ensures.size
          (λ p. subst (λ r. Holds new r p ↔ Holds now r p) (sym row) (same_row p)) c.in-Some.ensures.ahead.1;
      row = row;
      inside = omega (arith, below, moved);
      led = subst (λ n. IsLed net old new c.args.row c.args.into (slice_index net.starts n) c.args.least c.args.within c.follow-found.result) (sym moved) after;
      size = c.follow-found.ensures.size ∙ c.loop-place.invariant.size;
      looks = subst (λ n. c.follow-found.new.looks ≤ c.args.looks.now + slice_index net.starts n) (sym moved) (omega (arith, c.follow-found.ensures.looks, c.loop-place.invariant.looks, up));
    }

-- all places of the row were looked at
all_led : (c : goal.In_default) → IsLed c.args.self.now c.args.rows.now c.loop-place.rows c.args.row c.args.into (slice_index c.args.self.now.starts (length c.args.self.now.rests)) c.args.least c.args.within c.loop-place.found
all_led c =
    let led = c.loop-place.invariant.led in
    IsLed-skip c.args.self.now c.args.rows.now c.args.row c.args.into c.args.least c.args.within c.places-places.ensures.is_net c.loop-place.rows c.loop-place.ahead.from (length c.args.self.now.rests) c.loop-place.found c.loop-place.invariant.inside (omega arith)
    (λ p l m h. c.in_default.ensures.none p l (subst (λ r. Holds c.loop-place.rows r p) (sym c.loop-place.invariant.row) ((led.others c.args.row p c.requires.apart).1 h))) led

pub returns-clause-point : goal.returns-clause-point
returns-clause-point c =
    IsLed-least c.args.self.now c.args.rows.now c.args.row c.args.into c.args.least c.args.within c.places-places.ensures.is_net c.loop-place.rows c.loop-place.found (all_led c)

pub returns-clause-filled : goal.returns-clause-filled
returns-clause-filled c =
    IsLed-filled c.args.self.now c.args.rows.now c.args.row c.args.into c.args.least c.args.within c.places-places.ensures.is_net c.loop-place.rows c.loop-place.found (all_led c)

pub returns-clause-stays : goal.returns-clause-stays
returns-clause-stays c =
    IsLed-stays c.args.self.now c.args.rows.now c.args.row c.args.into c.args.least c.args.within c.places-places.ensures.is_net c.loop-place.rows (slice_index c.args.self.now.starts c.loop-place.ahead.from) c.loop-place.found c.loop-place.invariant.led

pub returns-clause-looks : goal.returns-clause-looks
returns-clause-looks c =
    let net : Plan = c.args.self.now in
    let laid_out = c.places-places.ensures.is_net.laid_out in
    omega (arith, c.loop-place.invariant.looks, laid_out.rising c.loop-place.ahead.from (length net.rests) c.loop-place.invariant.inside (omega arith), laid_out.whole)
