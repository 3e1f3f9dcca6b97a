use Rattle.std.proofs.Common.{◌≡◌, ℕ, Bool, not, List, ◌+◌, ◌-◌, ◌/◌, ◌^◌, ◌≤◌, ◌++◌, map, length, take, slice_range, replicate, refl, sym, ap, ap₂, ◌∙◌, append_assoc, arith}
use Rattle.std.specs.Char.{to_ascii_lowercase}
use Rattle.std.specs.Simd.Lanes.{mask_l, put_chunk}
use Rattle.std.proofs.lemmas.Bool.{false≢true, not-false}
use Rattle.std.proofs.lemmas.List.{length-append, length-map, length-replicate, length-take-le, map-append, take_at, take-take}
use Rattle.std.proofs.lemmas.List.Elements.{All-replicate}
use Rattle.std.proofs.lemmas.List.Edits.{length-between}
use Rattle.std.proofs.lemmas.List.Folds.{map_fixed}
use Rattle.std.proofs.lemmas.Simd.{take_more_put_chunk}
use Rattle.idna.specs.Labels.{is_full_stop}
use Rattle.idn_label.specs.LdhNames.{is_name_point}
use Rattle.idn_label.proofs.LaneLemmas.{take-slice_range, map-slice_range, mask_l-padded, mask_none, mask_after, none_from_mask}
use Rattle.idn_label.proofs.LdhNames.{lowered}
use Rattle.idn_label.proofs.query.ldh.lowercase_chunk.Goals as goal

abbrev is_other : ℕ → Bool
is_other c = not (is_name_point (to_ascii_lowercase c))

-- the lanes in lower case
lowered_lanes : (name : List ℕ) (start end n : ℕ) {lanes octets : List ℕ} → lanes ≡ lowered octets → octets ≡ slice_range name start end ++ replicate n 97 → lanes ≡ slice_range (lowered name) start end ++ replicate n 97
lowered_lanes name start end n is same =
    is
    ∙ ap lowered same
    ∙ map-append to_ascii_lowercase (slice_range name start end) (replicate n 97)
    ∙ ap₂ (λ a b. a ++ b) (map-slice_range to_ascii_lowercase name start end) (map_fixed to_ascii_lowercase (replicate n 97) (All-replicate (λ c. to_ascii_lowercase c ≡ c) n 97 refl))

-- what is stored
stored : (room query lanes : List ℕ) (end : ℕ) → end ≤ length query → length query ≤ length room → 16 ≤ length room → take (end - 16) room ≡ take (end - 16) query → lanes ≡ slice_range query (end - 16) end ++ replicate (16 - end) 97 → take end (put_chunk (end - 16) room lanes) ≡ take end query
stored room query lanes end within some wide front is =
    let start = end - 16 in
    let part = slice_range query start end in
    let pad : List ℕ = replicate (16 - end) 97 in
    let count = ap length is ∙ length-append part pad in
    let long : start + 16 ≡ start + length lanes = omega (arith, count, length-between query start end within, length-replicate {A = ℕ} (16 - end) 97) in
    sym (take-take end (start + 16) (put_chunk start room lanes) (omega arith))
    ∙ ap (take end)
    (take_more_put_chunk start room lanes (start + 16) long (omega arith)
    ∙ ap₂ (λ a b. a ++ b) front is
    ∙ sym (append_assoc (take start query) part pad)
    ∙ ap (λ x. x ++ pad) (take-slice_range query start end (omega arith)))
    ∙ take_at (take end query) pad end (length-take-le end query within)

-- the octets that are none of a name, by a bit each
others_of : (part : List ℕ) (n others : ℕ) {octets : List ℕ} → octets ≡ part ++ replicate n 97 → others ≡ mask_l (map is_other octets) → others ≡ mask_l (map is_other part)
others_of part n others same is = is ∙ ap (λ v. mask_l (map is_other v)) same ∙ mask_l-padded is_other part n 97 refl

pub returns-then-others-ne0-clause-points : goal.returns-then-others-ne0-clause-points
returns-then-others-ne0-clause-points c =
    let name = c.args.name.now in
    let end = c.args.end in
    let bad = others_of _ _ _ c.lanes_before.ensures c.lowercase_lanes-stops.ensures.others in
    (λ e. absurd (false≢true e), λ all. absurd (c.if-others-ne0.true (bad ∙ mask_none is_other name (end - 16) end (λ k d from to. ap not (all k d from to)))))

pub returns-clause-lower : goal.returns-clause-lower
returns-clause-lower c =
    let room = c.args.room.now in
    let query = lowered c.args.name.now in
    let end = c.args.end in
    let is = lowered_lanes c.args.name.now (end - 16) end (16 - end) (c.lowercase_lanes-stops.ensures.lower c.if-others-ne0.false) c.lanes_before.ensures in
    let begun = sym (take-take (end - 16) c.args.at room (omega (arith, c.requires.few))) ∙ ap (take (end - 16)) c.requires.begun ∙ take-take (end - 16) c.args.at query (omega (arith, c.requires.few)) in
    let count = length-map c.args.name.now to_ascii_lowercase in
    rw c.saturating_sub-start.ensures (stored room query _ end (omega (arith, count, c.requires.within)) (omega (arith, count, c.requires.room)) c.requires.wide begun is)

pub returns-clause-stops : goal.returns-clause-stops
returns-clause-stops c =
    let query = lowered c.args.name.now in
    let at = c.args.at in
    let end = c.args.end in
    ap₂ (λ m start. m / 2 ^ (at - start))
    (c.lowercase_lanes-stops.ensures.stops ∙ ap (λ v. mask_l (map is_full_stop v)) (lowered_lanes c.args.name.now (end - 16) end (16 - end) refl c.lanes_before.ensures) ∙ mask_l-padded is_full_stop (slice_range query (end - 16) end) (16 - end) 97 refl)
    c.saturating_sub-start.ensures
    ∙ mask_after is_full_stop query (end - 16) at end (omega (arith, c.requires.few))

pub returns-clause-points : goal.returns-clause-points
returns-clause-points c =
    let name = c.args.name.now in
    let end = c.args.end in
    let good = others_of _ _ _ c.lanes_before.ensures c.lowercase_lanes-stops.ensures.others in
    (λ _ k d from to. not-false _ (none_from_mask is_other name (end - 16) end _ (omega arith) c.requires.within good c.if-others-ne0.false k d from to), λ _. refl)
