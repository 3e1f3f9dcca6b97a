use Rattle.std.proofs.Common.{◌≡◌, ℕ, ◌+◌, ◌-◌, ◌/◌, ◌≤◌, ◌^◌, not, false, List, map, length, take, drop, slice_range, ap, ◌∙◌, arith}
use Rattle.std.specs.Simd.Lanes.{chunk, mask_l}
use Rattle.std.proofs.lemmas.Bool.{not-true}
use Rattle.std.proofs.lemmas.List.Elements.{AllWithin-upto}
use Rattle.idn_label.specs.Steps.{is_ldh_point}
use Rattle.idn_label.proofs.LabelsByPlace.{AllWithin-join}
use Rattle.idn_label.proofs.LaneLemmas.{mask_after, next_lane, none_from_mask}
use Rattle.idn_label.proofs.LdhEndLemmas.{ends_at_other}
use Rattle.idn_label.proofs.ldh.ldh_end.Goals as goal

-- the other octets from `at` on in the chunk that begins at `from`, by a bit each
masked : (text : List ℕ) (at from mask : ℕ) → from ≤ at → mask ≡ mask_l (map (λ c. not (is_ldh_point c)) (chunk from 16 text)) → mask / 2 ^ (at - from) ≡ mask_l (map (λ c. not (is_ldh_point c)) (slice_range text at (from + 16)))
masked text at from mask early is =
    let count : 16 ≡ from + 16 - from = omega arith in
    ap (λ m. m / 2 ^ (at - from)) (is ∙ ap (λ n. mask_l (map (λ c. not (is_ldh_point c)) (take n (drop from text)))) count)
    ∙ mask_after (λ c. not (is_ldh_point c)) text from at (from + 16) early

pub returns-then-others-ne0 : goal.returns-then-others-ne0
returns-then-others-ne0 c =
    let text = c.args.text.now in
    let at = c.loop-at.at in
    let from = c.min-from.result in
    let i = c.loop-at.invariant in
    let next = next_lane (λ c. not (is_ldh_point c)) text at (from + 16) _ (omega arith) (omega arith) (omega arith) (masked text at from _ (omega arith) c.others_of.ensures) c.if-others-ne0.true in
    ends_at_other text c.args.start _ (omega arith) (omega (arith, next.before)) (AllWithin-join (λ c. not (is_ldh_point c) ≡ false) text c.args.start at at _ (omega arith) i.ldh next.none) (λ lt. not-true _ next.passes)

pub loop-at-preserved : goal.loop-at-preserved
loop-at-preserved c =
    let text = c.args.text.now in
    let at = c.loop-at.at in
    let from = c.min-from.result in
    let mask = masked text at from _ (omega arith) c.others_of.ensures in record {
      order = omega arith;
      within = omega arith;
      ldh = AllWithin-join (λ c. not (is_ldh_point c) ≡ false) text c.args.start at at (from + 16) (omega arith) c.loop-at.invariant.ldh (none_from_mask (λ c. not (is_ldh_point c)) text at (from + 16) _ (omega arith) (omega arith) mask c.if-others-ne0.false);
    }

pub returns : goal.returns
returns c =
    let text = c.args.text.now in
    ends_at_other text c.args.start (length text) c.requires (omega arith) (AllWithin-upto (λ c. not (is_ldh_point c) ≡ false) text c.args.start c.loop-at.at (length text) (omega arith) c.loop-at.invariant.ldh) (λ lt. absurd (omega (arith, lt)))
