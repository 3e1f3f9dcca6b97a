use Rattle.std.proofs.Common.{◌≡◌, ◌+◌, ◌-◌, ◌<◌, ◌≤◌, ◌++◌, List, ℕ, length, take, drop, slice_range, replicate, sym, ap, ap₂, ◌∙◌, append_assoc, arith}
use Rattle.std.proofs.Math.Seq.{drop-append-add}
use Rattle.std.proofs.lemmas.List.{drop-drop, drop-replicate, length-take-le, take-append-le, take-take}
use Rattle.idn_label.proofs.LaneLemmas.{take-slice_range}
use Rattle.idn_label.proofs.query.ldh.lanes_before.Goals as goal
use Rattle.idn_label.proofs.query.ldh.lanes_before.Goals.{then-end-lt-HALF_LEN, else-end-lt-HALF_LEN}

-- eight octets, and over the last of them the eight before `end`
overlapped : (name first : List ℕ) (end : ℕ) → 8 ≤ end → end < 16 → end ≤ length name → first ≡ take 8 name ++ replicate 8 97 → take (end - 8) first ++ (slice_range name (end - 8) end ++ drop (end - (end - 8)) (drop (end - 8) first)) ≡ take end name ++ replicate (16 - end) 97
overlapped name first end some few within is =
    let from = end - 8 in
    let eight = length-take-le 8 name (omega arith) in
    let front = take-append-le from (take 8 name) (replicate 8 97) (omega (arith, eight)) ∙ take-take from 8 name (omega arith) in
    let count : from + (end - from) ≡ length (take 8 name) + from = omega (arith, eight) in
    let after = drop-append-add (take 8 name) (replicate 8 97) from ∙ drop-replicate from 8 97 ∙ ap (λ n. replicate n 97) (let e : 8 - from ≡ 16 - end = omega arith in e) in
    ap₂ (λ a b. a ++ (slice_range name from end ++ b)) (ap (take from) is ∙ front) (drop-drop (end - from) from first ∙ ap₂ drop count is ∙ after)
    ∙ sym (append_assoc (take from name) (slice_range name from end) (replicate (16 - end) 97))
    ∙ ap (λ x. x ++ replicate (16 - end) 97) (take-slice_range name from end (omega arith))

pub returns : goal.returns
returns c =
    let name = c.args.name.now in
    let end = c.args.end in
    rw (let e : end - 16 ≡ 0 = omega arith in e, let e : end - 0 ≡ end = omega arith in e)
    (elim c.if-end-lt-HALF_LEN.branch [
      | then-end-lt-HALF_LEN w ↦ rw (w.octets-is, w.copy_from_slice.ensures.after) (ap (λ pad. take end name ++ pad) (drop-replicate end 16 97))
      | else-end-lt-HALF_LEN w ↦
          rw (w.octets-is, w.copy_from_slice-else-end-lt-HALF_LEN-2.ensures.after)
          (overlapped name _ end w.if-end-lt-HALF_LEN.false c.if-end-ge-CHUNK_LEN.false c.requires (ap (λ front. front ++ replicate 8 97) w.copy_from_slice-else-end-lt-HALF_LEN.ensures.after))
    ])
