use Rattle.std.proofs.Common.{◌≡◌, ℕ, ◌+◌, ◌-◌, ◌<◌, ◌≤◌, List, length, take, get_or, set, insert, length-take, refl, sym, ap, ◌∙◌, inl, inr, arith}
use Rattle.std.specs.Simd.Lanes.{chunk, put_chunk}
use Rattle.std.proofs.lemmas.Bool.{cases_lt, cases_order}
use Rattle.std.proofs.lemmas.Grind.{same_number_lists}
use Rattle.std.proofs.lemmas.List.{length-set, get_or-set_same, get_or-set_other, get_or-take}
use Rattle.std.proofs.lemmas.List.Edits.{length-insert, get_or-insert_below, get_or-insert_at, get_or-insert_above}
use Rattle.std.proofs.lemmas.Simd.{length-put_chunk, get_or-put_chunk_below}
use Rattle.idn_punycode.proofs.ChunkSteps.{inside, above}
use Rattle.idn_punycode.proofs.decoding.insert_at.Goals.{then-len-place-gt-CHUNK_LEN, else-len-place-gt-CHUNK_LEN}
use Rattle.idn_punycode.proofs.decoding.insert_at.Goals as goal

-- the code points from the place on stand one place further up, and the place is written
module _ (points old : List ℕ) (len place code_point : ℕ) (same : length points ≡ length old) (room : len + 9 ≤ length old) (within : place ≤ len)
    (below : (k : ℕ) → k ≤ place → get_or points k 0 ≡ get_or old k 0)
    (above : (k : ℕ) → place ≤ k → k < len → get_or points (k + 1) 0 ≡ get_or old k 0) where
  front : length (take len old) ≡ len
  front = omega (arith, length-take len old, room)

  at : (k : ℕ) → k < len + 1 → get_or (set points place code_point) k 0 ≡ get_or (insert (take len old) place code_point) k 0
  at k lt =
      elim (cases_order k place) [
        | inl here ↦
            ap (λ i. get_or (set points place code_point) i 0) here
            ∙ get_or-set_same points place code_point 0 (omega (arith, same, room, within))
            ∙ sym (get_or-insert_at (take len old) place code_point 0 (omega (arith, front, within)))
            ∙ ap (λ i. get_or (insert (take len old) place code_point) i 0) (sym here)
        | inr (inl before) ↦
            get_or-set_other points place k code_point 0 (λ e. omega (arith, e, before))
            ∙ below k (omega (arith, before))
            ∙ sym (get_or-take len old k 0 (omega (arith, before, within)))
            ∙ sym (get_or-insert_below (take len old) place code_point 0 k before (omega (arith, front, within)))
        | inr (inr after) ↦
            let up : k ≡ k - 1 + 1 = omega (arith, after) in
            get_or-set_other points place k code_point 0 (λ e. omega (arith, e, after))
            ∙ ap (λ i. get_or points i 0) up
            ∙ above (k - 1) (omega (arith, after)) (omega (arith, after, lt))
            ∙ sym (get_or-take len old (k - 1) 0 (omega (arith, after, lt)))
            ∙ sym (get_or-insert_above (take len old) place code_point 0 (k - 1) (omega (arith, after)) (omega (arith, front, within)))
            ∙ ap (λ i. get_or (insert (take len old) place code_point) i 0) (sym up)
      ]

  inserted : take (len + 1) (set points place code_point) ≡ insert (take len old) place code_point
  inserted =
      let written = length-take (len + 1) (set points place code_point) in
      let long = length-set points place code_point in
      let other = length-insert (take len old) place code_point (omega (arith, front, within)) in
      same_number_lists _ _ (omega (arith, written, long, other, front, same, room))
      (λ k lt. get_or-take (len + 1) (set points place code_point) k 0 (omega (arith, lt, written)) ∙ at k (omega (arith, lt, written)))

-- and a chunk at the place, where those after it were moved already
module _ (points old : List ℕ) (len place code_point : ℕ) (same : length points ≡ length old) (room : len + 9 ≤ length old) (within : place ≤ len)
    (below : (k : ℕ) → k ≤ place + 8 → get_or points k 0 ≡ get_or old k 0)
    (far : (k : ℕ) → place + 8 ≤ k → k < len → get_or points (k + 1) 0 ≡ get_or old k 0) where
  fits : place + 9 ≤ length points
  fits = omega (arith, same, room, within)

  with_chunk : take (len + 1) (set (put_chunk (place + 1) points (chunk place 8 points)) place code_point) ≡ insert (take len old) place code_point
  with_chunk =
      inserted (put_chunk (place + 1) points (chunk place 8 points)) old len place code_point
      (length-put_chunk (place + 1) points (chunk place 8 points) ∙ same) room within
      (λ k le. get_or-put_chunk_below (place + 1) points (chunk place 8 points) k 0 (omega (arith, le)) ∙ below k (omega (arith, le)))
      (λ k le lt. elim (cases_lt k (place + 8)) [
        | inl near ↦ inside points place fits k le near ∙ below k (omega (arith, near))
        | inr more ↦ above points place fits k more ∙ far k more lt
      ])

pub returns-clause-inserted : goal.returns-clause-inserted
returns-clause-inserted c =
    let old = c.args.points.now in
    let place = c.args.place in
    elim c.if-len-place-gt-CHUNK_LEN.branch [
      | then-len-place-gt-CHUNK_LEN w ↦
          let moved = w.move_up.ensures in
          rw w.points-is
          (with_chunk w.move_up.new.points old c.args.len place c.args.code_point moved.length c.requires.room c.requires.within moved.below moved.moved)
      | else-len-place-gt-CHUNK_LEN w ↦
          rw w.points-is
          (with_chunk old old c.args.len place c.args.code_point refl c.requires.room c.requires.within (λ k le. refl)
          (λ k le lt. absurd (omega (arith, le, lt, w.if-len-place-gt-CHUNK_LEN.false))))
    ]
