-- Chunks of code points that are moved up by one place.
use Rattle.std.proofs.Common.{◌≡◌, ℕ, ◌+◌, ◌-◌, ◌<◌, ◌≤◌, List, length, get_or, ap, ◌∙◌, arith}
use Rattle.std.specs.Simd.Lanes.{chunk, put_chunk}
use Rattle.std.proofs.lemmas.Simd.{length-chunk, get_or-chunk, get_or-put_chunk_at, get_or-put_chunk_above}

-- a chunk that is stored one place further up
module _ (points : List ℕ) (at : ℕ) (room : at + 9 ≤ length points) where
  pub stored : length (chunk at 8 points) ≡ 8
  stored = length-chunk at 8 points (omega (arith, room))

  pub inside : (k : ℕ) → at ≤ k → k < at + 8 → get_or (put_chunk (at + 1) points (chunk at 8 points)) (k + 1) 0 ≡ get_or points k 0
  inside k le lt =
      let up : k + 1 ≡ at + 1 + (k - at) = omega arith in
      let here : at + (k - at) ≡ k = omega arith in
      ap (λ i. get_or (put_chunk (at + 1) points (chunk at 8 points)) i 0) up
      ∙ get_or-put_chunk_at (at + 1) points (chunk at 8 points) (k - at) 0 (omega (arith, stored)) (omega (arith, stored, room))
      ∙ get_or-chunk at 8 points (k - at) 0 (omega arith)
      ∙ ap (λ i. get_or points i 0) here

  pub above : (k : ℕ) → at + 8 ≤ k → get_or (put_chunk (at + 1) points (chunk at 8 points)) (k + 1) 0 ≡ get_or points (k + 1) 0
  above k le = get_or-put_chunk_above (at + 1) points (chunk at 8 points) (k + 1) 0 (omega (arith, stored))
