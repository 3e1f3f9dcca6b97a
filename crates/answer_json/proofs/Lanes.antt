-- Texts of which each byte stands as it is, all bytes at once.
use Rattle.std.proofs.Common.{◌≡◌, ℕ, ◌+◌, ◌*◌, ◌%◌, ◌^◌, ◌≤◌, Bool, true, false, not, cond, ◌&&◌, ◌==◌, eqb, ltb, List, [], ◌∷◌, length, map, get_or, replicate, bit_or, Fits, w8, refl, ap, ap₂, ◌∙◌, arith}
use Rattle.std.proofs.lemmas.Bool.{agree_below_at}
use Rattle.std.proofs.lemmas.Bool.Decides.{nat_tests}
use Rattle.std.proofs.lemmas.List.{length-map, take_all}
use Rattle.std.proofs.lemmas.Simd.{chunk-fits, length-chunk, map-map, mask_l-mod, put_chunk_whole, zip2_of_maps, zip2_splat}
use lib.Lanes.{Each1, chunk, mask_l, put_chunk, top, zip2}
use Rattle.answer_json.specs.inner.Texts.{is_plain, is_plain_byte}

-- what a comparison of a vector's lanes gives at each
abbrev hit : ℕ → ℕ → ℕ
hit a b = cond (eqb a b) 255 0

abbrev below : ℕ → ℕ → ℕ
below a b = cond (ltb a b) 255 0

-- the three tests of a byte
abbrev tests : ℕ → ℕ
tests byte = bit_or (bit_or (hit byte 34) (hit byte 92)) (below byte 32)

abbrev stops : ℕ → Bool
stops byte = not (is_plain_byte byte)

-- they agree at each of the 256 bytes
agree : (text : List ℕ) → Each1 (Fits w8) text → map (λ byte. top 7 (tests byte)) text ≡ map stops text
agree [] fits = refl
agree (byte ∷ text) fits =
    ap₂ (λ (b : Bool) (bs : List Bool). b ∷ bs) (agree_below_at (λ byte. top 7 (tests byte)) stops 256 byte refl fits.0.fits) (agree text fits.1)

-- a bit for each byte that needs an escape, and there is none
no_stop_more : (plain : Bool) (mask : ℕ) (rest : Bool) → (mask == 0) ≡ rest → (cond (not plain) 1 0 + 2 * mask == 0) ≡ (plain && rest)
no_stop_more true mask rest e = let same : (0 + 2 * mask == 0) ≡ (mask == 0) = grind (arith, nat_tests) in same ∙ e
no_stop_more false mask rest e = grind (arith, nat_tests)

no_stops : (text : List ℕ) → (mask_l (map stops text) == 0) ≡ is_plain text
no_stops [] = refl
no_stops (byte ∷ text) = no_stop_more (is_plain_byte byte) (mask_l (map stops text)) (is_plain text) (no_stops text)

module _ (text : List ℕ) (n : ℕ) (long : length text ≡ n) where
  window_is : chunk 0 n text ≡ text
  window_is = take_all n text (omega (arith, long))

  -- the tests of all bytes, as the code makes them
  pub plain_lanes : n ≤ 64 → ((k : ℕ) → Fits w8 (get_or text k 0))
      → (mask_l (map (top 7) (zip2 bit_or (zip2 bit_or (zip2 hit (chunk 0 n text) (replicate n 34)) (zip2 hit (chunk 0 n text) (replicate n 92))) (zip2 below (chunk 0 n text) (replicate n 32)))) % 2 ^ 64 == 0)
      ≡ is_plain text
  plain_lanes few fits =
      let v = chunk 0 n text in
      let count = length-chunk 0 n text (omega (arith, long)) in
      let tested = zip2_of_maps bit_or _ _ v (zip2_of_maps bit_or _ _ v (zip2_splat {Y = ℕ} hit v n 34 count) (zip2_splat {Y = ℕ} hit v n 92 count)) (zip2_splat {Y = ℕ} below v n 32 count) in
      ap (λ (lanes : List ℕ). mask_l (map (top 7) lanes) % 2 ^ 64 == 0) tested
      ∙ ap (λ (bits : List Bool). mask_l bits % 2 ^ 64 == 0) (map-map (top 7) tests v ∙ agree v (chunk-fits w8 0 n text fits))
      ∙ ap (λ (m : ℕ). m == 0) (mask_l-mod (map stops v) 64 (omega (arith, count, length-map v stops, few)))
      ∙ no_stops v ∙ ap is_plain window_is

  pub copied_lanes : (copy : List ℕ) → length copy ≡ n → put_chunk 0 copy (chunk 0 n text) ≡ text
  copied_lanes copy same = put_chunk_whole copy (chunk 0 n text) (omega (arith, same, length-chunk 0 n text (omega (arith, long)))) ∙ window_is
