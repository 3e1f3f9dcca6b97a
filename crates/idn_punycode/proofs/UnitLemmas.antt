-- The code points of a label as they are held.
use Rattle.std.proofs.Common.{◌≡◌, ◌+◌, ◌<◌, ℕ, List, [], ◌∷◌, ◌++◌, map, take, drop, length, get_or, sym, ap, ◌∙◌, arith}
use Rattle.std.proofs.Math.ListN.{length-map, get_or-map}
use Rattle.std.proofs.lemmas.List.{get_or_default, take-map, drop-map, take_more, drop_more}

module _ {T : Type 0} (code : T → ℕ) (codes : List T → List ℕ) (are : (units : List T) → codes units ≡ map code units) (units : List T) where
  pub codes_length : length (codes units) ≡ length units
  codes_length = ap length (are units) ∙ length-map units code

  pub codes_at : (at : ℕ) (x : T) → at < length units → x ≡ get_or units at x → code x ≡ get_or (codes units) at 0
  codes_at at x lt is =
      ap code is
      ∙ sym (get_or-map code units at x)
      ∙ get_or_default (map code units) at (code x) 0 (omega (arith, length-map units code))
      ∙ ap (λ xs. get_or xs at 0) (sym (are units))

  -- a unit more, whose code point is c
  pub codes_next : (at : ℕ) (x : T) (c : ℕ) → at < length units → x ≡ get_or units at x → c ≡ code x → take (at + 1) (codes units) ≡ take at (codes units) ++ c ∷ []
  codes_next at x c lt is told =
      take_more (codes units) at 0 (omega (arith, codes_length, lt)) ∙ ap (λ c. take at (codes units) ++ c ∷ []) (sym (told ∙ codes_at at x lt is))

  pub codes_more : (at : ℕ) (x : T) (c : ℕ) → at < length units → x ≡ get_or units at x → c ≡ code x → drop at (codes units) ≡ c ∷ drop (at + 1) (codes units)
  codes_more at x c lt is told =
      drop_more (codes units) at 0 (omega (arith, codes_length, lt)) ∙ ap (λ c. c ∷ drop (at + 1) (codes units)) (sym (told ∙ codes_at at x lt is))

  pub codes_take : (n : ℕ) → take n (codes units) ≡ codes (take n units)
  codes_take n = ap (take n) (are units) ∙ take-map code n units ∙ sym (are (take n units))

  pub codes_drop : (n : ℕ) → drop n (codes units) ≡ codes (drop n units)
  codes_drop n = ap (drop n) (are units) ∙ drop-map code n units ∙ sym (are (drop n units))
