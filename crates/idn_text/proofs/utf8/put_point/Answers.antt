use Rattle.std.proofs.Common.{◌≡◌, ℕ, ◌+◌, ◌≤◌, ◌<◌, List, [], ◌∷◌, ◌++◌, take, set, length, length-set, refl, ap, ◌∙◌, append_assoc, arith}
use Rattle.std.proofs.lemmas.Grind.{take-set_at}
use Rattle.idn_text.proofs.Utf8Lemmas.{encode_utf8-two, encode_utf8-three, encode_utf8-four}
use Rattle.idn_text.proofs.utf8.put_point.Goals as goal

-- bytes written one after the other from a place on
module _ (room : List ℕ) (at : ℕ) (enough : at + 4 ≤ length room) where
  one : (a : ℕ) → take (at + 1) (set room at a) ≡ take at room ++ a ∷ []
  one a = take-set_at room at (at + 1) a refl (omega (arith, enough))

  two : (a b : ℕ) → take (at + 2) (set (set room at a) (at + 1) b) ≡ take at room ++ a ∷ b ∷ []
  two a b =
      take-set_at (set room at a) (at + 1) (at + 2) b (omega arith) (omega (arith, enough, length-set room at a))
      ∙ ap (λ xs. xs ++ b ∷ []) (one a)
      ∙ append_assoc (take at room) (a ∷ []) (b ∷ [])

  three : (a b c : ℕ) → take (at + 3) (set (set (set room at a) (at + 1) b) (at + 2) c) ≡ take at room ++ a ∷ b ∷ c ∷ []
  three a b c =
      take-set_at (set (set room at a) (at + 1) b) (at + 2) (at + 3) c (omega arith) (omega (arith, enough, length-set room at a, length-set (set room at a) (at + 1) b))
      ∙ ap (λ xs. xs ++ c ∷ []) (two a b)
      ∙ append_assoc (take at room) (a ∷ b ∷ []) (c ∷ [])

  four : (a b c d : ℕ) → take (at + 4) (set (set (set (set room at a) (at + 1) b) (at + 2) c) (at + 3) d) ≡ take at room ++ a ∷ b ∷ c ∷ d ∷ []
  four a b c d =
      take-set_at (set (set (set room at a) (at + 1) b) (at + 2) c) (at + 3) (at + 4) d (omega arith)
      (omega (arith, enough, length-set room at a, length-set (set room at a) (at + 1) b, length-set (set (set room at a) (at + 1) b) (at + 2) c))
      ∙ ap (λ xs. xs ++ d ∷ []) (three a b c)
      ∙ append_assoc (take at room) (a ∷ b ∷ c ∷ []) (d ∷ [])

pub returns-then-point-lt2048-clause-written : goal.returns-then-point-lt2048-clause-written
returns-then-point-lt2048-clause-written c =
    let low : 0x80 ≤ c.args.point = omega arith in
    let high : c.args.point < 0x800 = omega arith in
    rw (encode_utf8-two c.args.point low high, c.later_byte.ensures) (two c.args.room.now c.args.at c.requires.room _ _)

pub returns-then-point-lt65536-clause-written : goal.returns-then-point-lt65536-clause-written
returns-then-point-lt65536-clause-written c =
    let low : 0x800 ≤ c.args.point = omega arith in
    let high : c.args.point < 0x1_0000 = omega arith in
    rw (encode_utf8-three c.args.point low high, c.later_byte-then-point-lt65536.ensures, c.later_byte-then-point-lt65536-2.ensures)
    (three c.args.room.now c.args.at c.requires.room _ _ _)

pub returns-else-point-lt65536-clause-written : goal.returns-else-point-lt65536-clause-written
returns-else-point-lt65536-clause-written c =
    let low : 0x1_0000 ≤ c.args.point = omega arith in
    rw (encode_utf8-four c.args.point low, c.later_byte-else-point-lt65536.ensures, c.later_byte-else-point-lt65536-2.ensures, c.later_byte-else-point-lt65536-3.ensures)
    (four c.args.room.now c.args.at c.requires.room _ _ _ _)
