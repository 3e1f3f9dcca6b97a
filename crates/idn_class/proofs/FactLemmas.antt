-- Sets of facts as bits.
use Rattle.std.proofs.Common.{◌≡◌, ℕ, zero, suc, ◌<◌, Bool, true, false, ◌||◌, ◌==◌, min, bit_and, sym, ap, ◌∙◌, arith, lit<, refl}
use Rattle.std.proofs.lemmas.Bool.{true≢false}
use Rattle.std.specs.Int.{bit_at}
use Rattle.std.proofs.lemmas.Nat.{and_le_r}
use Rattle.std.proofs.lemmas.Nat.Bits.{bit_at_and, bit_at-lt, same_from_bits_below}
use Rattle.idn_class.specs.declared.facts.Fact.{Fact}
use Rattle.idn_class.specs.declared.facts.Fact.TheVariants.{MayBeBarred, Contextj, Contexto, MayCompose, Mark, RightToLeft, NotKept}
use Rattle.idn_class.specs.Facts.{contains, place_of}

none_of_min : (a b : ℕ) → a < 2 → b < 2 → (min a b == 0) ≡ (a == 0 || b == 0)
none_of_min zero b la lb = let none : min 0 b ≡ 0 = omega arith in ap (λ n. n == 0) none
none_of_min (suc zero) zero la lb = refl
none_of_min (suc zero) (suc zero) la lb = refl
none_of_min (suc zero) (suc (suc b)) la lb = absurd (omega arith)
none_of_min (suc (suc a)) b la lb = absurd (omega arith)

-- a bit is absent from the common bits where it is absent from one
pub bit_at_both : (a b i : ℕ) → (bit_at (bit_and a b) i == 0) ≡ (bit_at a i == 0 || bit_at b i == 0)
bit_at_both a b i = ap (λ n. n == 0) (bit_at_and a b i) ∙ none_of_min (bit_at a i) (bit_at b i) (bit_at-lt a i) (bit_at-lt b i)

one : (n : ℕ) → n < 2 → (n == 0) ≡ false → n ≡ 1
one zero lt h = absurd (true≢false h)
one (suc zero) lt h = refl
one (suc (suc n)) lt h = absurd (omega arith)

or_first : (a b : Bool) → (a || b) ≡ false → a ≡ false
or_first true b h = h
or_first false b h = refl

pub full : (fact : Fact) → (bit_at 127 (place_of fact) == 0) ≡ false
full MayBeBarred = refl
full Contextj = refl
full Contexto = refl
full MayCompose = refl
full Mark = refl
full RightToLeft = refl
full NotKept = refl

-- where all seven bits are there, no fact is
pub none-from_bits : (absent : ℕ) → bit_and absent 127 ≡ 127 → (fact : Fact) → (bit_at absent (place_of fact) == 0) ≡ false
none-from_bits absent all fact =
    let i = place_of fact in
    or_first (bit_at absent i == 0) (bit_at 127 i == 0) (sym (bit_at_both absent 127 i) ∙ ap (λ n. bit_at n i == 0) all ∙ full fact)

pub bits-from_none : (absent : ℕ) → ((fact : Fact) → (bit_at absent (place_of fact) == 0) ≡ false) → bit_and absent 127 ≡ 127
bits-from_none absent none = same_from_bits_below 7 (bit_and absent 127) 127 (omega (arith, and_le_r absent 127)) (lit< tt) same
  where
    at : (fact : Fact) → bit_at (bit_and absent 127) (place_of fact) ≡ bit_at 127 (place_of fact)
    at fact =
        let i = place_of fact in
        one (bit_at (bit_and absent 127) i) (bit_at-lt (bit_and absent 127) i) (bit_at_both absent 127 i ∙ ap (λ b. b || (bit_at 127 i == 0)) (none fact) ∙ full fact)
        ∙ sym (one (bit_at 127 i) (bit_at-lt 127 i) (full fact))

    same : (i : ℕ) → i < 7 → bit_at (bit_and absent 127) i ≡ bit_at 127 i
    same zero lt = at MayBeBarred
    same (suc zero) lt = at Contextj
    same (suc (suc zero)) lt = at Contexto
    same (suc (suc (suc zero))) lt = at MayCompose
    same (suc (suc (suc (suc zero)))) lt = at Mark
    same (suc (suc (suc (suc (suc zero))))) lt = at RightToLeft
    same (suc (suc (suc (suc (suc (suc zero)))))) lt = at NotKept
    same (suc (suc (suc (suc (suc (suc (suc i))))))) lt = absurd (omega arith)

-- all bits are no fact
pub none-all : (fact : Fact) → contains record { absent = 127 } fact ≡ false
unfolding contains
none-all = full
