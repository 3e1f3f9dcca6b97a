-- Words that end something, byte after byte.
use Rattle.std.proofs.Common.{◌≡◌, inl, inr, ℕ, Bool, true, false, ◌==◌, ◌&&◌, ◌||◌, List, [], ◌∷◌, ◌++◌, refl, ap, sym, subst, ◌∙◌, arith}
use Rattle.std.proofs.lemmas.Bool.Decides.{nat_tests}
use Rattle.xml_text.specs.declared.repeats.Repeats.{Repeats}
use Rattle.xml_text.specs.declared.repeats.Repeats.TheVariants as repeats
use Rattle.xml_text.specs.Pieces.{begins_with, has}
use Rattle.xml_text.specs.inner.DocumentSteps.{after, is_two, times}
use Rattle.xml_text.proofs.ListLemmas.{is_byte}
use Rattle.xml_text.proofs.Runs.{decide}

pub turned : (a b : ℕ) → (a == b) ≡ (b == a)
turned a b = grind (arith, nat_tests)

pub and_true : (b : Bool) → (b && true) ≡ b
and_true true = refl
and_true false = refl

pub and_false : (b : Bool) → (b && false) ≡ false
and_false true = refl
and_false false = refl

pub or_false : (a b : Bool) → (a || b) ≡ false → (a ≡ false) × (b ≡ false)
or_false false b e = (refl, e)
or_false true b e = absurd (cc)

abbrev pub ends_section : List ℕ
ends_section = 93 ∷ 93 ∷ 62 ∷ []

abbrev pub two_dashes : List ℕ
two_dashes = 45 ∷ 45 ∷ []

abbrev pub ends_instruction : List ℕ
ends_instruction = 63 ∷ 62 ∷ []

-- ']]>' after so many brackets
pub brackets : (k : Repeats) (b : ℕ) (bs : List ℕ) → has ends_section (times k 93 ++ b ∷ bs) ≡ ((is_two k && b == 62) || has ends_section (times (after (b == 93) k) 93 ++ bs))
brackets k b bs = elim (decide (b == 93)) [ inl is ↦ bracket k b bs is | inr is ↦ other k b bs is ]
  where
    bracket : (k : Repeats) (b : ℕ) (bs : List ℕ) → (b == 93) ≡ true
        → has ends_section (times k 93 ++ b ∷ bs) ≡ ((is_two k && b == 62) || has ends_section (times (after (b == 93) k) 93 ++ bs))
    bracket k b bs is = subst (λ (x : ℕ). has ends_section (times k 93 ++ x ∷ bs) ≡ ((is_two k && x == 62) || has ends_section (times (after (x == 93) k) 93 ++ bs))) (sym (is_byte b 93 is)) (at k bs)
      where
        at : (k : Repeats) (bs : List ℕ) → has ends_section (times k 93 ++ 93 ∷ bs) ≡ ((is_two k && false) || has ends_section (times (after true k) 93 ++ bs))
        at repeats.Zero bs = refl
        at repeats.One bs = refl
        at repeats.Two bs = refl

    other : (k : Repeats) (b : ℕ) (bs : List ℕ) → (b == 93) ≡ false
        → has ends_section (times k 93 ++ b ∷ bs) ≡ ((is_two k && b == 62) || has ends_section (times (after (b == 93) k) 93 ++ bs))
    other k b bs is = by k (turned 93 b ∙ is) (ap (λ (o : Bool). (is_two k && b == 62) || has ends_section (times (after o k) 93 ++ bs)) is)
      where
        by : (k : Repeats) → (93 == b) ≡ false → ((is_two k && b == 62) || has ends_section (times (after (b == 93) k) 93 ++ bs)) ≡ ((is_two k && b == 62) || has ends_section bs)
            → has ends_section (times k 93 ++ b ∷ bs) ≡ ((is_two k && b == 62) || has ends_section (times (after (b == 93) k) 93 ++ bs))
        by repeats.Zero differs e = ap (λ (o : Bool). (o && begins_with (93 ∷ 62 ∷ []) bs) || has ends_section bs) differs ∙ sym e
        by repeats.One differs e = ap (λ (o : Bool). (o && begins_with (62 ∷ []) bs) || ((o && begins_with (93 ∷ 62 ∷ []) bs) || has ends_section bs)) differs ∙ sym e
        by repeats.Two differs e =
            ap (λ (o : Bool). (62 == b && true) || ((o && begins_with (62 ∷ []) bs) || ((o && begins_with (93 ∷ 62 ∷ []) bs) || has ends_section bs))) differs
            ∙ ap (λ (o : Bool). o || has ends_section bs) (and_true (62 == b) ∙ turned 62 b) ∙ sym e

abbrev pub is_one : Repeats → Bool
is_one repeats.Zero = false
is_one repeats.One = true
is_one repeats.Two = false

-- '--' after no or one dash
pub dashes : (k : Repeats) (b : ℕ) (bs : List ℕ) → is_two k ≡ false → has two_dashes (times k 45 ++ b ∷ bs) ≡ ((is_one k && b == 45) || has two_dashes (times (after (b == 45) repeats.Zero) 45 ++ bs))
dashes repeats.Two b bs none = absurd (cc)
dashes repeats.Zero b bs none = elim (decide (b == 45)) [
  | inl is ↦ subst (λ (x : ℕ). has two_dashes (x ∷ bs) ≡ has two_dashes (times (after (x == 45) repeats.Zero) 45 ++ bs)) (sym (is_byte b 45 is)) refl
  | inr is ↦ ap (λ (o : Bool). (o && begins_with (45 ∷ []) bs) || has two_dashes bs) (turned 45 b ∙ is) ∙ sym (ap (λ (o : Bool). has two_dashes (times (after o repeats.Zero) 45 ++ bs)) is)
]
dashes repeats.One b bs none = elim (decide (b == 45)) [
  | inl is ↦ subst (λ (x : ℕ). has two_dashes (45 ∷ x ∷ bs) ≡ ((x == 45) || has two_dashes (times (after (x == 45) repeats.Zero) 45 ++ bs))) (sym (is_byte b 45 is)) refl
  | inr is ↦
      ap (λ (o : Bool). (o && true) || ((o && begins_with (45 ∷ []) bs) || has two_dashes bs)) (turned 45 b ∙ is)
      ∙ sym (ap (λ (o : Bool). o || has two_dashes (times (after o repeats.Zero) 45 ++ bs)) is)
]

abbrev pub mark : Bool → List ℕ
mark false = []
mark true = 63 ∷ []

-- '?>' after '?', or not
pub marks : (m : Bool) (b : ℕ) (bs : List ℕ) → has ends_instruction (mark m ++ b ∷ bs) ≡ ((m && b == 62) || has ends_instruction (mark (b == 63) ++ bs))
marks m b bs = elim (decide (b == 63)) [ inl is ↦ here m b bs is | inr is ↦ other m b bs is ]
  where
    here : (m : Bool) (b : ℕ) (bs : List ℕ) → (b == 63) ≡ true → has ends_instruction (mark m ++ b ∷ bs) ≡ ((m && b == 62) || has ends_instruction (mark (b == 63) ++ bs))
    here m b bs is = subst (λ (x : ℕ). has ends_instruction (mark m ++ x ∷ bs) ≡ ((m && x == 62) || has ends_instruction (mark (x == 63) ++ bs))) (sym (is_byte b 63 is)) (at m)
      where
        at : (m : Bool) → has ends_instruction (mark m ++ 63 ∷ bs) ≡ ((m && false) || has ends_instruction (63 ∷ bs))
        at true = refl
        at false = refl

    other : (m : Bool) (b : ℕ) (bs : List ℕ) → (b == 63) ≡ false → has ends_instruction (mark m ++ b ∷ bs) ≡ ((m && b == 62) || has ends_instruction (mark (b == 63) ++ bs))
    other m b bs is = by m (turned 63 b ∙ is) ∙ sym (ap (λ (o : Bool). (m && b == 62) || has ends_instruction (mark o ++ bs)) is)
      where
        by : (m : Bool) → (63 == b) ≡ false → has ends_instruction (mark m ++ b ∷ bs) ≡ ((m && b == 62) || has ends_instruction bs)
        by false differs = ap (λ (o : Bool). (o && begins_with (62 ∷ []) bs) || has ends_instruction bs) differs
        by true differs =
            ap (λ (o : Bool). (62 == b && true) || ((o && begins_with (62 ∷ []) bs) || has ends_instruction bs)) differs
            ∙ ap (λ (o : Bool). o || has ends_instruction bs) (and_true (62 == b) ∙ turned 62 b)
