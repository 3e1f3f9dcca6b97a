-- Numbers that digits write, cut off past all code points.
use Rattle.std.proofs.Common.{◌≡◌, ◌⊎◌, ℕ, ◌+◌, ◌*◌, ◌<◌, ◌≤◌, Bool, true, false, ◌&&◌, nat_lt, Some, None, List, [], ◌∷◌, length, get_or, min, cond, inl, inr, refl, sym, ap, ◌∙◌, subst, arith}
use Rattle.std.specs.Char.{is_digit, digit_value}
use Rattle.std.specs.List.{list_all}
use Rattle.std.specs.Str.Parse.{digits_value}
use Rattle.std.proofs.lemmas.Bool.{cases_lt}
use Rattle.std.proofs.lemmas.Bool.Decides.{nat_tests}
use Rattle.std.proofs.lemmas.List.Folds.{list_all_at}
use Rattle.xml_text.specs.References.{is_character, character_of, numbered}

capped : (v d r : ℕ) → (r ≡ 10) ⊎ (r ≡ 16) → min (min v 0x110000 * r + d) 0x110000 ≡ min (v * r + d) 0x110000
capped v d r (inl e) =
    let ten : min (min v 0x110000 * 10 + d) 0x110000 ≡ min (v * 10 + d) 0x110000 = omega arith in
    subst (λ (r : ℕ). min (min v 0x110000 * r + d) 0x110000 ≡ min (v * r + d) 0x110000) (sym e) ten
capped v d r (inr e) =
    let sixteen : min (min v 0x110000 * 16 + d) 0x110000 ≡ min (v * 16 + d) 0x110000 = omega arith in
    subst (λ (r : ℕ). min (min v 0x110000 * r + d) 0x110000 ≡ min (v * r + d) 0x110000) (sym e) sixteen

-- one more digit
pub value_more : (m v f d V W r : ℕ) → (r ≡ 10) ⊎ (r ≡ 16) → m ≡ min (v * r + f) 0x110000 → v ≡ min V 0x110000 → f ≡ d → W ≡ V * r + d → m ≡ min W 0x110000
value_more m v f d V W r radix m_is v_is f_is W_is =
    m_is ∙ ap (λ n. min (n * r + f) 0x110000) v_is ∙ ap (λ n. min (min V 0x110000 * r + n) 0x110000) f_is ∙ capped V d r radix ∙ ap (λ n. min n 0x110000) (sym W_is)

pub all_more : (a b c : Bool) → a ≡ (b && c) → b ≡ true → c ≡ true → a ≡ true
all_more a b c e f g = e ∙ ap (λ (x : Bool). x && c) f ∙ g

-- a byte that is no digit
pub not_number : (r : ℕ) (ds : List ℕ) (i : ℕ) → i < length ds → is_digit (get_or ds i 0) r ≡ false → numbered r ds ≡ None
not_number r [] i l e = refl
not_number r (d ∷ ds) i l e = ap (λ (b : Bool). cond b (character_of (digits_value r (d ∷ ds))) None) (list_all_at (λ b. is_digit b r) (d ∷ ds) i 0 l e)

no_digit : (v r : ℕ) → (v < r → ⊥) → nat_lt v r ≡ false
no_digit v r h = grind (arith, nat_tests)

pub no_digit_at : (b c r : ℕ) → c ≡ b → (digit_value c < r → ⊥) → is_digit b r ≡ false
no_digit_at b c r e h = subst (λ (x : ℕ). is_digit x r ≡ false) e (no_digit (digit_value c) r h)

pub digit_at : (b c r : ℕ) → c ≡ b → digit_value c < r → is_digit b r ≡ true
digit_at b c r e h = subst (λ (x : ℕ). is_digit x r ≡ true) e (grind (arith, nat_tests))

past_all : (v : ℕ) → 0x110000 ≤ v → is_character v ≡ false
past_all v l = grind (arith, nat_tests)

same_character : (v : ℕ) → character_of (min v 0x110000) ≡ character_of v
same_character v = elim (cases_lt v 0x110000) [
  | inl l ↦ let e : min v 0x110000 ≡ v = omega arith in ap character_of e
  | inr l ↦ let e : min v 0x110000 ≡ 0x110000 = omega arith in ap character_of e ∙ sym (ap (λ (b : Bool). cond b (Some v) None) (past_all v l))
]

pub number_is : (r : ℕ) (ds : List ℕ) (v : ℕ) → list_all (λ b. is_digit b r) ds ≡ true → (length ds ≡ 0 → ⊥) → v ≡ min (digits_value r ds) 0x110000 → character_of v ≡ numbered r ds
number_is r [] v all some e = absurd (some refl)
number_is r (d ∷ ds) v all some e = ap character_of e ∙ same_character (digits_value r (d ∷ ds)) ∙ sym (ap (λ (b : Bool). cond b (character_of (digits_value r (d ∷ ds))) None) all)
