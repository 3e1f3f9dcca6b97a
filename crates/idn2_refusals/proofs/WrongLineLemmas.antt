-- The lines of registered labels, and their code points; and texts that are joined one after another.
use Rattle.std.proofs.Common.{◌≡◌, ◌≤◌, ◌++◌, ◌∷◌, ◌==◌, ℕ, zero, suc, Bool, true, false, List, [], chars, length, take, eq-eqb, Option, Some, Result, Ok, Err, OnOk, OnErr, slice_get, refl, sym, ap, ◌∙◌, append_assoc, arith, if◌then◌else◌}
use Rattle.std.specs.Str.{is_utf8}
use Rattle.std.proofs.lemmas.Bool.Decides.{nat_tests}
use Rattle.std.proofs.lemmas.Str.{is_utf8-from_IsUtf8}
use Rattle.idn_text.specs.Points.{IsUtf8Of}
use Rattle.idn_text.proofs.Utf8Lemmas.{IsUtf8-from_points, points_from_utf8}
use Rattle.idn_class.specs.Shared.{IsLongestShared}
use Rattle.idn_cause.specs.Causes.{shared}
use Rattle.idn2_refusals.specs.WrongLines.{differs_at, order_cause, points_in}
use Rattle.idn2_refusals.proofs.Utf8Bytes.{is_not_utf8}

-- what is decoded of bytes, which is nothing of those that are no UTF-8
pub points_read : {A E : Type 0} (bytes points : List ℕ) (r : Result A E) → OnOk r (IsUtf8Of bytes points) → OnErr r ((list : List ℕ) → IsUtf8Of bytes list → ⊥) → OnErr r (points ≡ [])
    → points ≡ points_in (Some bytes)
points_read bytes points (Ok done) is none emptied =
    sym (points_from_utf8 bytes points is)
    ∙ sym (ap (λ (b : Bool). let r : List ℕ = if b then chars bytes else [] in r) (is_utf8-from_IsUtf8 bytes (IsUtf8-from_points bytes points is)))
points_read bytes points (Err fault) is none emptied =
    emptied ∙ sym (ap (λ (b : Bool). let r : List ℕ = if b then chars bytes else [] in r) (is_not_utf8 bytes none (is_utf8 bytes) refl))

-- a text that was appended part by part
pub appended : (a b c d e f g h n : List ℕ) → (((((((a ++ b) ++ c) ++ d) ++ e) ++ f) ++ g) ++ h) ++ n ≡ a ++ (b ++ (c ++ (d ++ (e ++ (f ++ ((g ++ h) ++ n))))))
appended a b c d e f g h n =
    let two = a ++ b in
    let three = two ++ c in
    let four = three ++ d in
    let five = four ++ e in
    let six = five ++ f in
    let r = (g ++ h) ++ n in
    ap (λ (l : List ℕ). l ++ n) (append_assoc six g h) ∙ append_assoc six (g ++ h) n ∙ append_assoc five f r ∙ append_assoc four e (f ++ r)
    ∙ append_assoc three d (e ++ (f ++ r)) ∙ append_assoc two c (d ++ (e ++ (f ++ r))) ∙ append_assoc a b (c ++ (d ++ (e ++ (f ++ r))))

-- what two labels share is all that they do
pub shared_is : (a b : List ℕ) (n : ℕ) → take n a ≡ take n b → n ≤ length a → n ≤ length b → IsLongestShared a b n → n ≡ shared a b
shared_is [] b n same a_few b_few longest = omega (arith, a_few)
shared_is (c ∷ a) [] n same a_few b_few longest = omega (arith, b_few)
shared_is (c ∷ a) (d ∷ b) zero same a_few b_few longest = by_test (c == d) refl
  where
    by_test : (t : Bool) → (c == d) ≡ t → 0 ≡ (let r : ℕ = if t then suc (shared a b) else 0 in r)
    by_test false e = refl
    by_test true e =
        let first : c ≡ d = grind (arith, nat_tests) in
        absurd (omega (arith, longest 1 (omega arith) (omega arith) (ap (λ (x : ℕ). x ∷ []) first)))
shared_is (c ∷ a) (d ∷ b) (suc n) same a_few b_few longest =
    let first : c ≡ d = cc in
    let rest : take n a ≡ take n b = cc in
    let more : n ≡ shared a b = shared_is a b n rest (omega (arith, a_few)) (omega (arith, b_few))
    (λ m low few e. omega (arith, longest (suc m) (omega (arith, low)) (omega (arith, few)) (ap (λ (x : ℕ). x ∷ take m a) first ∙ ap (λ (xs : List ℕ). d ∷ xs) e))) in
    ap suc more ∙ sym (ap (λ (t : Bool). let r : ℕ = if t then suc (shared a b) else 0 in r) (eq-eqb c d first))

-- where a label differs from the one before it, read from rooms that hold them
pub order_told : (before label b l again : List ℕ) (place : ℕ) (found : Option ℕ) → b ≡ before → l ≡ label → again ≡ label → place ≡ shared l b → found ≡ slice_get again place
    → differs_at place found ≡ order_cause before label
order_told before label b l again place found is_before is_label is_again at got =
    let where_ : place ≡ shared label before = at ∙ ap (λ (x : List ℕ). shared x b) is_label ∙ ap (shared label) is_before in
    ap (differs_at place) (got ∙ ap (λ (x : List ℕ). slice_get x place) is_again) ∙ ap (λ (n : ℕ). differs_at n (slice_get label n)) where_
