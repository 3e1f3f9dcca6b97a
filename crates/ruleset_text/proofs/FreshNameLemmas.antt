-- A name that is none of those given.
use Rattle.std.proofs.Common.{◌≡◌, ℕ, suc, ◌+◌, ◌/◌, ◌%◌, ◌<◌, ◌≤◌, nat_lt, Bool, true, false, ◌||◌, if◌then◌else◌, List, [], ◌∷◌, length, refl, sym, ap, ◌∙◌, arith}
use Rattle.std.specs.Prelude.{bytes_eq}
use Rattle.std.proofs.lemmas.Bool.Decides.{nat_tests}
use Rattle.std.proofs.lemmas.Slice.Eq.{bytes_eq-Decides}
use Rattle.ruleset_text.specs.Names.{is_name, is_name_byte, is_one_of}

equal : (a b : List ℕ) → bytes_eq a b ≡ true → a ≡ b
equal a b e = (bytes_eq-Decides a b).0 e

differ : (a b : List ℕ) → (a ≡ b → ⊥) → bytes_eq a b ≡ false
differ a b other = by (bytes_eq a b) refl
  where
    by : (t : Bool) → bytes_eq a b ≡ t → t ≡ false
    by true e = absurd (other ((bytes_eq-Decides a b).0 e))
    by false e = refl

-- 't' and a number of four digits
abbrev pub numbered : ℕ → List ℕ
numbered i = 116 ∷ (48 + i / 10 / 10 / 10) ∷ (48 + i / 10 / 10 % 10) ∷ (48 + i / 10 % 10) ∷ (48 + i % 10) ∷ []

pub numbered-once : (i j : ℕ) → numbered i ≡ numbered j → i ≡ j
numbered-once i j e =
    let a : 48 + i / 10 / 10 / 10 ≡ 48 + j / 10 / 10 / 10 = cc in
    let b : 48 + i / 10 / 10 % 10 ≡ 48 + j / 10 / 10 % 10 = cc in
    let c : 48 + i / 10 % 10 ≡ 48 + j / 10 % 10 = cc in
    let d : 48 + i % 10 ≡ 48 + j % 10 = cc in
    omega arith

digit : (d : ℕ) → d < 10 → is_name_byte (48 + d) ≡ true
digit d few = grind (arith, nat_tests)

pub numbered-name : (i : ℕ) → i < 10000 → is_name (numbered i) ≡ true
numbered-name i few =
    let a : is_name_byte (48 + i / 10 / 10 / 10) ≡ true = digit (i / 10 / 10 / 10) (omega arith) in
    let b : is_name_byte (48 + i / 10 / 10 % 10) ≡ true = digit (i / 10 / 10 % 10) (omega arith) in
    let c : is_name_byte (48 + i / 10 % 10) ≡ true = digit (i / 10 % 10) (omega arith) in
    let d : is_name_byte (48 + i % 10) ≡ true = digit (i % 10) (omega arith) in
    rw (a, b, c, d) refl

-- the numbers but for one
abbrev passing : ℕ → ℕ → ℕ
passing i j = if nat_lt j i then j else suc j

passing-once : (i a b : ℕ) → passing i a ≡ passing i b → a ≡ b
passing-once i a b e = grind (arith, nat_tests)

passing-other : (i a : ℕ) → passing i a ≡ i → ⊥
passing-other i a e = grind (arith, nat_tests)

passing-upto : (i a n : ℕ) → a ≤ n → passing i a ≤ suc n
passing-upto i a n upto = grind (arith, nat_tests)

-- of more names than a list has, one is none of the list
abbrev pub Fresh : (ℕ → List ℕ) → List (List ℕ) → Type 0
Fresh f names = (i : ℕ) × (i ≤ length names) × (is_one_of names (f i) ≡ false)

abbrev pub IsOnce : (ℕ → List ℕ) → Type 0
IsOnce f = (i j : ℕ) → f i ≡ f j → i ≡ j

fresh_other : (f : ℕ → List ℕ) (name : List ℕ) (names : List (List ℕ)) (i : ℕ) → IsOnce f → name ≡ f i → Fresh (λ j. f (passing i j)) names → Fresh f (name ∷ names)
fresh_other f name names i once same r =
    let none : bytes_eq name (f (passing i r.0)) ≡ false = differ name (f (passing i r.0)) (λ e. passing-other i r.0 (once (passing i r.0) i (sym e ∙ same))) in
    (passing i r.0, passing-upto i r.0 (length names) r.1, ap (λ b. b || is_one_of names (f (passing i r.0))) none ∙ r.2)

fresh_next : (f : ℕ → List ℕ) (name : List ℕ) (names : List (List ℕ)) → IsOnce f → ((g : ℕ → List ℕ) → IsOnce g → Fresh g names) → (r : Fresh f names) (b : Bool) → bytes_eq name (f r.0) ≡ b → Fresh f (name ∷ names)
fresh_next f name names once of_others r false e = (r.0, (let upto = r.1 in omega arith), ap (λ b. b || is_one_of names (f r.0)) e ∙ r.2)
fresh_next f name names once of_others r true e =
    fresh_other f name names r.0 once (equal name (f r.0) e)
    (of_others (λ j. f (passing r.0 j)) (λ a b h. passing-once r.0 a b (once (passing r.0 a) (passing r.0 b) h)))

pub fresh : (names : List (List ℕ)) (f : ℕ → List ℕ) → IsOnce f → Fresh f names
fresh [] f once = (0, omega arith, refl)
fresh (name ∷ names) f once =
    let r = fresh names f once in fresh_next f name names once (λ g one. fresh names g one) r (bytes_eq name (f r.0)) refl
