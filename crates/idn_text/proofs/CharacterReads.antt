-- Characters read from octets of UTF-8, one more after those before a place.
use Rattle.std.proofs.Common.{◌≡◌, ◌⊎◌, inl, inr, ℕ, ◌+◌, ◌/◌, ◌%◌, ◌<◌, ◌≤◌, List, [], ◌∷◌, ◌++◌, take, drop, get_or, length, sym, ap, subst, ◌∙◌, append_assoc, arith}
use Rattle.std.specs.Str.{StartsWithNoChar}
use Rattle.std.proofs.lemmas.Bool.{cases_lt}
use Rattle.std.proofs.lemmas.Str.{encode_ascii}
use Rattle.std.proofs.lemmas.Bool.Decides.{nat_tests}
use Rattle.std.specs.Prelude.{encode_utf8}
use Rattle.std.proofs.lemmas.List.{take_more, get_or-drop}
use Rattle.idn_text.specs.Points.{IsScalarValue}
use Rattle.idn_text.proofs.Utf8Lemmas.{encode_utf8-two, encode_utf8-three, encode_utf8-four}

take_one : (text : List ℕ) (at b : ℕ) → at < length text → get_or text at 0 ≡ b → take (at + 1) text ≡ take at text ++ b ∷ []
take_one text at b within is = take_more text at 0 within ∙ ap (λ x. take at text ++ x ∷ []) is

-- the octet at a place after what is read
take_next : (text : List ℕ) (at n b : ℕ) (read : List ℕ) → take (at + n) text ≡ take at text ++ read → at + n < length text → get_or text (at + n) 0 ≡ b → take (at + (n + 1)) text ≡ take at text ++ (read ++ b ∷ [])
take_next text at n b read before within is =
    let same : at + (n + 1) ≡ (at + n) + 1 = omega arith in
    ap (λ k. take k text) same ∙ take_one text (at + n) b within is ∙ ap (λ x. x ++ b ∷ []) before ∙ append_assoc (take at text) read (b ∷ [])

take_two : (text : List ℕ) (at b b_2 : ℕ) → at + 1 < length text → get_or text at 0 ≡ b → get_or text (at + 1) 0 ≡ b_2 → take (at + 2) text ≡ take at text ++ b ∷ b_2 ∷ []
take_two text at b b_2 within is is_2 = take_next text at 1 b_2 (b ∷ []) (take_one text at b (omega arith) is) within is_2

take_three : (text : List ℕ) (at b b_2 b_3 : ℕ) → at + 2 < length text → get_or text at 0 ≡ b → get_or text (at + 1) 0 ≡ b_2 → get_or text (at + 2) 0 ≡ b_3 → take (at + 3) text ≡ take at text ++ b ∷ b_2 ∷ b_3 ∷ []
take_three text at b b_2 b_3 within is is_2 is_3 = take_next text at 2 b_3 (b ∷ b_2 ∷ []) (take_two text at b b_2 (omega arith) is is_2) within is_3

pub read_two : (text : List ℕ) (at c : ℕ) → at + 1 < length text → 0x80 ≤ c → c < 0x800 → get_or text at 0 ≡ 0xC0 + c / 0x40 → get_or text (at + 1) 0 ≡ 0x80 + c % 0x40 → take (at + 2) text ≡ take at text ++ encode_utf8 c
read_two text at c within low high is is_2 = take_two text at _ _ within is is_2 ∙ ap (λ x. take at text ++ x) (sym (encode_utf8-two c low high))

pub read_three : (text : List ℕ) (at c : ℕ) → at + 2 < length text → 0x800 ≤ c → c < 0x1_0000 → get_or text at 0 ≡ 0xE0 + c / 0x1000 → get_or text (at + 1) 0 ≡ 0x80 + c / 0x40 % 0x40 → get_or text (at + 2) 0 ≡ 0x80 + c % 0x40 → take (at + 3) text ≡ take at text ++ encode_utf8 c
read_three text at c within low high is is_2 is_3 = take_three text at _ _ _ within is is_2 is_3 ∙ ap (λ x. take at text ++ x) (sym (encode_utf8-three c low high))

pub read_four : (text : List ℕ) (at c : ℕ) → at + 3 < length text → 0x1_0000 ≤ c → get_or text at 0 ≡ 0xF0 + c / 0x4_0000 → get_or text (at + 1) 0 ≡ 0x80 + c / 0x1000 % 0x40 → get_or text (at + 2) 0 ≡ 0x80 + c / 0x40 % 0x40 → get_or text (at + 3) 0 ≡ 0x80 + c % 0x40 → take (at + 4) text ≡ take at text ++ encode_utf8 c
read_four text at c within low is is_2 is_3 is_4 =
    take_next text at 3 _ _ (take_three text at _ _ _ (omega arith) is is_2 is_3) within is_4
    ∙ ap (λ x. take at text ++ x) (sym (encode_utf8-four c low))

-- ---- where no character stands

-- these octets begin with this character
abbrev Begin : (x y z w c : ℕ) → Type 0
Begin x y z w c =
    ((c < 0x80) × (x ≡ c))
    ⊎ (((0x80 ≤ c) × (c < 0x800) × (x ≡ 0xC0 + c / 0x40) × (y ≡ 0x80 + c % 0x40))
    ⊎ (((0x800 ≤ c) × (c < 0x1_0000) × ((c < 0xD800) ⊎ (0xE000 ≤ c)) × (x ≡ 0xE0 + c / 0x1000) × (y ≡ 0x80 + c / 0x40 % 0x40) × (z ≡ 0x80 + c % 0x40))
    ⊎ ((0x1_0000 ≤ c) × (c < 0x11_0000) × (x ≡ 0xF0 + c / 0x4_0000) × (y ≡ 0x80 + c / 0x1000 % 0x40) × (z ≡ 0x80 + c / 0x40 % 0x40) × (w ≡ 0x80 + c % 0x40))))

abbrev BeginIn : List ℕ → ℕ → Type 0
BeginIn octets c = Begin (get_or octets 0 0) (get_or octets 1 0) (get_or octets 2 0) (get_or octets 3 0) c

begins : (c : ℕ) (rest : List ℕ) → IsScalarValue c → BeginIn (encode_utf8 c ++ rest) c
begins c rest scalar = by (cases_lt c 0x80) (cases_lt c 0x800) (cases_lt c 0x1_0000) (cases_lt c 0xD800)
  where
    octet : (k : ℕ) {octets : List ℕ} → encode_utf8 c ≡ octets → get_or (encode_utf8 c ++ rest) k 0 ≡ get_or (octets ++ rest) k 0
    octet k e = ap (λ octets. get_or (octets ++ rest) k 0) e

    top : c < 0x11_0000
    top = grind (arith, nat_tests)

    past_gap : 0xD800 ≤ c → 0xE000 ≤ c
    past_gap high = grind (arith, nat_tests)

    by : (c < 0x80) ⊎ (0x80 ≤ c) → (c < 0x800) ⊎ (0x800 ≤ c) → (c < 0x1_0000) ⊎ (0x1_0000 ≤ c) → (c < 0xD800) ⊎ (0xD800 ≤ c) → BeginIn (encode_utf8 c ++ rest) c
    by (inl low) _ _ _ = inl (low, octet 0 (encode_ascii c low))
    by (inr past) (inl low) _ _ = let e = encode_utf8-two c past low in inr (inl (past, low, octet 0 e, octet 1 e))
    by (inr _) (inr past) (inl low) (inl below) = let e = encode_utf8-three c past low in inr (inr (inl (past, low, inl below, octet 0 e, octet 1 e, octet 2 e)))
    by (inr _) (inr past) (inl low) (inr above) = let e = encode_utf8-three c past low in inr (inr (inl (past, low, inr (past_gap above), octet 0 e, octet 1 e, octet 2 e)))
    by (inr _) (inr _) (inr past) _ = let e = encode_utf8-four c past in inr (inr (inr (past, top, octet 0 e, octet 1 e, octet 2 e, octet 3 e)))

pub no_character : (text : List ℕ) (at : ℕ) → ((c : ℕ) → Begin (get_or text at 0) (get_or text (at + 1) 0) (get_or text (at + 2) 0) (get_or text (at + 3) 0) c → ⊥) → StartsWithNoChar (drop at text)
no_character text at none c rest scalar is =
    let here : at + 0 ≡ at = omega arith in
    let first = get_or-drop at text 0 0 ∙ ap (λ k. get_or text k 0) here in
    none c (rw (first, get_or-drop at text 1 0, get_or-drop at text 2 0, get_or-drop at text 3 0) at (subst (λ octets. BeginIn octets c) (sym is) (begins c rest scalar)))
