-- How many digits the code points of a label take at most, and that a label of few octets in UTF-8 fits.
use Rattle.std.proofs.Common.{◌≡◌, ℕ, zero, suc, ◌+◌, ◌-◌, ◌*◌, ◌/◌, ◌<◌, ◌≤◌, min, max, Bool, true, false, nat_lt, ◌==◌, ◌⊎◌, List, [], ◌∷◌, ◌++◌, length, encode_utf8, encode_utf8_all, if◌then◌else◌, refl, sym, ap, ◌∙◌, inl, inr, arith, lt-ltb, le-ltb, eq-eqb, ne_eqb, length-append}
use Rattle.std.proofs.lemmas.Bool.{cases_lt, cases_order, cond-true, cond-false}
use Rattle.std.proofs.lemmas.Nat.{div_below}
use Rattle.std.proofs.lemmas.Str.{length-encode}
use Rattle.std.proofs.Math.Nat.{mul_comm, add-mul, mul-le-mul, le-mul_of_pos_right}
use Rattle.std.specs.Char.{len_utf8}
use Rattle.idna.specs.Punycode.{delimiter, threshold, adapt, write_integer, write_deltas, least_from, deltas_of, delta_after, below, deltas_from, delimited, encode}
use Rattle.idn_punycode.proofs.EncodingSteps.{least_from-end, least_from-below, least_from-above, below-smaller, below-other, length-below, below-least, Turn-below, Turn-here, Turn-above, deltas_of-end, delta_after-end, length-deltas_of, deltas_from-more, deltas_from-end, write_deltas-end, write_deltas-more}
use Rattle.idn_punycode.proofs.IntegerSteps.{write_integer-last, write_integer-more}

-- ---- the digits of an integer

no_turn : (bias k q : ℕ) → length (write_integer zero bias k q) ≡ 1
unfolding write_integer
no_turn bias k q = refl

last_digit : (turns bias k q : ℕ) → q < threshold bias k → length (write_integer turns bias k q) ≡ 1
last_digit turns bias k q lt = ap length (write_integer-last turns bias k q lt)

more_digits : (turns bias k q : ℕ) → threshold bias k ≤ q → length (write_integer (suc turns) bias k q) ≡ 1 + length (write_integer turns bias (k + 36) ((q - threshold bias k) / (36 - threshold bias k)))
more_digits turns bias k q le = omega (arith, ap length (write_integer-more turns bias k q le))

quotient_small : (q t m : ℕ) → t ≤ 26 → t ≤ q → q < t + (36 - t) * m → (q - t) / (36 - t) < m
quotient_small q t m few le small = div_below (q - t) (36 - t) m (omega arith) (omega (arith, mul_comm m (36 - t)))

-- an integer below this has at most d digits where each threshold is 26
abbrev pub top_limit : ℕ → ℕ
top_limit zero = 0
top_limit (suc d) = 26 + 10 * top_limit d

-- and below this whatever the thresholds are
abbrev pub limit : ℕ → ℕ
limit zero = 0
limit (suc d) = min (35 * limit d + 1) (top_limit (suc d))

digits_top : (d turns bias k q : ℕ) → bias + 26 ≤ k → q < top_limit d → length (write_integer turns bias k q) ≤ d
digits_top zero turns bias k q top small = absurd (omega (arith, small))
digits_top (suc d) zero bias k q top small = omega (arith, no_turn bias k q)
digits_top (suc d) (suc turns) bias k q top small =
    let t = threshold bias k in
    let full : t ≡ 26 = omega arith in
    elim (cases_lt q t) [
      | inl lt ↦ omega (arith, last_digit (suc turns) bias k q lt)
      | inr le ↦
          let rest : (q - t) / (36 - t) < top_limit d = quotient_small q t (top_limit d) (omega arith) le (rw full small) in
          omega (arith, more_digits turns bias k q le, digits_top d turns bias (k + 36) ((q - t) / (36 - t)) (omega arith) rest)
    ]

-- a threshold below 26 leaves less to the digits after it
top_rest : (q t e : ℕ) → t ≤ 26 → q < 26 + 10 * top_limit (suc e) → q < t + (36 - t) * top_limit (suc e)
top_rest q t e few small =
    let m = top_limit (suc e) in
    let split : (10 + (26 - t)) * m ≡ 10 * m + (26 - t) * m = add-mul 10 (26 - t) m in
    let same : 10 + (26 - t) ≡ 36 - t = omega arith in
    let some : 26 - t ≤ (26 - t) * m = le-mul_of_pos_right (26 - t) (omega arith) in
    omega (arith, small, some, sym (ap (λ s. s * m) same) ∙ split)

digits_few : (d turns bias k q : ℕ) → q < limit d → length (write_integer turns bias k q) ≤ d
digits_few zero turns bias k q small = absurd (omega (arith, small))
digits_few (suc d) zero bias k q small = omega (arith, no_turn bias k q)
digits_few (suc d) (suc turns) bias k q small =
    let t = threshold bias k in
    elim (cases_lt q t) [
      | inl lt ↦ omega (arith, last_digit (suc turns) bias k q lt)
      | inr le ↦
          elim (cases_lt 1 t) [
            | inr least ↦
                let one : t ≡ 1 = omega arith in
                let rest : (q - t) / (36 - t) < limit d = quotient_small q t (limit d) (omega arith) le (rw one (omega (arith, small))) in
                omega (arith, more_digits turns bias k q le, digits_few d turns bias (k + 36) ((q - t) / (36 - t)) rest)
            | inl some ↦ digits_after d turns bias k q some le small
          ]
    ]
  where
    digits_after : (d turns bias k q : ℕ) → 1 < threshold bias k → threshold bias k ≤ q → q < limit (suc d) → length (write_integer (suc turns) bias k q) ≤ suc d
    digits_after zero turns bias k q some le small = absurd (omega (arith, small))
    digits_after (suc e) turns bias k q some le small =
        let t = threshold bias k in
        let rest : (q - t) / (36 - t) < top_limit (suc e) = quotient_small q t (top_limit (suc e)) (omega arith) le (top_rest q t e (omega arith) (omega (arith, small))) in
        omega (arith, more_digits turns bias k q le, digits_top (suc e) turns bias (k + 36) ((q - t) / (36 - t)) (omega arith) rest)

-- the first bias makes the first two thresholds 1
digits_first : (d turns q : ℕ) → q < 36 + 1225 * top_limit d → length (write_integer turns 72 36 q) ≤ 2 + d
digits_first d zero q small = omega (arith, no_turn 72 36 q)
digits_first d (suc turns) q small =
    elim (cases_lt q 1) [
      | inl lt ↦ omega (arith, last_digit (suc turns) 72 36 q lt)
      | inr le ↦
          let rest : (q - 1) / 35 < 1 + 35 * top_limit d = quotient_small q 1 (1 + 35 * top_limit d) (omega arith) le (omega (arith, small)) in
          omega (arith, more_digits turns 72 36 q le, second turns ((q - 1) / 35) rest)
    ]
  where
    second : (turns q : ℕ) → q < 1 + 35 * top_limit d → length (write_integer turns 72 72 q) ≤ 1 + d
    second zero q small = omega (arith, no_turn 72 72 q)
    second (suc turns) q small =
        elim (cases_lt q 1) [
          | inl lt ↦ omega (arith, last_digit (suc turns) 72 72 q lt)
          | inr le ↦
              let rest : (q - 1) / 35 < top_limit d = quotient_small q 1 (top_limit d) (omega arith) le (omega (arith, small)) in
              omega (arith, more_digits turns 72 72 q le, digits_top d turns 72 108 ((q - 1) / 35) (omega arith) rest)
        ]

-- ---- the digits of a code point

len_two : (c : ℕ) → 128 ≤ c → c < 0x800 → len_utf8 c ≡ 2
len_two c low high = rw (le-ltb c 0x80 low, lt-ltb c 0x800 high) refl

len_three : (c : ℕ) → 0x800 ≤ c → c < 0x1_0000 → len_utf8 c ≡ 3
len_three c low high = rw (le-ltb c 0x80 (omega arith), le-ltb c 0x800 low, lt-ltb c 0x1_0000 high) refl

len_four : (c : ℕ) → 0x1_0000 ≤ c → len_utf8 c ≡ 4
len_four c low = rw (le-ltb c 0x80 (omega arith), le-ltb c 0x800 (omega arith), le-ltb c 0x1_0000 low) refl

len_one : (c : ℕ) → c < 128 → len_utf8 c ≡ 1
len_one c low = rw (lt-ltb c 0x80 low) refl

-- what leads to a code point, of which h come before it
abbrev pub LeadsTo : ℕ → ℕ → ℕ → Type 0
LeadsTo c h delta = delta < (c - 127) * (h + 1)

most_steps : (c h delta a b : ℕ) → LeadsTo c h delta → c - 127 ≤ a → h + 1 ≤ b → delta < a * b
most_steps c h delta a b leads few early =
    let le : (c - 127) * (h + 1) ≤ a * b = mul-le-mul few early in omega (arith, le, leads)

-- two digits for each octet of its UTF-8, and after 15 others one more
digits_of_point : (c h delta turns bias : ℕ) → 128 ≤ c → c < 0x11_0000 → h < 30 → LeadsTo c h delta → length (write_integer turns bias 36 delta) + max 15 h ≤ 2 * len_utf8 c + max 15 (h + 1)
digits_of_point c h delta turns bias low high early leads =
    elim (cases_lt c 0x800) [
      | inl two ↦
          elim (cases_lt h 15) [
            | inl before ↦
                let small : delta < 1920 * 15 = most_steps c h delta 1920 15 leads (omega arith) (omega arith) in
                omega (arith, digits_few 4 turns bias 36 delta (omega (arith, small)), len_two c low two)
            | inr after ↦
                let small : delta < 1920 * 30 = most_steps c h delta 1920 30 leads (omega arith) (omega arith) in
                omega (arith, digits_few 5 turns bias 36 delta (omega (arith, small)), len_two c low two)
          ]
      | inr more ↦
          elim (cases_lt c 0x1_0000) [
            | inl three ↦
                let small : delta < 65408 * 30 = most_steps c h delta 65408 30 leads (omega arith) (omega arith) in
                omega (arith, digits_few 6 turns bias 36 delta (omega (arith, small)), len_three c more three)
            | inr four ↦
                let small : delta < 1113984 * 30 = most_steps c h delta 1113984 30 leads (omega arith) (omega arith) in
                omega (arith, digits_few 8 turns bias 36 delta (omega (arith, small)), len_four c four)
          ]
    ]

-- the first one takes one digit less, unless it is after 15 others
digits_of_first : (c h delta turns : ℕ) → 128 ≤ c → c < 0x11_0000 → h < 15 → LeadsTo c h delta → length (write_integer turns 72 36 delta) + 1 ≤ 2 * len_utf8 c
digits_of_first c h delta turns low high early leads =
    elim (cases_lt c 0x800) [
      | inl two ↦
          let small : delta < 1920 * 15 = most_steps c h delta 1920 15 leads (omega arith) (omega arith) in
          omega (arith, digits_first 1 turns delta (omega (arith, small)), len_two c low two)
      | inr more ↦
          elim (cases_lt c 0x1_0000) [
            | inl three ↦
                let small : delta < 65408 * 15 = most_steps c h delta 65408 15 leads (omega arith) (omega arith) in
                omega (arith, digits_first 3 turns delta (omega (arith, small)), len_three c more three)
            | inr four ↦
                let small : delta < 1113984 * 15 = most_steps c h delta 1113984 15 leads (omega arith) (omega arith) in
                omega (arith, digits_few 7 turns 72 36 delta (omega (arith, small)), len_four c four)
          ]
    ]

-- so many digits less, where the next code point is the first
abbrev pub Saves : ℕ → ℕ → ℕ → Type 0
Saves saved bias h = (saved ≡ 0) ⊎ ((saved ≡ 1) × (bias ≡ 72) × (h < 15))

digits_next : (c h delta turns bias saved : ℕ) → 128 ≤ c → c < 0x11_0000 → h < 30 → LeadsTo c h delta → Saves saved bias h → length (write_integer turns bias 36 delta) + max 15 h + saved ≤ 2 * len_utf8 c + max 15 (h + 1)
digits_next c h delta turns bias saved low high early leads saves =
    elim saves [
      | inl none ↦ omega (arith, none, digits_of_point c h delta turns bias low high early leads)
      | inr one ↦ rw one.1 (omega (arith, one.0, one.2, digits_of_first c h delta turns low high one.2 leads))
    ]

-- ---- the octets of a label's UTF-8

-- twice the octets of the code points from n on
abbrev pub octets_from : ℕ → List ℕ → ℕ
octets_from n [] = 0
octets_from n (c ∷ cs) = (if nat_lt c n then 0 else 2 * len_utf8 c) + octets_from n cs

-- and of n itself
abbrev pub octets_of : ℕ → List ℕ → ℕ
octets_of n [] = 0
octets_of n (c ∷ cs) = (if c == n then 2 * len_utf8 n else 0) + octets_of n cs

octets_from-below : (n c : ℕ) (cs : List ℕ) → c < n → octets_from n (c ∷ cs) ≡ octets_from n cs
octets_from-below n c cs lt = omega (arith, cond-true (nat_lt c n) 0 (2 * len_utf8 c) (lt-ltb c n lt))

octets_from-other : (n c : ℕ) (cs : List ℕ) → n ≤ c → octets_from n (c ∷ cs) ≡ 2 * len_utf8 c + octets_from n cs
octets_from-other n c cs le = omega (arith, cond-false (nat_lt c n) 0 (2 * len_utf8 c) (le-ltb c n le))

octets_of-same : (n c : ℕ) (cs : List ℕ) → c ≡ n → octets_of n (c ∷ cs) ≡ 2 * len_utf8 n + octets_of n cs
octets_of-same n c cs same = omega (arith, cond-true (c == n) (2 * len_utf8 n) 0 (eq-eqb c n same))

octets_of-other : (n c : ℕ) (cs : List ℕ) → ¬ (c ≡ n) → octets_of n (c ∷ cs) ≡ octets_of n cs
octets_of-other n c cs other = omega (arith, cond-false (c == n) (2 * len_utf8 n) 0 (ne_eqb c n other))

octets-split : (n : ℕ) (cs : List ℕ) → octets_from n cs ≡ octets_of n cs + octets_from (n + 1) cs
octets-split n [] = refl
octets-split n (c ∷ cs) =
    let more = octets-split n cs in
    elim (cases_order c n) [
      | inl same ↦
          omega (arith, more, octets_from-other n c cs (omega arith), octets_of-same n c cs same, octets_from-below (n + 1) c cs (omega arith), ap len_utf8 same)
      | inr (inl lt) ↦
          omega (arith, more, octets_from-below n c cs lt, octets_of-other n c cs (λ same. omega (arith, same, lt)), octets_from-below (n + 1) c cs (omega arith))
      | inr (inr gt) ↦
          omega (arith, more, octets_from-other n c cs (omega arith), octets_of-other n c cs (λ same. omega (arith, same, gt)), octets_from-other (n + 1) c cs (omega arith))
    ]

octets-least : (n m : ℕ) (cs : List ℕ) → n ≤ m → m ≤ least_from n cs → octets_from n cs ≡ octets_from m cs
octets-least n m [] le least = refl
octets-least n m (c ∷ cs) le least =
    elim (cases_lt c n) [
      | inl lt ↦
          let more : m ≤ least_from n cs = rw (least_from-below n c cs lt) at least in
          omega (arith, octets-least n m cs le more, octets_from-below n c cs lt, octets_from-below m c cs (omega arith))
      | inr from ↦
          let both : m ≤ min c (least_from n cs) = rw (least_from-above n c cs from) at least in
          omega (arith, octets-least n m cs le (omega arith), octets_from-other n c cs from, octets_from-other m c cs (omega arith))
    ]

least_from-le : (n : ℕ) (cs : List ℕ) → least_from n cs < 0x11_0000 → n ≤ least_from n cs
least_from-le n [] lt = absurd (omega (arith, lt, least_from-end n))
least_from-le n (c ∷ cs) lt =
    elim (cases_lt c n) [
      | inl less ↦
          let e = least_from-below n c cs less in rw e (least_from-le n cs (omega (arith, lt, e)))
      | inr from ↦
          let e = least_from-above n c cs from in
          elim (cases_lt (least_from n cs) 0x11_0000) [
            | inl rest ↦ omega (arith, e, from, least_from-le n cs rest)
            | inr none ↦ omega (arith, e, lt, from, none)
          ]
    ]

-- ---- the passes

delta_after-le : (n delta : ℕ) (rest : List ℕ) → delta_after n delta rest ≤ delta + length (below n rest)
delta_after-le n delta [] = omega (arith, delta_after-end n delta)
delta_after-le n delta (c ∷ rest) =
    elim (cases_order c n) [
      | inl same ↦ omega (arith, (Turn-here n delta c rest same).after, delta_after-le n 0 rest, ap length (below-other n c rest (omega arith)))
      | inr (inl lt) ↦ omega (arith, (Turn-below n delta c rest lt).after, delta_after-le n (delta + 1) rest, ap length (below-smaller n c rest lt))
      | inr (inr gt) ↦ omega (arith, (Turn-above n delta c rest gt).after, delta_after-le n delta rest, ap length (below-other n c rest (omega arith)))
    ]

-- after h code points the deltas take no more digits than so many octets, less one where the first one is among them
abbrev pub TakesFew : List ℕ → ℕ → ℕ → ℕ → ℕ → Type 0
TakesFew deltas h octets saved most =
    (bias : ℕ) (first : Bool) → Saves saved bias h → length (write_deltas bias (h + 1) first deltas) + max 15 h ≤ (octets - saved) + max 15 most

TakesFew-pass : (n before after octets most : ℕ) (tail : List ℕ) → 128 ≤ n → n < 0x11_0000 → after ≤ 30 → ((saved : ℕ) → TakesFew tail after octets saved most)
    → (rest : List ℕ) (delta h saved : ℕ) → before ≤ h → h + length (deltas_of n delta rest) ≡ after → LeadsTo n before (delta + length (below n rest))
    → TakesFew (deltas_of n delta rest ++ tail) h (octets_of n rest + octets) saved most
TakesFew-pass n before after octets most tail low high few ends [] delta h saved le counted leads bias first saves =
    let none = deltas_of-end n delta in
    let here : h ≡ after = omega (arith, counted, ap length none) in
    rw (none, here) (omega (arith, ends saved bias first (rw here at saves)))
TakesFew-pass n before after octets most tail low high few ends (c ∷ rest) delta h saved le counted leads bias first saves =
    elim (cases_order c n) [
      | inl same ↦
          let turn = Turn-here n delta c rest same in
          let smaller = ap length (below-other n c rest (omega arith)) in
          let count = ap length turn.deltas in
          let grows : (n - 127) * (before + 1) ≤ (n - 127) * (h + 1) = mul-le-mul {n₁ = n - 127} (omega arith) (omega arith) in
          let from : 1 * (before + 1) ≤ (n - 127) * (before + 1) = mul-le-mul {m₁ = before + 1} (omega arith) (omega arith) in
          let next = digits_next n h delta delta bias saved low high (omega (arith, counted, count)) (omega (arith, leads, grows)) saves in
          let more = TakesFew-pass n before after octets most tail low high few ends rest 0 (h + 1) 0 (omega arith) (omega (arith, counted, count)) (omega (arith, leads, smaller)) (adapt delta (h + 1) first) false (inl refl) in
          rw (turn.deltas, write_deltas-more)
          (omega (arith, next, more, octets_of-same n c rest same, length-append (write_integer delta bias 36 delta) (write_deltas (adapt delta (h + 1) first) (h + 1 + 1) false (deltas_of n 0 rest ++ tail))))
      | inr (inl lt) ↦
          let turn = Turn-below n delta c rest lt in
          rw (turn.deltas, octets_of-other n c rest (λ same. omega (arith, same, lt)))
          (TakesFew-pass n before after octets most tail low high few ends rest (delta + 1) h saved le (omega (arith, counted, ap length turn.deltas)) (omega (arith, leads, ap length (below-smaller n c rest lt))) bias first saves)
      | inr (inr gt) ↦
          let turn = Turn-above n delta c rest gt in
          rw (turn.deltas, octets_of-other n c rest (λ same. omega (arith, same, gt)))
          (TakesFew-pass n before after octets most tail low high few ends rest delta h saved le (omega (arith, counted, ap length turn.deltas)) (omega (arith, leads, ap length (below-other n c rest (omega arith)))) bias first saves)
    ]

TakesFew-none : (h octets saved most : ℕ) → h ≤ most → TakesFew [] h octets saved most
TakesFew-none h octets saved most le bias first saves = omega (arith, ap length (write_deltas-end bias (h + 1) first), le)

deltas_from-none : (n delta : ℕ) (label : List ℕ) → deltas_from zero n delta label ≡ []
unfolding deltas_from
deltas_from-none n delta label = refl

TakesFew-passes : (label : List ℕ) → length label ≤ 30 → (turns n delta saved : ℕ) → 128 ≤ n → delta ≤ (n - 128) * (length (below n label) + 1)
    → TakesFew (deltas_from turns n delta label) (length (below n label)) (octets_from n label) saved (length label)
TakesFew-passes label few zero n delta saved low early =
    rw (deltas_from-none n delta label) (TakesFew-none (length (below n label)) (octets_from n label) saved (length label) (length-below n label))
TakesFew-passes label few (suc turns) n delta saved low early =
    let m = least_from n label in
    let h = length (below n label) in
    elim (cases_lt m 0x11_0000) [
      | inr none ↦
          rw (deltas_from-end (suc turns) n delta label none)
          (TakesFew-none h (octets_from n label) saved (length label) (length-below n label))
      | inl some ↦
          let le : n ≤ m = least_from-le n label some in
          let start = delta + (m - n) * (h + 1) in
          let after = length (below (m + 1) label) in
          let tail = deltas_from turns (m + 1) (delta_after m start label + 1) label in
          let same : length (below m label) ≡ h = ap length (below-least n m label le (omega arith)) in
          let counted : h + length (deltas_of m start label) ≡ after = omega (arith, same, length-deltas_of m start label) in
          let whole : m - 128 ≡ n - 128 + (m - n) = omega (arith, low, le) in
          let parts : (m - 128) * (h + 1) ≡ (n - 128) * (h + 1) + (m - n) * (h + 1) = ap (λ k. k * (h + 1)) whole ∙ add-mul (n - 128) (m - n) (h + 1) in
          let next : m - 127 ≡ m - 128 + 1 = omega (arith, low, le) in
          let further : (m - 127) * (h + 1) ≡ (m - 128) * (h + 1) + 1 * (h + 1) = ap (λ k. k * (h + 1)) next ∙ add-mul (m - 128) 1 (h + 1) in
          let leads : LeadsTo m h (start + length (below m label)) = omega (arith, same, parts, further, early) in
          let grows : (m - 127) * (h + 1) ≤ (m - 127) * (after + 1) = mul-le-mul {n₁ = m - 127} (omega arith) (omega (arith, counted)) in
          let next_high : m + 1 - 128 ≡ m - 127 = omega (arith, low, le) in
          let early_next : delta_after m start label + 1 ≤ (m + 1 - 128) * (after + 1) = rw next_high (omega (arith, leads, grows, delta_after-le m start label)) in
          let octets : octets_from n label ≡ octets_of m label + octets_from (m + 1) label = octets-least n m label le (omega arith) ∙ octets-split m label in
          rw (deltas_from-more turns n delta label some, octets)
          (TakesFew-pass m h after (octets_from (m + 1) label) (length label) tail (omega (arith, low, le)) some (omega (arith, few, length-below (m + 1) label))
          (λ s. TakesFew-passes label few turns (m + 1) (delta_after m start label + 1) s (omega (arith, low, le)) early_next)
          label start h saved (omega arith) counted leads)
    ]

-- ---- a label

length-delimited : (basic : List ℕ) → length (delimited basic) ≤ length basic + min 1 (length basic)
length-delimited [] = omega arith
length-delimited (c ∷ basic) = omega (arith, length-append (c ∷ basic) (delimiter ∷ []))

octets-whole : (label : List ℕ) → 2 * length (encode_utf8_all label) ≡ 2 * length (below 128 label) + octets_from 128 label
octets-whole [] = refl
octets-whole (c ∷ cs) =
    let more = octets-whole cs in
    let first = length-encode c in
    let both = length-append (encode_utf8 c) (encode_utf8_all cs) in
    elim (cases_lt c 128) [
      | inl lt ↦ omega (arith, more, first, both, len_one c lt, octets_from-below 128 c cs lt, ap length (below-smaller 128 c cs lt))
      | inr le ↦ omega (arith, more, first, both, octets_from-other 128 c cs le, ap length (below-other 128 c cs le))
    ]

len_some : (c : ℕ) → 128 ≤ c → 2 ≤ len_utf8 c
len_some c low =
    elim (cases_lt c 0x800) [
      | inl two ↦ omega (arith, len_two c low two)
      | inr more ↦ elim (cases_lt c 0x1_0000) [ inl three ↦ omega (arith, len_three c more three) | inr four ↦ omega (arith, len_four c four) ]
    ]

-- a code point past ASCII has two octets or more
points-few : (label : List ℕ) → 2 * length label ≤ length (encode_utf8_all label) + length (below 128 label)
points-few [] = omega arith
points-few (c ∷ cs) =
    let more = points-few cs in
    let first = length-encode c in
    let both = length-append (encode_utf8 c) (encode_utf8_all cs) in
    elim (cases_lt c 128) [
      | inl lt ↦ omega (arith, more, first, both, len_one c lt, ap length (below-smaller 128 c cs lt))
      | inr le ↦ omega (arith, more, first, both, len_some c le, ap length (below-other 128 c cs le))
    ]

-- a code point has an octet at least
pub points-le : (label : List ℕ) → length label ≤ length (encode_utf8_all label)
points-le label = omega (arith, points-few label, length-below 128 label)

-- the Punycode of a label of at most 30 octets in UTF-8
pub encode-short : (label : List ℕ) → length (encode_utf8_all label) ≤ 30 → length (encode label) ≤ 59
unfolding encode
encode-short label few =
    let basic = below 128 label in
    let b = length basic in
    let deltas = deltas_from 0x11_0000 128 0 label in
    let points = points-few label in
    let short : length label ≤ 30 = omega (arith, points, few, length-below 128 label) in
    let rest = λ (saved : ℕ). TakesFew-passes label short 0x11_0000 128 0 saved (omega arith) (omega arith) in
    let all = length-append (delimited basic) (write_deltas 72 (b + 1) true deltas) in
    elim (cases_lt b 15) [
      | inl lt ↦ omega (arith, few, points, all, length-delimited basic, octets-whole label, rest 1 72 true (inr (refl, refl, lt)))
      | inr le ↦ omega (arith, few, points, all, length-delimited basic, octets-whole label, rest 0 72 true (inl refl))
    ]
