-- The last delimiter of a code, and the two parts that it divides the code into.
use Rattle.std.proofs.Common.{◌≡◌, ◌≢◌, ℕ, ◌-◌, ◌<◌, ◌≤◌, true, false, not, ◌==◌, List, length, drop, get_or, length-take, arith}
use Rattle.std.specs.List.{suffix_len}
use Rattle.std.proofs.lemmas.Bool.{cond-false}
use Rattle.std.proofs.lemmas.Bool.Decides.{nat_tests}
use Rattle.std.proofs.lemmas.List.Sums.{suffix_len_is}
use Rattle.idna.specs.Punycode.{delimiter, basic_part, extended_part}

-- nothing from a place on is a delimiter
abbrev pub Ends : List ℕ → ℕ → Type 0
Ends code after = (k : ℕ) → after ≤ k → k < length code → not (get_or code k 0 == delimiter) ≡ true

-- the place after the last delimiter, or 0
abbrev pub after_delimiter : List ℕ → ℕ
after_delimiter code = length code - suffix_len (λ c. not (c == delimiter)) code

pub no_delimiter : (x : ℕ) → x ≢ 0x2D → not (x == delimiter) ≡ true
no_delimiter x other = grind (arith, nat_tests)

-- nothing from `after` on is a delimiter, and what stands before it is one
pub is_end : (code : List ℕ) (after : ℕ) → after ≤ length code → Ends code after → (0 < after → not (get_or code (after - 1) 0 == delimiter) ≡ false) → after ≡ after_delimiter code
is_end code after le none before =
    let found = suffix_len_is (λ c. not (c == delimiter)) code after 0 le none before in
    omega (arith, le, found)

some_part : (n : ℕ) → 0 < n → (n == 0) ≡ false
some_part n some = grind (arith, nat_tests)

pub extended_part-after : (code : List ℕ) → 1 < after_delimiter code → extended_part code ≡ drop (after_delimiter code) code
extended_part-after code some =
    cond-false _ _ _ (some_part (length (basic_part code)) (omega (arith, some, length-take (after_delimiter code - 1) code)))
