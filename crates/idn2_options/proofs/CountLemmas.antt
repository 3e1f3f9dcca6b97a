-- A short numeral is read whole.
use Rattle.std.proofs.Common.{◌≡◌, ◌≤◌, ◌<◌, ◌&&◌, ◌^◌, ℕ, Bool, Option, Some, None, Result, Ok, true, length, ap, sym, ◌∙◌, arith, rules, nat_le}
use Rattle.std.specs.Char.{is_ascii_digit}
use Rattle.std.specs.List.{list_all}
use Rattle.std.specs.Result.{result_ok}
use Rattle.std.specs.Str.Parse.{ParsesUnsigned, digits_value}
use Rattle.std.proofs.lemmas.Bool.Decides.{nat_tests}
use Rattle.std.proofs.lemmas.Str.Parse.{IsDigitsTest, IsNumeralModel, digits_value_short, numerals_by_value, parse_gives}
use Rattle.clap.specs.Words.{Text}
use Rattle.idn2_options.specs.Words.{is_numeral}

tells_digits : IsDigitsTest (λ ds. list_all is_ascii_digit ds ≡ true)
tells_digits = search rules

numerals : IsNumeralModel (λ ds. list_all is_ascii_digit ds ≡ true) (digits_value 10)
numerals = numerals_by_value _ tells_digits

all_three : (n digits : ℕ) (b : Bool) → nat_le 1 n && nat_le n digits && b ≡ true → (0 < n) × (n ≤ digits) × (b ≡ true)
all_three n digits b h = grind (arith, nat_tests)

pub parsed-short : {E : Type 0} (text : Text) (r : Result ℕ E) (digits : ℕ) → digits ≤ 19 → is_numeral digits text ≡ true → ParsesUnsigned 64 10 text r
    → r ≡ Ok (digits_value 10 text)
parsed-short text r digits few short parses =
    let parts = all_three (length text) digits (list_all is_ascii_digit text) short in
    let small : digits_value 10 text < 10 ^ 19 = digits_value_short numerals text 19 parts.2 (omega (arith, parts.1, few)) in
    parse_gives numerals 64 text r parses parts.2 parts.0 (omega arith)

pub ok-short : {E : Type 0} (text : Text) (r : Result ℕ E) (o : Option ℕ) (digits : ℕ) → digits ≤ 19 → is_numeral digits text ≡ true → ParsesUnsigned 64 10 text r
    → o ≡ result_ok r → o ≡ Some (digits_value 10 text)
ok-short text r o digits few short parses is = is ∙ ap result_ok (parsed-short text r digits few short parses)

pub no-none : {X P : Type 0} {o : Option X} (x : X) → o ≡ Some x → o ≡ None → P
no-none x some none =
    let bad : Some x ≡ None = sym some ∙ none in
    absurd (cc)
