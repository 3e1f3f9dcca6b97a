-- Options that the rules allow are within the limits of a run.
use Rattle.std.proofs.Common.{◌≡◌, ◌≤◌, ◌&&◌, ℕ, Bool, List, [], ◌∷◌, Option, Some, None, IfSome, true, false, length, refl, subst, arith, nat_le, cond}
use Rattle.std.specs.Prelude.{IsUtf8, option_and_then, unwrap_or}
use Rattle.std.specs.Str.{chars}
use Rattle.std.specs.Str.Parse.{digits_value}
use Rattle.std.proofs.Math.Utf8.{scalar, scalars}
use Rattle.std.proofs.lemmas.Bool.Decides.{nat_tests}
use Rattle.std.proofs.lemmas.List.Elements.{All-cons, All-nil}
use Rattle.std.proofs.lemmas.Str.{encodes-chars, length-le-encodes, scalars-chars}
use Rattle.clap.specs.Words.{Row, Text}
use Rattle.idn_text.specs.Points.{AreScalarValues, IsScalarValue}
use Rattle.idn2_options.specs.Settings.{IsBound, IsCount, IsWithinLimits}
use Rattle.idn2_options.specs.Words.{listing_options_fit, checks_alone, count_of, decodes_old, has_among, has_counts, has_short_start, is_allowed, is_numeral, is_within, jumps_by_table, names_one_mode, prints_alone, prints_plainly, settings_of, start_of, steps_of, suits_among, value_of}
use Rattle.idn2_options.specs.Names.{limit_name, steps_name, tries_name}

pub le-test : (m n : ℕ) → nat_le m n ≡ true → m ≤ n
le-test m n test = grind (arith, nat_tests)

count-test : (n : ℕ) → is_within 1 1000000000 n ≡ true → IsCount n
count-test n test = grind (arith, nat_tests)

bound-test : (n : ℕ) → is_within 2 1000000000000000000 n ≡ true → IsBound n
bound-test n test = grind (arith, nat_tests)

right-test : (a b : Bool) → a && b ≡ true → b ≡ true
right-test true b both = both
right-test false b both = absurd (let bad : false ≡ true = both in cc)

left-test : (a b : Bool) → a && b ≡ true → a ≡ true
left-test true b both = refl
left-test false b both = both

-- a number is in its range
counted : (P : ℕ → Type 0) (short fits : Bool) (n : ℕ) → (fits ≡ true → P n) → IfSome (cond (short && fits) (Some n) None) P
counted P true true n in_range = in_range refl
counted P true false n in_range = tt
counted P false fits n in_range = tt

IsCount-count_of : (text : Text) → IfSome (count_of text) IsCount
IsCount-count_of text =
    counted IsCount (is_numeral 10 text) (is_within 1 1000000000 (digits_value 10 text)) (digits_value 10 text) (count-test (digits_value 10 text))

IsCount-limit : (given : Option Text) → IfSome (option_and_then count_of given) IsCount
IsCount-limit None = tt
IsCount-limit (Some text) = IsCount-count_of text

IsBound-steps : (given : Option Text) → IfSome (option_and_then steps_of given) IsBound
IsBound-steps None = tt
IsBound-steps (Some text) =
    counted IsBound (is_numeral 19 text) (is_within 2 1000000000000000000 (digits_value 10 text)) (digits_value 10 text) (bound-test (digits_value 10 text))

or_default : (count : Option ℕ) → IfSome count IsCount → IsCount (unwrap_or count 1000000)
or_default None _ = (omega arith, omega arith)
or_default (Some n) in_range = in_range

-- the characters of a text are scalar values
scalar-test : (c : ℕ) → scalar c ≡ true → IsScalarValue c
scalar-test c test = grind (arith, nat_tests)

all-scalar : (points : List ℕ) → scalars points ≡ true → AreScalarValues points
all-scalar [] tests = All-nil IsScalarValue
all-scalar (c ∷ cs) tests =
    All-cons IsScalarValue c cs (scalar-test c (left-test (scalar c) (scalars cs) tests)) (all-scalar cs (right-test (scalar c) (scalars cs) tests))

-- no text has more characters than bytes
length-chars : (text : Text) → IsUtf8 text → length (chars text) ≤ length text
length-chars text is_text =
    subst (λ (bytes : List ℕ). length (chars text) ≤ length bytes) (encodes-chars text is_text) (length-le-encodes (chars text))

short-start : (rows : List Row) → is_allowed rows ≡ true → length (start_of rows) ≤ 1024
short-start rows allowed =
    let first : Bool = names_one_mode rows && listing_options_fit rows && jumps_by_table rows && decodes_old rows && has_among rows && suits_among rows && has_counts rows in
    let short : Bool = first && has_short_start rows in
    let printed = left-test (short && checks_alone rows && prints_alone rows) (prints_plainly rows) allowed in
    let checked = left-test (short && checks_alone rows) (prints_alone rows) printed in
    le-test _ _ (right-test first (has_short_start rows) (left-test short (checks_alone rows) checked))

pub within_limits : (rows : List Row) → IsUtf8 (start_of rows) → is_allowed rows ≡ true → IsWithinLimits (settings_of rows)
within_limits rows is_text allowed =
    let fewer = length-chars (start_of rows) is_text in
    let short = short-start rows allowed in
    record {
      after_length = omega arith;
      after_points = all-scalar (chars (start_of rows)) (scalars-chars (start_of rows) is_text);
      limit = IsCount-limit (value_of limit_name rows);
      tries = or_default _ (IsCount-limit (value_of tries_name rows));
      steps = IsBound-steps (value_of steps_name rows);
    }
