-- Options that the rules allow suit their mode.
use Rattle.std.proofs.Common.{◌≡◌, ◌≢◌, ◌⊎◌, inl, inr, ◌+◌, ◌≤◌, ◌&&◌, ◌||◌, ◌==◌, ℕ, Bool, List, [], ◌∷◌, Option, Some, None, true, false, cond, length, ap, refl, sym, ◌∙◌, arith, not, is_some}
use Rattle.std.specs.Prelude.{count_by, option_and_then, unwrap_or}
use Rattle.std.specs.Option.{option_or}
use Rattle.std.specs.Str.{bytes_eq, chars}
use Rattle.std.proofs.lemmas.Bool.{and_parts, false_from_ne_true, not-true}
use Rattle.std.proofs.lemmas.Bool.Decides.{nat_tests}
use Rattle.std.proofs.lemmas.Str.{chars-nil}
use Rattle.clap.specs.Words.{Row, Text}
use Rattle.variant_table.specs.declared.version.Notation.TheVariants.{Table, Ruleset}
use Rattle.idn2_options.specs.declared.command_line.form.Form.TheVariants.{Plain, Json}
use Rattle.idn2_options.specs.Settings.{SuitsMode}
use Rattle.idn2_options.specs.Words.{among_of, listing_options_fit, checked_file, checks, checks_alone, count_of, decodes_old, file_of, form_of, has_among, has_counts, has_flag, has_short_start, has_strings, has_value, is_allowed, jumps_by_table, listing_file, lists, mode_of, names_one_mode, notation_of, prints, prints_alone, prints_plainly, settings_of, start_of, steps_of, strings_of, suits_among, value_of}
use Rattle.idn2_options.specs.declared.command_line.mode.Mode.{Mode}
use Rattle.idn2_options.specs.declared.command_line.mode.Mode.TheVariants.{Lookup, Register, Decode, DecodeOld, Variants, Jump, CheckTable, PrintTable}
use Rattle.idn2_options.proofs.LimitLemmas.{le-test}
use Rattle.idn2_options.specs.Names.{after_name, among_name, check_ruleset_name, check_table_name, decode_name, json_name, jump_name, limit_name, lookup_name, old_name, others_name, print_ruleset_name, register_name, ruleset_name, steps_name, tries_name, variants_name}

-- ---- tests

pub no_weight : (b : Bool) → cond {A = ℕ} b 1 0 ≡ 0 → b ≡ false
no_weight true none = absurd (omega arith)
no_weight false none = refl

neither : (a b : Bool) → not (a || b) ≡ true → (a ≡ false) × (b ≡ false)
neither true b none = absurd (let bad : false ≡ true = none in cc)
neither false true none = absurd (let bad : false ≡ true = none in cc)
neither false false none = (refl, refl)

not-given : {X : Type 0} (o : Option X) → is_some o ≡ false → o ≡ None
not-given None none = refl
not-given (Some x) none = absurd (let bad : true ≡ false = none in cc)

no-length : (n : ℕ) → not (n == 0) ≡ false → n ≡ 0
no-length n none = grind (arith, nat_tests)

no-strings : (strings : List Text) → not (length strings == 0) ≡ false → strings ≡ []
no-strings [] none = refl
no-strings (s ∷ ss) none =
    let bad : length (s ∷ ss) ≡ 0 = no-length (length (s ∷ ss)) none in
    absurd (omega arith)

first-test : (a b : Bool) → a || b ≡ true → b ≡ false → a ≡ true
first-test true b either second = refl
first-test false b either second = absurd (let bad : false ≡ true = sym second ∙ either in cc)

pub second-test : (a b : Bool) → a || b ≡ true → a ≡ false → b ≡ true
second-test true b either first = absurd (let bad : true ≡ false = first in cc)
second-test false b either first = either

-- ---- the mode

abbrev pub mode_by : Bool → Bool → Bool → Bool → Bool → Bool → Bool → Mode
mode_by register decode old variants jump check print =
    cond register Register (cond decode (cond old DecodeOld Decode) (cond variants (cond jump Jump Variants) (cond check CheckTable (cond print PrintTable Lookup))))

check-named : (r d o v j k p : Bool) → mode_by r d o v j k p ≡ CheckTable → k ≡ true
check-named true d o v j k p is = absurd (let bad : Register ≡ CheckTable = is in cc)
check-named false true true v j k p is = absurd (let bad : DecodeOld ≡ CheckTable = is in cc)
check-named false true false v j k p is = absurd (let bad : Decode ≡ CheckTable = is in cc)
check-named false false o true true k p is = absurd (let bad : Jump ≡ CheckTable = is in cc)
check-named false false o true false k p is = absurd (let bad : Variants ≡ CheckTable = is in cc)
check-named false false o false j true p is = refl
check-named false false o false j false true is = absurd (let bad : PrintTable ≡ CheckTable = is in cc)
check-named false false o false j false false is = absurd (let bad : Lookup ≡ CheckTable = is in cc)

print-named : (r d o v j k p : Bool) → mode_by r d o v j k p ≡ PrintTable → p ≡ true
print-named true d o v j k p is = absurd (let bad : Register ≡ PrintTable = is in cc)
print-named false true true v j k p is = absurd (let bad : DecodeOld ≡ PrintTable = is in cc)
print-named false true false v j k p is = absurd (let bad : Decode ≡ PrintTable = is in cc)
print-named false false o true true k p is = absurd (let bad : Jump ≡ PrintTable = is in cc)
print-named false false o true false k p is = absurd (let bad : Variants ≡ PrintTable = is in cc)
print-named false false o false j true p is = absurd (let bad : CheckTable ≡ PrintTable = is in cc)
print-named false false o false j false true is = refl
print-named false false o false j false false is = absurd (let bad : Lookup ≡ PrintTable = is in cc)

-- at most one of six is named
abbrev pub IsOne : Bool → Bool → Bool → Bool → Bool → Bool → Type 0
IsOne l r d v k p = count_by (λ named. named) (l ∷ r ∷ d ∷ v ∷ k ∷ p ∷ []) ≤ 1

pub variants-alone : (l r d o v j k p : Bool) → IsOne l r d v k p → v ≡ true → mode_by r d o v j k p ≡ cond j Jump Variants
variants-alone l r d o v j k p one is_v =
    let weight : cond {A = ℕ} v 1 0 ≡ 1 = rw is_v refl in
    rw (no_weight r (omega arith), no_weight d (omega arith), is_v) refl

pub check-alone : (l r d o v j k p : Bool) → IsOne l r d v k p → k ≡ true → mode_by r d o v j k p ≡ CheckTable
check-alone l r d o v j k p one is_k =
    let weight : cond {A = ℕ} k 1 0 ≡ 1 = rw is_k refl in
    rw (no_weight r (omega arith), no_weight d (omega arith), no_weight v (omega arith), is_k) refl

pub print-alone : (l r d o v j k p : Bool) → IsOne l r d v k p → p ≡ true → mode_by r d o v j k p ≡ PrintTable
print-alone l r d o v j k p one is_p =
    let weight : cond {A = ℕ} p 1 0 ≡ 1 = rw is_p refl in
    rw (no_weight r (omega arith), no_weight d (omega arith), no_weight v (omega arith), no_weight k (omega arith), is_p) refl

-- a file is given twice at most by the word for tables and the one for rulesets
either-weight : {X : Type 0} (a b : Option X) → cond {A = ℕ} (is_some (option_or a b)) 1 0 ≤ cond {A = ℕ} (is_some a) 1 0 + cond {A = ℕ} (is_some b) 1 0
either-weight None b = omega arith
either-weight (Some x) b = omega arith

-- where at most one of the eight words is given, one of six is
fewer-named : (l r d p : Bool) (v w k m : Option Text) → count_by (λ named. named) (l ∷ r ∷ d ∷ is_some v ∷ is_some k ∷ is_some w ∷ is_some m ∷ p ∷ []) ≤ 1 → IsOne l r d (is_some (option_or v w)) (is_some (option_or k m)) p
fewer-named l r d p v w k m one = omega (arith, one, either-weight v w, either-weight k m)

-- a file by neither word
neither-given : {X : Type 0} (a b : Option X) → is_some (option_or a b) ≡ false → (is_some a ≡ false) × (is_some b ≡ false)
neither-given None b none = (refl, none)
neither-given (Some x) b none = absurd (let bad : true ≡ false = none in cc)

-- ---- the rules, one by one

pub record Rules (rows : List Row) : Type 0 where
  pub one : IsOne (has_flag lookup_name rows) (has_flag register_name rows) (has_flag decode_name rows) (lists rows) (checks rows) (prints rows)
  pub bounds : listing_options_fit rows ≡ true
  pub jumps : jumps_by_table rows ≡ true
  pub old : decodes_old rows ≡ true
  pub others : has_among rows ≡ true
  pub among : suits_among rows ≡ true
  pub alone : checks_alone rows ≡ true
  pub printed_alone : prints_alone rows ≡ true
  pub plainly : prints_plainly rows ≡ true

pub rules : (rows : List Row) → is_allowed rows ≡ true → Rules rows
rules rows allowed =
    let tests : Bool = names_one_mode rows && listing_options_fit rows && jumps_by_table rows && decodes_old rows && has_among rows && suits_among rows in
    let plainly = and_parts (tests && has_counts rows && has_short_start rows && checks_alone rows && prints_alone rows) (prints_plainly rows) allowed in
    let printed = and_parts (tests && has_counts rows && has_short_start rows && checks_alone rows) (prints_alone rows) plainly.0 in
    let last = and_parts (tests && has_counts rows && has_short_start rows) (checks_alone rows) printed.0 in
    let start = and_parts (tests && has_counts rows) (has_short_start rows) last.0 in
    let counts = and_parts tests (has_counts rows) start.0 in
    let among = and_parts (names_one_mode rows && listing_options_fit rows && jumps_by_table rows && decodes_old rows && has_among rows) (suits_among rows) counts.0 in
    let others = and_parts (names_one_mode rows && listing_options_fit rows && jumps_by_table rows && decodes_old rows) (has_among rows) among.0 in
    let old = and_parts (names_one_mode rows && listing_options_fit rows && jumps_by_table rows) (decodes_old rows) others.0 in
    let jumps = and_parts (names_one_mode rows && listing_options_fit rows) (jumps_by_table rows) old.0 in
    let first = and_parts (names_one_mode rows) (listing_options_fit rows) jumps.0 in
    record { one = fewer-named _ _ _ (prints rows) (value_of variants_name rows) (value_of ruleset_name rows) (value_of check_table_name rows) (value_of check_ruleset_name rows) (le-test _ 1 first.0); bounds = first.1; jumps = jumps.1; old = old.1; others = others.1; among = among.1; alone = last.1; printed_alone = printed.1; plainly = plainly.1 }

-- a test of two that holds nowhere but in another mode
both-false : (a b : Bool) → (a ≡ true → b ≡ true → ⊥) → (a && b) ≡ false
both-false true true never = absurd (never refl refl)
both-false true false never = refl
both-false false b never = refl

-- the mode is another than the listing
no-listing : (rows : List Row) → Rules rows → mode_of rows ≢ Variants → (lists rows && not (has_flag jump_name rows)) ≡ false
no-listing rows r other = both-false (lists rows) (not (has_flag jump_name rows)) (λ named listed.
    other (variants-alone _ _ _ _ _ _ _ _ r.one named ∙ ap (λ (j : Bool). cond j Jump Variants) (not-true (has_flag jump_name rows) listed)))

no-check : (rows : List Row) → Rules rows → mode_of rows ≢ CheckTable → checks rows ≡ false
no-check rows r other = false_from_ne_true (checks rows) (λ named. other (check-alone _ _ _ _ _ _ _ _ r.one named))

no-print : (rows : List Row) → Rules rows → mode_of rows ≢ PrintTable → prints rows ≡ false
no-print rows r other = false_from_ne_true (prints rows) (λ named. other (print-alone _ _ _ _ _ _ _ _ r.one named))

-- nothing that bounds a listing is given
record NoBounds (rows : List Row) : Type 0 where
  after : value_of after_name rows ≡ None
  limit : value_of limit_name rows ≡ None
  tries : value_of tries_name rows ≡ None
  steps : value_of steps_name rows ≡ None
  among : value_of among_name rows ≡ None

none-given : (rows : List Row) → Rules rows → mode_of rows ≢ Variants → NoBounds rows
none-given rows r other =
    let after = has_value after_name rows in
    let limit = has_value limit_name rows in
    let tries = has_value tries_name rows in
    let among = has_value among_name rows in
    let steps = has_value steps_name rows in
    let none = neither (after || limit || tries || steps) among (first-test (not (after || limit || tries || steps || among)) (lists rows && not (has_flag jump_name rows)) r.bounds (no-listing rows r other)) in
    let third = neither (after || limit || tries) steps (ap not none.0) in
    let second = neither (after || limit) tries (ap not third.0) in
    let first = neither after limit (ap not second.0) in
    record {
      after = not-given (value_of after_name rows) first.0;
      limit = not-given (value_of limit_name rows) first.1;
      tries = not-given (value_of tries_name rows) second.1;
      steps = not-given (value_of steps_name rows) third.1;
      among = not-given (value_of among_name rows) none.1;
    }

no-bounds : (rows : List Row) → Rules rows → mode_of rows ≢ Variants
    → (chars (start_of rows) ≡ []) × (option_and_then count_of (value_of limit_name rows) ≡ None)
    × (unwrap_or (option_and_then count_of (value_of tries_name rows)) 1000000 ≡ 1000000)
    × (option_and_then steps_of (value_of steps_name rows) ≡ None)
no-bounds rows r other =
    let none = none-given rows r other in (
      ap (λ (o : Option Text). chars (unwrap_or o [])) none.after ∙ chars-nil,
      ap (option_and_then count_of) none.limit,
      ap (λ (o : Option Text). unwrap_or (option_and_then count_of o) 1000000) none.tries,
      ap (option_and_then steps_of) none.steps,
    )

-- where registered labels are named, no number of tries or steps is
untried : (rows : List Row) → Rules rows → value_of among_name rows ≢ None
    → (unwrap_or (option_and_then count_of (value_of tries_name rows)) 1000000 ≡ 1000000) × (option_and_then steps_of (value_of steps_name rows) ≡ None)
untried rows r named =
    let given : not (has_value among_name rows) ≡ false = false_from_ne_true (not (has_value among_name rows)) (λ none. named (not-given (value_of among_name rows) (not-true (has_value among_name rows) none))) in
    let bounds : Bool = not (has_value tries_name rows) && not (has_value steps_name rows) in
    let rest = and_parts bounds (not (bytes_eq (file_of rows) (among_of rows)))
    (second-test (not (has_value among_name rows)) (bounds && not (bytes_eq (file_of rows) (among_of rows))) r.among given) in
    let both = and_parts (not (has_value tries_name rows)) (not (has_value steps_name rows)) rest.0 in (
      ap (λ (o : Option Text). unwrap_or (option_and_then count_of o) 1000000) (not-given (value_of tries_name rows) (not-true (has_value tries_name rows) both.0)),
      ap (option_and_then steps_of) (not-given (value_of steps_name rows) (not-true (has_value steps_name rows) both.1)),
    )

-- where they aren't, the label itself is not left out
with-others : (rows : List Row) → Rules rows → value_of among_name rows ≡ None → has_flag others_name rows ≡ false
with-others rows r none = not-true (has_flag others_name rows) (first-test (not (has_flag others_name rows)) (has_value among_name rows) r.others (ap is_some none))

no-variants : (rows : List Row) → Rules rows → mode_of rows ≢ Variants → mode_of rows ≢ Jump → lists rows ≡ false
no-variants rows r other jump = false_from_ne_true (lists rows) (λ named. either (has_flag jump_name rows) (variants-alone _ _ _ _ _ _ _ _ r.one named))
  where
    either : (j : Bool) → mode_of rows ≡ cond j Jump Variants → ⊥
    either true is = jump is
    either false is = other is

no-file : (rows : List Row) → Rules rows → mode_of rows ≢ Variants → mode_of rows ≢ Jump → mode_of rows ≢ CheckTable → mode_of rows ≢ PrintTable → file_of rows ≡ []
no-file rows r variants jump check print =
    let v = not-given (listing_file rows) (no-variants rows r variants jump) in
    let k = not-given (checked_file rows) (no-check rows r check) in
    let p = not-given (value_of print_ruleset_name rows) (no-print rows r print) in
    ap (λ (o : Option Text). unwrap_or o (unwrap_or (checked_file rows) (unwrap_or (value_of print_ruleset_name rows) []))) v
    ∙ ap (λ (o : Option Text). unwrap_or o (unwrap_or (value_of print_ruleset_name rows) [])) k ∙ ap (λ (o : Option Text). unwrap_or o []) p

-- so nothing is read as a ruleset
no-ruleset : (rows : List Row) → Rules rows → mode_of rows ≢ Variants → mode_of rows ≢ Jump → mode_of rows ≢ CheckTable → mode_of rows ≢ PrintTable → notation_of rows ≡ Table
no-ruleset rows r variants jump check print =
    let w = (neither-given (value_of variants_name rows) (value_of ruleset_name rows) (no-variants rows r variants jump)).1 in
    let m = (neither-given (value_of check_table_name rows) (value_of check_ruleset_name rows) (no-check rows r check)).1 in
    ap (λ (b : Bool). cond (b || has_value check_ruleset_name rows || prints rows) Ruleset Table) w ∙ ap (λ (b : Bool). cond (b || prints rows) Ruleset Table) m
    ∙ ap (λ (b : Bool). cond b Ruleset Table) (no-print rows r print)

-- a test that excludes STRINGS
without-strings : (rows : List Row) (named : Bool) → (not named || not (has_strings rows)) ≡ true → named ≡ true → strings_of rows ≡ []
without-strings rows named rule is =
    let none = second-test (not named) (not (has_strings rows)) rule (ap not is) in
    no-strings (strings_of rows) (false_from_ne_true (has_strings rows) (λ some. let bad : false ≡ true = ap not (sym some) ∙ none in cc))

-- the mode is that of the printing
is-printed : (rows : List Row) → mode_of rows ≡ PrintTable → prints rows ≡ true
is-printed rows is =
    print-named (has_flag register_name rows) (has_flag decode_name rows) (has_flag old_name rows) (lists rows) (has_flag jump_name rows) (checks rows) (prints rows) is

alone : (rows : List Row) → Rules rows → (mode_of rows ≡ CheckTable) ⊎ (mode_of rows ≡ PrintTable) → strings_of rows ≡ []
alone rows r (inl is) =
    without-strings rows (checks rows) r.alone
    (check-named (has_flag register_name rows) (has_flag decode_name rows) (has_flag old_name rows) (lists rows) (has_flag jump_name rows) (checks rows) (prints rows) is)
alone rows r (inr is) = without-strings rows (prints rows) r.printed_alone (is-printed rows is)

-- what is printed is a ruleset, and no object
either-ruleset : (a b p : Bool) → p ≡ true → cond (a || b || p) Ruleset Table ≡ Ruleset
either-ruleset true b p is = refl
either-ruleset false true p is = refl
either-ruleset false false p is = ap (λ (b : Bool). cond b Ruleset Table) is

printed-plainly : (rows : List Row) → Rules rows → mode_of rows ≡ PrintTable → (notation_of rows ≡ Ruleset) × (form_of rows ≡ Plain)
printed-plainly rows r is =
    let named = is-printed rows is in
    let none = second-test (not (prints rows)) (not (has_flag json_name rows)) r.plainly (ap not named) in (
      either-ruleset (has_value ruleset_name rows) (has_value check_ruleset_name rows) (prints rows) named,
      ap (λ (b : Bool). cond b Json Plain) (false_from_ne_true (has_flag json_name rows) (λ some. let bad : false ≡ true = ap not (sym some) ∙ none in cc)),
    )

pub suits_mode : (rows : List Row) → is_allowed rows ≡ true → SuitsMode (settings_of rows)
suits_mode rows allowed =
    let r = rules rows allowed in
    record { bounds = no-bounds rows r; among = λ other. (none-given rows r other).among; others = with-others rows r; untried = untried rows r; file = λ variants jump check print. (no-file rows r variants jump check print, no-ruleset rows r variants jump check print); strings = alone rows r; printed = printed-plainly rows r }
