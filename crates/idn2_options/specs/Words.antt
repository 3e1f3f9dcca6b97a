-- What the words of the command line request: what `clap`'s definition of the command gives for
-- them, and then the rules that the program has of its own.
use Rattle.std.specs.Prelude.{ℕ, ◌≡◌, ◌≢◌, ◌&&◌, ◌||◌, Bool, true, false, not, List, [], ◌∷◌, length, Option, Some}
use Rattle.std.specs.Prelude.{None, codes, count_by, if◌then◌else◌, is_some, nat_eq, nat_le, option_and_then, unwrap_or}
use Rattle.std.specs.Prelude.{Result, Ok, Err}
use Rattle.std.specs.Option.{option_map_or, option_or}
use Rattle.std.specs.Char.{is_ascii_digit}
use Rattle.std.specs.List.{list_all}
use Rattle.std.specs.Str.{bytes_eq, chars}
use Rattle.std.specs.Str.Parse.{digits_value}
use Rattle.clap.specs.Words.{Row, Text, all_of, fault_of, first_of, matches_of, one_of}
use Rattle.clap.specs.Kinds.{Kinds}
use Rattle.clap.specs.declared.error.ErrorKind.{ErrorKind}
use Rattle.clap.specs.declared.error.ErrorKind.TheVariants.{DisplayHelp, DisplayVersion, OutOfMemory}
use Rattle.idn_class.specs.declared.properties.Properties.{Properties}
use Rattle.idn_class.specs.declared.properties.Properties.TheVariants.{Profile, Unicode}
use Rattle.variant_table.specs.declared.version.Notation.{Notation}
use Rattle.variant_table.specs.declared.version.Notation.TheVariants.{Table, Ruleset}
use Rattle.idn2_options.specs.CommandLine.{app}
use Rattle.idn2_options.specs.Settings.{Settings}
use Rattle.idn2_options.specs.declared.command_line.form.Form.{Form}
use Rattle.idn2_options.specs.declared.command_line.form.Form.TheVariants.{Plain, Json}
use Rattle.idn2_options.specs.declared.command_line.mode.Mode.{Mode}
use Rattle.idn2_options.specs.declared.command_line.mode.Mode.TheVariants.{Lookup, Register, Decode, DecodeOld}
use Rattle.idn2_options.specs.declared.command_line.mode.Mode.TheVariants.{Variants, Jump, CheckTable, PrintTable}
use Rattle.idn2_options.specs.declared.command_line.usage.Usage.{Usage}
use Rattle.idn2_options.specs.declared.command_line.usage.Usage.TheVariants.{Bad, Show, Memory}
use Rattle.idn2_options.specs.Names.{after_name, among_name, check_ruleset_name, check_table_name, decode_name}
use Rattle.idn2_options.specs.Names.{explain_name, json_name, jump_name, limit_name, lookup_name, old_name, others_name}
use Rattle.idn2_options.specs.Names.{print_ruleset_name, register_name, ruleset_name, standard_name, std3_name}
use Rattle.idn2_options.specs.Names.{steps_name, strings_name, tries_name, variants_name}

-- ---- what `clap` found

-- the flag is set
abbrev pub has_flag : Text → List Row → Bool
has_flag name rows = option_map_or (λ text. bytes_eq text (codes "true")) (one_of name rows) false

-- the value of the option
abbrev pub value_of : Text → List Row → Option Text
value_of = first_of

-- the option is given
abbrev pub has_value : Text → List Row → Bool
has_value name rows = is_some (value_of name rows)

-- the words that belong to no option
abbrev pub strings_of : List Row → List Text
strings_of rows = unwrap_or (all_of strings_name rows) []

-- there are some
abbrev pub has_strings : List Row → Bool
has_strings rows = not (nat_eq (length (strings_of rows)) 0)

-- ---- numbers

-- so many ASCII digits at most, and one at least
abbrev pub is_numeral : ℕ → Text → Bool
is_numeral digits text = nat_le 1 (length text) && nat_le (length text) digits && list_all is_ascii_digit text

abbrev pub is_within : ℕ → ℕ → ℕ → Bool
is_within least greatest number = nat_le least number && nat_le number greatest

-- the number in a range that a text writes by so many digits at most
abbrev pub number_of : ℕ → ℕ → ℕ → Text → Option ℕ
number_of digits least greatest text =
    if is_numeral digits text
    && is_within least greatest (digits_value 10 text) then Some (digits_value 10 text) else None

-- a count: 1 to 1,000,000,000
abbrev pub count_of : Text → Option ℕ
count_of text = number_of 10 1 1000000000 text

-- a number of steps: 2 to 10^18
abbrev pub steps_of : Text → Option ℕ
steps_of text = number_of 19 2 1000000000000000000 text

-- the option is left out, or its value is a count
abbrev pub is_count_if_given : Text → List Row → Bool
is_count_if_given name rows = option_map_or (λ text. is_some (count_of text)) (value_of name rows) true

-- `--steps` is left out, or its value is a number of steps
abbrev pub is_bound_if_given : List Row → Bool
is_bound_if_given rows = option_map_or (λ text. is_some (steps_of text)) (value_of steps_name rows) true

-- ---- files

-- the file by which variants are listed or requests are answered: a table or a ruleset
abbrev pub listing_file : List Row → Option Text
listing_file rows = option_or (value_of variants_name rows) (value_of ruleset_name rows)

-- there is one
abbrev pub lists : List Row → Bool
lists rows = is_some (listing_file rows)

-- the file that is checked: a table or a ruleset
abbrev pub checked_file : List Row → Option Text
checked_file rows = option_or (value_of check_table_name rows) (value_of check_ruleset_name rows)

-- there is one
abbrev pub checks : List Row → Bool
checks rows = is_some (checked_file rows)

-- there is a ruleset that is printed
abbrev pub prints : List Row → Bool
prints rows = has_value print_ruleset_name rows

-- the name of that file; empty where the mode has none
abbrev pub file_of : List Row → Text
file_of rows =
    unwrap_or (listing_file rows) (unwrap_or (checked_file rows) (unwrap_or (value_of print_ruleset_name rows) []))

-- as what it is read
abbrev pub notation_of : List Row → Notation
notation_of rows =
    if has_value ruleset_name rows || has_value check_ruleset_name rows || prints rows then Ruleset else Table

-- the name of the file of registered labels; empty where there is none
abbrev pub among_of : List Row → Text
among_of rows = unwrap_or (value_of among_name rows) []

-- ---- the program's own rules

-- at most one of the eight words that name a mode is given
abbrev pub names_one_mode : List Row → Bool
names_one_mode rows = nat_le (count_by (λ named. named)
    (has_flag lookup_name rows ∷ has_flag register_name rows ∷ has_flag decode_name rows
    ∷ has_value variants_name rows ∷ has_value check_table_name rows
    ∷ has_value ruleset_name rows ∷ has_value check_ruleset_name rows ∷ prints rows ∷ [])) 1

-- `--after`, `--limit`, `--tries`, `--steps` or `--among` is given, which say what a listing has
abbrev pub has_listing_option : List Row → Bool
has_listing_option rows =
    has_value after_name rows || has_value limit_name rows || has_value tries_name rows || has_value steps_name rows
    || has_value among_name rows

-- these come with `--variants` or `--ruleset` alone, and not with `--jump`, which lists nothing
abbrev pub listing_options_fit : List Row → Bool
listing_options_fit rows = not (has_listing_option rows) || (lists rows && not (has_flag jump_name rows))

-- `--jump` comes with `--variants` or `--ruleset` alone
abbrev pub jumps_by_table : List Row → Bool
jumps_by_table rows = not (has_flag jump_name rows) || lists rows

-- `--old` comes with `--decode` alone
abbrev pub decodes_old : List Row → Bool
decodes_old rows = not (has_flag old_name rows) || has_flag decode_name rows

-- `--others` comes with `--among` alone
abbrev pub has_among : List Row → Bool
has_among rows = not (has_flag others_name rows) || has_value among_name rows

-- with `--among` nothing is tried, and no label is passed over, so `--tries` and `--steps` do not come with it; and its
-- file is not that of the table
abbrev pub suits_among : List Row → Bool
suits_among rows =
    not (has_value among_name rows)
    || (not (has_value tries_name rows) && not (has_value steps_name rows)
    && not (bytes_eq (file_of rows) (among_of rows)))

-- `--limit` and `--tries` have a count, and `--steps` a number of steps
abbrev pub has_counts : List Row → Bool
has_counts rows = is_count_if_given limit_name rows && is_count_if_given tries_name rows && is_bound_if_given rows

-- the text of `--after`, which is empty where it is left out
abbrev pub start_of : List Row → Text
start_of rows = unwrap_or (value_of after_name rows) []

-- that text has at most 1,024 bytes
abbrev pub has_short_start : List Row → Bool
has_short_start rows = nat_le (length (start_of rows)) 1024

-- `--check-table` and `--check-ruleset` come without STRINGS
abbrev pub checks_alone : List Row → Bool
checks_alone rows = not (checks rows) || not (has_strings rows)

-- `--print-ruleset` comes without STRINGS, and without `--json`
abbrev pub prints_alone : List Row → Bool
prints_alone rows = not (prints rows) || not (has_strings rows)

abbrev pub prints_plainly : List Row → Bool
prints_plainly rows = not (prints rows) || not (has_flag json_name rows)

-- all of these rules hold
abbrev pub is_allowed : List Row → Bool
is_allowed rows =
    names_one_mode rows && listing_options_fit rows && jumps_by_table rows && decodes_old rows && has_among rows
    && suits_among rows
    && has_counts rows && has_short_start rows && checks_alone rows && prints_alone rows && prints_plainly rows

-- ---- the options

-- the mode that is named; lookup where none is
abbrev pub mode_of : List Row → Mode
mode_of rows =
    if has_flag register_name rows then Register
    else (if has_flag decode_name rows then (if has_flag old_name rows then DecodeOld else Decode)
    else (if lists rows then (if has_flag jump_name rows then Jump else Variants)
    else (if checks rows then CheckTable
    else (if prints rows then PrintTable
    else Lookup))))

-- objects of JSON if `--json` is given
abbrev pub form_of : List Row → Form
form_of rows = if has_flag json_name rows then Json else Plain

-- Unicode's own data if `--standard` is given
abbrev pub properties_of : List Row → Properties
properties_of rows = if has_flag standard_name rows then Unicode else Profile

-- the options, part by part
abbrev pub settings_of : List Row → Settings
settings_of rows = record {
  mode = mode_of rows;
  std3 = has_flag std3_name rows;
  properties = properties_of rows;
  explain = has_flag explain_name rows;
  form = form_of rows;
  file = file_of rows;
  notation = notation_of rows;
  strings = strings_of rows;
  after = chars (start_of rows);
  limit = option_and_then count_of (value_of limit_name rows);
  tries = unwrap_or (option_and_then count_of (value_of tries_name rows)) 1000000;
  steps = option_and_then steps_of (value_of steps_name rows);
  among = value_of among_name rows;
  others = has_flag others_name rows;
  registered = None;
}

-- ---- the answer

-- what the words request: a run with these options, a text to be shown, or nothing that can be read
pub data Answer : Type 0 where
  chosen : Settings → Answer
  shown : Answer
  bad : Answer

-- the words are refused
abbrev pub is_refused : Answer → Bool
is_refused bad = true
is_refused _ = false

-- `clap` was asked for help or for the version
abbrev pub asks_to_show : ErrorKind → Bool
asks_to_show DisplayHelp = true
asks_to_show DisplayVersion = true
asks_to_show _ = false

-- `clap`'s refusal comes first, the program's own rules after it. Its definition names one kind of
-- refusal at most (`tells-app` of `proofs/AppKinds.antt`), so nothing is left open
abbrev pub answer_of : Kinds → List Row → Answer
answer_of [] rows = if is_allowed rows then chosen (settings_of rows) else bad
answer_of (kind ∷ _) rows = if asks_to_show kind then shown else bad

-- the options of a list of words, of which the first is the program's name
unfoldable pub options_of : List Text → Answer
options_of words = answer_of (fault_of app words) (matches_of app words)

-- `clap`'s refusal of this kind comes to that
abbrev pub IsUsage : ErrorKind → Usage → Type 0
IsUsage kind Bad = (asks_to_show kind ≡ false) × (kind ≢ OutOfMemory)
IsUsage kind (Show text) = asks_to_show kind ≡ true
IsUsage kind Memory = Unit {0}

-- the result is that answer, unless memory ran out
abbrev pub IsAnswer : Answer → Result Settings Usage → Type 0
IsAnswer answer (Ok options) = answer ≡ chosen options
IsAnswer answer (Err Bad) = answer ≡ bad
IsAnswer answer (Err (Show text)) = answer ≡ shown
IsAnswer answer (Err Memory) = Unit {0}
