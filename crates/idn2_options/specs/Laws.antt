-- Laws of the definitions.
use Rattle.std.specs.Prelude.{◌≡◌, ◌≢◌, ◌<◌, ◌≤◌, ◌^◌, ◌++◌, ◌&&◌, Bool, IsUtf8, None, Some, count_by, is_some, length}
use Rattle.std.specs.Prelude.{not, true, false, List, ◌∷◌}
use Rattle.std.specs.List.{AllByRecursion}
use Rattle.clap.specs.Kinds.{IsAmong}
use Rattle.clap.specs.Words.{Row, Text, fault_of}
use Rattle.clap.specs.declared.error.ErrorKind.{ErrorKind}
use Rattle.idn2_options.specs.Causes.{cause_of}
use Rattle.idn2_options.specs.CommandLine.{app}
use Rattle.idn2_options.specs.Settings.{Settings}
use Rattle.idn2_options.specs.Uses.{Use, are_of_one, first_misused, known_rules, misuse_in, uses_of}
use Rattle.idn2_options.specs.Words.{asks_to_show, chosen, has_flag, checks, is_allowed, is_refused, lists, mode_of}
use Rattle.idn2_options.specs.Words.{options_of, prints}
use Rattle.idn2_options.specs.declared.command_line.misuse.Misuse.{Misuse}
use Rattle.idn2_options.specs.declared.command_line.misuse.Misuse.TheVariants.{Repeated}
use Rattle.idn2_options.specs.declared.command_line.mode.Mode.{Mode}
use Rattle.idn2_options.specs.declared.command_line.mode.Mode.TheVariants.{Lookup, Register, Decode, DecodeOld}
use Rattle.idn2_options.specs.declared.command_line.mode.Mode.TheVariants.{Variants, Jump, CheckTable, PrintTable}
use Rattle.idn2_options.specs.Names.{decode_name, jump_name, lookup_name, old_name, register_name}

-- a word of the command line names the mode
abbrev pub is_named : Mode → List Row → Bool
is_named Lookup rows = has_flag lookup_name rows
is_named Register rows = has_flag register_name rows
is_named Decode rows = has_flag decode_name rows && not (has_flag old_name rows)
is_named DecodeOld rows = has_flag old_name rows
is_named Variants rows = lists rows && not (has_flag jump_name rows)
is_named Jump rows = has_flag jump_name rows
is_named CheckTable rows = checks rows
is_named PrintTable rows = prints rows

-- the mode is the one that is named, or lookup where none is; where two are named, the words are refused
pub record ModeIsTheOneNamed : Type 0 where
  pub named : (rows : List Row) (mode : Mode) → is_allowed rows ≡ true → is_named mode rows ≡ true → mode_of rows ≡ mode
  pub none_named : (rows : List Row) → ((mode : Mode) → is_named mode rows ≡ false) → mode_of rows ≡ Lookup
  pub two_named : (rows : List Row) (mode other : Mode) → mode ≢ other → is_named mode rows ≡ true
      → is_named other rows ≡ true → is_allowed rows ≡ false

-- words that use an option in a wrong way never request a run; where `clap` refuses words, they use an option so; and
-- words are refused exactly where there is a cause; the last two if there are not more words than `clap` counts
pub record MisusesAreRefused : Type 0 where
  pub refused : (words : List Text) (settings : Settings) → AllByRecursion IsUtf8 words → first_misused words ≢ None
      → options_of words ≢ chosen settings
  pub used : (words : List Text) (kind : ErrorKind) → AllByRecursion IsUtf8 words → length words < 2 ^ 64
      → IsAmong kind (fault_of app words) → asks_to_show kind ≡ false → first_misused words ≢ None
  pub told : (words : List Text) → AllByRecursion IsUtf8 words → length words < 2 ^ 64
      → is_some (cause_of words) ≡ is_refused (options_of words)

-- of these uses it is the first that is wrong: it is so in this way, and each one before it in none
pub record IsFirstWrong (uses : List Use) (misuse : Misuse) (this : Use) : Type 0 where
  pub before : List Use
  pub after : List Use
  pub parts : uses ≡ before ++ this ∷ after
  pub wrong : misuse_in known_rules before this after ≡ Some misuse
  pub none : (front : List Use) (other : Use) (behind : List Use) → before ≡ front ++ other ∷ behind
      → misuse_in known_rules front other (behind ++ this ∷ after) ≡ None

-- the use that a cause tells is the first; an option that is told as repeated is used twice or more in front of `--`
pub record CausesAreFirst : Type 0 where
  pub first : (words : List Text) (misuse : Misuse) (this : Use) → first_misused words ≡ Some (misuse, this)
      → IsFirstWrong (uses_of words) misuse this
  pub twice : (words : List Text) (this : Use) → first_misused words ≡ Some (Repeated, this)
      → 2 ≤ count_by (are_of_one known_rules this) (uses_of words)
