-- The options that words use, each with what may be its value, and the first that is used in a wrong way.
use Rattle.std.specs.Prelude.{ℕ, ◌++◌, ◌&&◌, ◌||◌, Bool, false, not, List, [], ◌∷◌, map, drop, Option, Some, None}
use Rattle.std.specs.Prelude.{is_some, codes, encode_utf8, if◌then◌else◌, option_map}
use Rattle.std.specs.List.{before_first, list_any}
use Rattle.std.specs.Option.{option_map_or, option_or}
use Rattle.std.specs.Str.{bytes_eq, chars}
use Rattle.clap.specs.Lexer.{is_long_word, is_short_word, long_of, short_of}
use Rattle.clap.specs.Walk.{Rule, arg_by_long, arg_by_short, takes_values}
use Rattle.clap.specs.Words.{Text, built}
use Rattle.idn2_options.specs.CommandLine.{app}
use Rattle.idn2_options.specs.Names.{explain_name}
use Rattle.idn2_options.specs.declared.command_line.misuse.Misuse.{Misuse}
use Rattle.idn2_options.specs.declared.command_line.misuse.Misuse.TheVariants.{Unknown, WithValue, WithoutValue}
use Rattle.idn2_options.specs.declared.command_line.misuse.Misuse.TheVariants.{Repeated}

-- ---- the uses of options

-- an option as a word names it: by its name, `--limit`, or by its letter, `-r`
pub data Named : Type 0 where
  by_name : Text → Named
  by_letter : ℕ → Named

-- how it is written alone
abbrev pub written : Named → Text
written (by_name name) = codes "--" ++ name
written (by_letter letter) = codes "-" ++ encode_utf8 letter

-- one use of an option: as it is named, with what stands after `=`, and with the word after its own, unless that names
-- options
pub record Use : Type 0 where
  pub option : Named
  pub attached : Option Text
  pub next : Option Text

-- the options that a word names, each with what stands after `=`: `--name` and `--name=value` one, `-abc` one by each
-- letter, and any other word none
abbrev pub named_in : Text → List (Named × Option Text)
named_in word =
    option_map_or (λ parts. (by_name parts.0, parts.1) ∷ []) (long_of word)
    (option_map_or (λ letters. map (λ letter. (by_letter letter, None)) (chars letters)) (short_of word) [])

-- the word names options
abbrev pub names_options : Text → Bool
names_options word = is_long_word word || is_short_word word

-- the first of these words, unless it names options: what may be the value of an option in front of them
abbrev pub value_in : List Text → Option Text
value_in [] = None
value_in (word ∷ words) = if names_options word then None else Some word

-- the uses of the options that a word names, with what may be a value after it
abbrev pub uses_by : Text → Option Text → List Use
uses_by word next = map (λ named. record { option = named.0; attached = named.1; next = next }) (named_in word)

-- the uses of the options that words name
abbrev pub uses_in : List Text → List Use
uses_in [] = []
uses_in (word ∷ words) = uses_by word (value_in words) ++ uses_in words

-- from `--` on, no word names an option
abbrev pub ends_options : Text → Bool
ends_options word = bytes_eq word (codes "--")

-- the words that may name options: those after the program's name, and in front of `--`
abbrev pub front : List Text → List Text
front words = before_first ends_options (drop 1 words)

-- the uses of options in words, of which the first is the program's name
abbrev pub uses_of : List Text → List Use
uses_of words = uses_in (front words)

-- `--explain` is one of the words that may name options
abbrev pub asks_for_causes : List Text → Bool
asks_for_causes words = list_any (λ word. bytes_eq word (codes "--" ++ explain_name)) (front words)

-- ---- what is wrong with a use

-- what `clap` knows of the options and the STRINGS, once the command is built
abbrev pub known_rules : List Rule
known_rules = (built app).top.rules

module _ (rules : List Rule) where
  -- what these rules say of the option, if the command line has it
  abbrev pub rule_of : Named → Option Rule
  rule_of (by_name name) = arg_by_long rules name
  rule_of (by_letter letter) = arg_by_short rules letter

  -- the command line hasn't the option
  abbrev pub is_unknown : Use → Bool
  is_unknown this = not (is_some (rule_of this.option))

  -- an option that takes a value has none
  abbrev pub lacks_value : Use → Bool
  lacks_value this =
      option_map_or (λ rule. takes_values rule && not (is_some this.attached || is_some this.next))
      (rule_of this.option) false

  -- an option that takes no value has one after `=`
  abbrev pub has_needless_value : Use → Bool
  has_needless_value this =
      option_map_or (λ rule. not (takes_values rule) && is_some this.attached) (rule_of this.option) false

  -- both are of one option, as `-r` and `--register` are
  abbrev pub are_of_one : Use → Use → Bool
  are_of_one this other =
      option_map_or (λ rule. option_map_or (λ same. bytes_eq same.id rule.id) (rule_of other.option) false)
      (rule_of this.option) false

  -- the first of these uses is of an option that the command line hasn't
  abbrev pub begins_unknown : List Use → Bool
  begins_unknown [] = false
  begins_unknown (this ∷ _) = is_unknown this

  -- how a use is wrong that stands after these uses and in front of those, if it is. Where an option that the command
  -- line hasn't stands in place of a value, that one is wrong, and not the want of the value
  abbrev pub misuse_in : List Use → Use → List Use → Option Misuse
  misuse_in before this after =
      if is_unknown this then Some Unknown
      else (if has_needless_value this then Some WithValue
      else (if lacks_value this && not (begins_unknown after) then Some WithoutValue
      else (if list_any (are_of_one this) before then Some Repeated else None)))

  -- the first that is wrong, of the uses after these, and what is wrong with it
  abbrev pub first_wrong : List Use → List Use → Option (Misuse × Use)
  first_wrong before [] = None
  first_wrong before (this ∷ after) =
      option_or (option_map (λ misuse. (misuse, this)) (misuse_in before this after))
      (first_wrong (before ++ this ∷ []) after)

  -- the option as a message tells it: by its name, and one that the command line hasn't as it is written alone
  abbrev pub told : Use → Text
  told this = option_map_or (λ rule. codes "--" ++ rule.id) (rule_of this.option) (written this.option)

-- the first use among words that is wrong, and what is wrong with it
abbrev pub first_misused : List Text → Option (Misuse × Use)
first_misused words = first_wrong known_rules [] (uses_of words)
