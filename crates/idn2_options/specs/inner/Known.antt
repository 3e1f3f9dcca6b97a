-- What the code knows of an option, and what `clap`'s rule says of it.
use Rattle.std.specs.Prelude.{ℕ, ◌==◌, Bool, true, false, Option, None}
use Rattle.std.specs.Option.{option_map_or}
use Rattle.clap.specs.Walk.{Rule, Text, takes_values}
use Rattle.idn2_options.specs.CommandLine.{flag_rule, value_rule}
use Rattle.idn2_options.specs.declared.command_line.known.Known.{Known}
use Rattle.idn2_options.specs.declared.command_line.known.Known.TheVariants.{Flag, Valued}

abbrev pub name_of : Known → Text
name_of (Flag name letter help) = name.now
name_of (Valued name value help) = name.now

abbrev pub letter_of : Known → Option ℕ
letter_of (Flag name letter help) = letter
letter_of (Valued name value help) = None

abbrev pub has_letter : ℕ → Known → Bool
has_letter letter known = option_map_or (λ own. own == letter) (letter_of known) false

abbrev pub takes_value : Known → Bool
takes_value (Flag name letter help) = false
takes_value (Valued name value help) = true

-- the argument of the command that an option is
abbrev pub known_rule : Known → Rule
known_rule (Flag name letter help) = flag_rule name.now letter
known_rule (Valued name value help) = value_rule name.now

-- the name of an option, and whether it takes a value
abbrev pub shown_by : Known → Text × Bool
shown_by known = (name_of known, takes_value known)

abbrev pub shown_of : Rule → Text × Bool
shown_of rule = (rule.id, takes_values rule)
