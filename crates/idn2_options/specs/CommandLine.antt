-- The command line `idn2 [OPTIONS] [STRINGS]..` as one simple command of `clap`, and what its
-- definition gives for a list of words.
use Rattle.std.specs.Prelude.{ℕ, ◌^◌, ◌-◌, ◌++◌, List, [], ◌∷◌, Option, Some, None, codes, true}
use Rattle.clap.specs.Words.{App, Rule, Text, new_app, new_rule}
use Rattle.clap.specs.declared.builder.ArgAction.TheVariants.{SetTrue, Set, Append}
use Rattle.idn2_options.specs.Names.{after_name, among_name, check_ruleset_name, check_table_name, decode_letter}
use Rattle.idn2_options.specs.Names.{decode_name, explain_name, json_name, jump_name, limit_name, lookup_letter}
use Rattle.idn2_options.specs.Names.{lookup_name, old_name, others_name, quiet_name, register_letter, register_name}
use Rattle.idn2_options.specs.Names.{print_ruleset_name, ruleset_name, standard_name, std3_name, steps_name}
use Rattle.idn2_options.specs.Names.{strings_name, tr46nt_letter}
use Rattle.idn2_options.specs.Names.{tr46nt_name, tries_name, variants_name}

-- a flag, `--name`, and `-n` where it has a letter
abbrev pub flag_rule : Text → Option ℕ → Rule
flag_rule name letter = record (new_rule name) { long = Some name; short = letter; action = Some SetTrue }

-- an option with one value, `--name VALUE` or `--name=VALUE`
abbrev pub value_rule : Text → Rule
value_rule name = record (new_rule name) { long = Some name; action = Some Set; value_names = 1 }

-- the words that belong to no option
abbrev pub strings_rule : Text → Rule
strings_rule name = record (new_rule name) {
  action = Some Append;
  range = Some (record { start_inclusive = 0; end_inclusive = 2 ^ 64 - 1 });
}

-- the options, in the order of the help
abbrev pub option_rules : List Rule
option_rules =
    flag_rule lookup_name (Some lookup_letter)
    ∷ flag_rule register_name (Some register_letter)
    ∷ flag_rule decode_name (Some decode_letter)
    ∷ value_rule variants_name
    ∷ value_rule check_table_name
    ∷ value_rule ruleset_name
    ∷ value_rule check_ruleset_name
    ∷ value_rule print_ruleset_name
    ∷ value_rule among_name
    ∷ flag_rule others_name None
    ∷ flag_rule jump_name None
    ∷ flag_rule old_name None
    ∷ flag_rule tr46nt_name (Some tr46nt_letter)
    ∷ flag_rule std3_name None
    ∷ flag_rule standard_name None
    ∷ flag_rule explain_name None
    ∷ flag_rule json_name None
    ∷ flag_rule quiet_name None
    ∷ value_rule after_name
    ∷ value_rule limit_name
    ∷ value_rule tries_name
    ∷ value_rule steps_name
    ∷ []

-- a command with these arguments after those that it has
abbrev pub with_rules : App → List Rule → App
with_rules a rules = record a { top = record a.top { rules = a.top.rules ++ rules } }

-- a command of this name that has a version to show
abbrev pub versioned_app : Text → App
versioned_app name = record (new_app name) { top = record (new_app name).top { has_version = true } }

-- `idn2`; building it adds `-h`, `--help`, `-V` and `--version`
unfoldable pub app : App
app = with_rules (versioned_app (codes "idn2")) (option_rules ++ strings_rule strings_name ∷ [])
