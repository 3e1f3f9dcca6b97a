-- Worked examples of the definitions, by computation.
use Rattle.std.specs.Prelude.{◌≡◌, ℕ, List, [], ◌∷◌, false, true, Option, Some, None, codes}
use Rattle.idn_class.specs.declared.properties.Properties.TheVariants.{Profile, Unicode}
use Rattle.variant_table.specs.declared.version.Notation.TheVariants.{Table, Ruleset}
use Rattle.idn2_options.specs.Settings.{Settings}
use Rattle.idn2_options.specs.Causes.{Told, cause_of, misused}
use Rattle.idn2_options.specs.Uses.{asks_for_causes}
use Rattle.idn2_options.specs.Words.{Answer, options_of, chosen, bad}
use Rattle.idn2_options.specs.declared.command_line.form.Form.TheVariants.{Plain, Json}
use Rattle.idn2_options.specs.declared.command_line.misuse.Misuse.TheVariants.{Unknown, WithoutValue, Repeated}
use Rattle.idn2_options.specs.declared.command_line.misuse.Misuse.TheVariants.{WithValue}
use Rattle.idn2_options.specs.declared.command_line.mode.Mode.{Mode}
use Rattle.idn2_options.specs.declared.command_line.mode.Mode.TheVariants.{Lookup, Register, DecodeOld, Variants}
use Rattle.idn2_options.specs.declared.command_line.mode.Mode.TheVariants.{CheckTable, PrintTable}

-- a run of the mode, with no other option
abbrev pub plain_run : Mode → List (List ℕ) → Settings
plain_run mode strings =
    record {
      mode = mode;
      std3 = false;
      properties = Profile;
      explain = false;
      form = Plain;
      file = [];
      notation =
          Table;
      strings =
          strings;
      after =
          [];
      limit = None;
      tries = 1000000;
      steps = None;
      among = None;
      others = false;
      registered = None;
    }

-- what the words after the program's name request
abbrev pub asked : List (List ℕ) → Answer
asked words = options_of (codes "idn2" ∷ words)

-- why they are refused
abbrev pub cause_in : List (List ℕ) → Option Told
cause_in words = cause_of (codes "idn2" ∷ words)

pub record ExamplesOfWords : Type 0 where
  pub two_modes : asked (codes "-r" ∷ codes "-d" ∷ codes "x" ∷ []) ≡ bad
  pub switches : asked (codes "-N" ∷ codes "--quiet" ∷ codes "x" ∷ []) ≡ chosen (plain_run Lookup (codes "x" ∷ []))
  pub explained : asked (codes "--explain" ∷ codes "x" ∷ [])
      ≡ chosen (record (plain_run Lookup (codes "x" ∷ [])) { explain = true })
  pub explained_twice : asked (codes "--explain" ∷ codes "--explain" ∷ codes "x" ∷ []) ≡ bad
  pub by_standard : asked (codes "-r" ∷ codes "--standard" ∷ codes "x" ∷ [])
      ≡ chosen (record (plain_run Register (codes "x" ∷ [])) { properties = Unicode })
  pub in_json : asked (codes "--json" ∷ codes "--explain" ∷ codes "x" ∷ [])
      ≡ chosen (record (plain_run Lookup (codes "x" ∷ [])) { explain = true; form = Json })
  pub in_json_twice : asked (codes "--json" ∷ codes "--json" ∷ codes "x" ∷ []) ≡ bad
  pub by_ruleset : asked (codes "--ruleset" ∷ codes "f" ∷ codes "x" ∷ [])
      ≡ chosen (record (plain_run Variants (codes "x" ∷ [])) { file = codes "f"; notation = Ruleset })
  pub checked_ruleset : asked (codes "--check-ruleset" ∷ codes "f" ∷ [])
      ≡ chosen (record (plain_run CheckTable []) { file = codes "f"; notation = Ruleset })
  pub printed_ruleset : asked (codes "--print-ruleset" ∷ codes "f" ∷ [])
      ≡ chosen (record (plain_run PrintTable []) { file = codes "f"; notation = Ruleset })
  pub printed_objects : asked (codes "--json" ∷ codes "--print-ruleset=f" ∷ []) ≡ bad
  pub table_and_ruleset : asked (codes "--variants" ∷ codes "f" ∷ codes "--ruleset" ∷ codes "g" ∷ codes "x" ∷ []) ≡ bad
  pub old_labels : asked (codes "-d" ∷ codes "--old" ∷ codes "x" ∷ []) ≡ chosen (plain_run DecodeOld (codes "x" ∷ []))
  pub old_alone : asked (codes "--old" ∷ codes "x" ∷ []) ≡ bad
  pub others : asked (codes "--variants" ∷ codes "f" ∷ codes "--among" ∷ codes "g" ∷ codes "--others" ∷ codes "x" ∷ [])
      ≡ chosen (record
      (plain_run Variants (codes "x" ∷ [])) { file = codes "f"; among = Some (codes "g"); others = true })
  pub others_alone : asked (codes "--variants" ∷ codes "f" ∷ codes "--others" ∷ codes "x" ∷ []) ≡ bad
  pub after_alone : asked (codes "--after" ∷ [] ∷ codes "x" ∷ []) ≡ bad
  pub unknown_name : cause_in (codes "--json" ∷ codes "--foo=x" ∷ codes "--bar" ∷ [])
      ≡ Some (misused Unknown (codes "--foo"))
  pub unknown_letter : cause_in (codes "-rx" ∷ codes "y" ∷ []) ≡ Some (misused Unknown (codes "-x"))
  pub no_value : cause_in (codes "--limit" ∷ codes "--json" ∷ codes "--foo" ∷ [])
      ≡ Some (misused WithoutValue (codes "--limit"))
  pub dashes_are_no_value : cause_in (codes "--after" ∷ codes "--" ∷ codes "x" ∷ [])
      ≡ Some (misused WithoutValue (codes "--after"))
  pub dash_is_a_value : cause_in (codes "--among" ∷ codes "-" ∷ codes "--foo" ∷ [])
      ≡ Some (misused Unknown (codes "--foo"))
  pub given_twice : cause_in (codes "-r" ∷ codes "x" ∷ codes "--register" ∷ codes "--" ∷ codes "--foo" ∷ [])
      ≡ Some (misused Repeated (codes "--register"))
  pub twice_by_letters : cause_in (codes "-drd" ∷ codes "-r" ∷ []) ≡ Some (misused Repeated (codes "--decode"))
  pub first_of_two_ways : cause_in (codes "--after" ∷ codes "--jump=1" ∷ [])
      ≡ Some (misused WithoutValue (codes "--after"))
  pub unknown_for_a_value : cause_in (codes "--limit" ∷ codes "--foo" ∷ []) ≡ Some (misused Unknown (codes "--foo"))
  pub with_value : cause_in (codes "--json" ∷ codes "--json=1" ∷ codes "--limit" ∷ [])
      ≡ Some (misused WithValue (codes "--json"))
  pub without_value : cause_in (codes "--limit=1" ∷ codes "--limit" ∷ codes "-r" ∷ codes "-r" ∷ [])
      ≡ Some (misused WithoutValue (codes "--limit"))
  pub rule_after_clap : cause_in (codes "-r" ∷ codes "-d" ∷ codes "--json=1" ∷ [])
      ≡ Some (misused WithValue (codes "--json"))
  pub no_cause : cause_in (codes "-r" ∷ codes "--" ∷ codes "--foo" ∷ []) ≡ None
  pub help_has_none : cause_in (codes "--help" ∷ codes "--foo" ∷ []) ≡ None
  pub asked_before_dashes : asks_for_causes (codes "idn2" ∷ codes "--foo" ∷ codes "--explain" ∷ []) ≡ true
  pub not_asked_after : asks_for_causes (codes "idn2" ∷ codes "--" ∷ codes "--explain" ∷ []) ≡ false
