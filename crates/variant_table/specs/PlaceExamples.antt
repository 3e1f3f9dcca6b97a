-- Examples of places, by computation. Places are bytes, counted from 0.
use Rattle.std.specs.Prelude.{◌≡◌, ℕ, Option, Some, None, List, [], ◌∷◌, codes, replicate}
use Rattle.label_patterns.specs.Patterns.{Anchor}
use Rattle.ruleset_text.specs.Definitions.{Definitions, nothing_defined}
use Rattle.ruleset_text.specs.Spans.{span}
use Rattle.variant_table.specs.declared.fault.TableFault.{TableFault}
use Rattle.variant_table.specs.declared.fault.TableFault.TheVariants as tables
use Rattle.ruleset_text.specs.declared.fault.FaultPlace.{FaultPlace}
use Rattle.ruleset_text.specs.declared.fault.FaultPlace.TheVariants.{Lexeme, End, Point, InRange, Variant, Source, Byte}
use Rattle.ruleset_text.specs.declared.fault.FaultPlace.TheVariants.{NinthPoint, SeventeenthVariant}
use Rattle.variant_table.specs.declared.version.Notation.TheVariants.{Ruleset}
use Rattle.variant_table.specs.declared.version.Version.{Version}
use Rattle.variant_table.specs.declared.version.Version.TheVariants.{One, Two, Three}
use Rattle.variant_table.specs.FaultyLines.{fault_place}
use Rattle.variant_table.specs.LinePlaces.{read_place}
use Rattle.idn_class.specs.declared.properties.Properties.TheVariants.{Profile}

-- the type t, the set A, which is a, and the rule r
abbrev pub one_of_each : Definitions
one_of_each = record (nothing_defined Profile) {
  types = codes "t" ∷ [];
  set_names = codes "A" ∷ [];
  sets = (span 97 97 ∷ []) ∷ [];
  rule_names = codes "r" ∷ [];
  rules = Anchor ∷ [];
}

-- where a line after them has the fault
abbrev pub told : Version → TableFault → List ℕ → Option FaultPlace
told version fault line = read_place one_of_each fault version 0 line

pub record ExamplesOfPlaces : Type 0 where
  pub bar : told One (tables.Syntax 1) (codes "0061||0062") ≡ Some (Lexeme 5 1)
  pub ends : told One (tables.Syntax 1) (codes "0061|") ≡ Some (End 5)
  pub word : told One (tables.Syntax 1) (codes "0061 0062") ≡ Some (Lexeme 5 4)
  pub range : told One (tables.Syntax 1) (codes "0061..0063") ≡ Some (Lexeme 4 2)
  pub falling : told Two (tables.Syntax 1) (codes "0063..0061") ≡ Some (Lexeme 6 4)
  pub source : told Two (tables.Syntax 1) (codes "!0061") ≡ Some (Lexeme 0 1)
  pub marks : told Three (tables.Syntax 1) (codes "!!0061") ≡ Some (Lexeme 1 1)
  pub set : told Three (tables.Syntax 1) (codes "%set C 0062 0061") ≡ Some (Lexeme 12 4)
  pub rule : told Three (tables.Syntax 1) (codes "%rule r ^ (. _)") ≡ Some (Lexeme 13 1)
  pub rule_ends : told Three (tables.Syntax 1) (codes "%rule r ^ .") ≡ Some (End 11)
  pub keyword : told Three (tables.Syntax 1) (codes "%sets C 0061") ≡ Some (Lexeme 0 5)
  pub unknown : told Three (tables.NoSuchName 1) (codes "%never @A @B") ≡ Some (Lexeme 10 2)
  pub same_name : told Three (tables.SameName 1) (codes "%set t 0061") ≡ Some (Lexeme 5 1)
  pub stars : told Three (tables.Limit 1) (codes "%rule r ((0061*)*)* _") ≡ Some (Lexeme 18 1)
  pub groups : told Three (tables.Limit 1) (codes "%never ((((((((( . ))))))))) / ((.*)*)*") ≡ Some (Lexeme 15 1)
  pub no_version : fault_place Profile Ruleset (codes "0061") (tables.Syntax 1) ≡ None
  pub variant : told One (tables.SameVariant 1) (codes "0061|0062:0063:0062") ≡ Some (Variant 15)
  pub again : told One (tables.SameSource 1) (codes " 0061") ≡ Some (Source 1)
  pub ninth : told One (tables.Limit 1) (codes "0061-0061-0061-0061-0061-0061-0061-0061-0062")
      ≡ Some (NinthPoint 40 0x62)
  pub seventeenth : told One (tables.Limit 1)
      (codes "0061|0062:0063:0064:0065:0066:0067:0068:0069:006A:006B:006C:006D:006E:006F:0070:0071:0072")
      ≡ Some (SeventeenthVariant 85 0x72)
  pub sixteen : told One (tables.Limit 1)
      (codes "0061|0062:0063:0064:0065:0066:0067:0068:0069:006A:006B:006C:006D:006E:006F:0070:0071") ≡ None
  pub long_line : told One (tables.Limit 1) (replicate 1025 35) ≡ Some (Byte 1024)
  pub in_range : told Two (tables.BadClass 1) (codes "007A..007C") ≡ Some (InRange 0 0x7B)
  pub point : told One (tables.BadClass 1) (codes "0061|007B:0041") ≡ Some (Point 5 0x7B)
  pub set_point : told Three (tables.BadClass 1) (codes "%set FB1D 0061 007B") ≡ Some (Point 15 0x7B)
  pub unknown_type : told Three (tables.NoSuchName 1) (codes "0061 as t|0062 as C") ≡ Some (Lexeme 18 1)
  pub unknown_rule : told Three (tables.NoSuchName 1) (codes "0061 as t when t") ≡ Some (Lexeme 15 1)
  pub no_definition : told Three (tables.Limit 1) (codes "%never ***") ≡ None
