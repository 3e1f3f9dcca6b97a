-- A table of version 2 as a ruleset spells and lists the same.
use Rattle.std.specs.Prelude.{◌≡◌, ◌↔◌, ℕ, Bool, List}
use Rattle.variant_table.specs.declared.version.Version.TheVariants.{Three}
use Rattle.variant_table.specs.Entries.{TableValue}
use Rattle.variant_list.specs.Spelling.{Spells}
use Rattle.variant_list.specs.Spelled.{spelled}
use Rattle.variant_list.specs.Tested.{tested}
use Rattle.variant_list.specs.Variants.{variants}

-- the ruleset of the same definitions and entries
abbrev pub as_ruleset : TableValue → TableValue
as_ruleset table = record table { version = Three }

-- the same labels are spelled; the variants are the same, whichever labels are accepted, and so are the tested
-- labels, whichever prefixes are dead
pub record RulesetsListTheSame : Type 0 where
  pub spells : (table : TableValue) (label v : List ℕ) → Spells table label v ↔ Spells (as_ruleset table) label v
  pub spelled : (table : TableValue) (label : List ℕ) → spelled table label ≡ spelled (as_ruleset table) label
  pub listed : (accepts : List ℕ → Bool) (table : TableValue) (label after : List ℕ) →
      variants accepts table label after ≡ variants accepts (as_ruleset table) label after
  pub tried : (hopeless : List ℕ → Bool) (table : TableValue) (label after : List ℕ) →
      tested hopeless table label after ≡ tested hopeless (as_ruleset table) label after
