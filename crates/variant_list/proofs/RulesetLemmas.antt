-- What is spelled doesn't depend on the version of the table.
use Rattle.std.proofs.Common.{ℕ, ◌+◌, ◌↔◌, List, [], ◌∷◌, length, refl}
use Rattle.ruleset_text.specs.Definitions.{Definitions}
use Rattle.variant_table.specs.declared.version.Version.{Version}
use Rattle.variant_table.specs.Entries.{Entry, TableValue, table_of}
use Rattle.variant_table.specs.Segmentations.{IsSegmentation}
use Rattle.variant_list.specs.Spelling.{JoinsReplacements, Spells, Replaces}
use Rattle.variant_list.specs.RulesetLaws.{RulesetsListTheSame, as_ruleset}

module _ (definitions : Definitions) (entries : List Entry) (m n : Version) (label : List ℕ) where
  joins-version : (place : ℕ) (es : List Entry) (v : List ℕ) → JoinsReplacements (table_of m definitions entries) label place es v → JoinsReplacements (table_of n definitions entries) label place es v
  joins-version place [] v joins = joins
  joins-version place (e ∷ es) v joins =
      let r : Replaces (table_of m definitions entries) label place e joins.0 = joins.2 in (
        joins.0,
        joins.1,
        record { replacement = r.replacement; of_entry = r.of_entry; held = r.held; is = r.is },
        joins-version (place + length e.source) es joins.1 joins.3,
        joins.4,
      )

  spells-version : (v : List ℕ) → Spells (table_of m definitions entries) label v → Spells (table_of n definitions entries) label v
  spells-version v spells =
      let cut : IsSegmentation (table_of m definitions entries) spells.0 label = spells.1 in
      (spells.0, record { of_table = cut.of_table; joined = cut.joined; held = cut.held }, joins-version 0 spells.0 v spells.2)

pub Spells-as_ruleset : (table : TableValue) (label v : List ℕ) → Spells table label v ↔ Spells (as_ruleset table) label v
Spells-as_ruleset table label v = (
  spells-version table.definitions table.entries table.version (as_ruleset table).version label v,
  spells-version table.definitions table.entries (as_ruleset table).version table.version label v,
)

pub rulesets_list_the_same : RulesetsListTheSame
rulesets_list_the_same = record {
  spells = Spells-as_ruleset;
  spelled = λ table label. refl;
  listed = λ accepts table label after. refl;
  tried = λ hopeless table label after. refl;
}
