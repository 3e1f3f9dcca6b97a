-- A demand says what an action says that makes invalid what doesn't meet it.
use Rattle.std.specs.Prelude.{◌≡◌, ◌↔◌, ℕ, false, List, [], ◌∷◌, ◌++◌, Option, Some, None}
use Rattle.label_patterns.specs.declared.condition.ConditionKind.{ConditionKind}
use Rattle.label_patterns.specs.declared.condition.ConditionKind.TheVariants.{When, Unless}
use Rattle.ruleset_text.specs.declared.definition.DemandKind.{DemandKind}
use Rattle.ruleset_text.specs.declared.definition.DemandKind.TheVariants.{Never, Always}
use Rattle.ruleset_text.specs.Definitions.{Demand}
use Rattle.ruleset_text.specs.Names.{is_one_of}
use Rattle.variant_dispositions.specs.declared.disposition.Disposition.TheVariants.{Invalid}
use Rattle.variant_table.specs.declared.version.Version.TheVariants.{Three}
use Rattle.variant_table.specs.Entries.{TableValue}
use Rattle.variant_table.specs.WellFormed.{IsTable}
use Rattle.valid_labels.specs.Validity.{IsAdmitted}
use Rattle.answer_json.specs.declared.block.Disposition.{Disposition}
use Rattle.idn2_options.specs.Settings.{Settings}
use Rattle.idn2_answers.specs.Dispositions.{IsClear, IsDisposition}
use Rattle.idn2_answers.specs.Listings.{IsListed}

-- the ruleset with one more demand: the line '%never p', or '%always p'
abbrev pub with_demand : Demand → TableValue → TableValue
with_demand demand table =
    let d = table.definitions in record table { definitions = record d { demands = demand ∷ d.demands } }

-- 'when' of what no label may match, and 'unless' of what each label has to match
abbrev pub refused_by : DemandKind → ConditionKind
refused_by Never = When
refused_by Always = Unless

-- with the lines '%whole name p' and, before all other actions, '%action invalid when name', or 'unless name'
abbrev pub with_action : List ℕ → Demand → TableValue → TableValue
with_action name demand table =
    let d = table.definitions in
    record table {
      definitions = record d {
        rule_names = d.rule_names ++ name ∷ [];
        rules = d.rules ++ demand.pattern ∷ [];
        actions =
            record {
              disposition = Invalid;
              condition = Some (record { kind = refused_by demand.kind; rule = name });
              trigger = None;
            }
            ∷ d.actions;
      };
    }

-- a ruleset without a rule of this name
pub record MayGet (name : List ℕ) (table : TableValue) : Type 0 where
  pub of_table : IsTable table
  pub version : table.version ≡ Three
  pub unused : is_one_of table.definitions.rule_names name ≡ false

-- with the one and with the other the same labels may be asked about, and the same are listed, with the same
-- dispositions; but for unclear variants that don't meet the demand, which the action leaves in
pub record DemandsAreActions : Type 0 where
  pub admitted : (name : List ℕ) (demand : Demand) (table : TableValue) (label : List ℕ) → MayGet name table →
      IsAdmitted (with_demand demand table) label ↔ IsAdmitted (with_action name demand table) label
  pub listed : (o : Settings) (name : List ℕ) (demand : Demand) (table : TableValue) (label v : List ℕ) →
      MayGet name table → IsListed o (with_demand demand table) label v →
      IsListed o (with_action name demand table) label v
  pub disposed : (o : Settings) (name : List ℕ) (demand : Demand) (table : TableValue) (label v : List ℕ)
      (field : Option Disposition) → MayGet name table → IsListed o (with_demand demand table) label v →
      IsDisposition (with_demand demand table) label v field
      ↔ IsDisposition (with_action name demand table) label v field
  pub unless_unclear : (o : Settings) (name : List ℕ) (demand : Demand) (table : TableValue) (label v : List ℕ) →
      MayGet name table → IsListed o (with_action name demand table) label v →
      IsClear (with_action name demand table) label v → IsListed o (with_demand demand table) label v
