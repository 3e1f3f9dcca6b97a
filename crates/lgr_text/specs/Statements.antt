-- What the elements below 'rules' say (RFC 7940, sections 6 and 7).
use Rattle.std.specs.Prelude.{Option, Some, None, List, [], ◌∷◌, ◌++◌, codes, bytes_eq, option_map, filter_map}
use Rattle.std.specs.Prelude.{map, if◌then◌else◌}
use Rattle.lgr_text.specs.Actions.{action_of}
use Rattle.lgr_text.specs.Definitions.{definition_of}
use Rattle.lgr_text.specs.Elements.{Node}
use Rattle.lgr_text.specs.Records as records
use Rattle.lgr_text.specs.Records.{Action, Definition}
use Rattle.lgr_text.specs.declared.statements.Rules as held

-- a class or a rule with its name, or an action
pub data Statement : Type 0 where
  Defines : Definition → Statement
  Acts : Action → Statement

abbrev pub statement_of : Node → Option Statement
statement_of node =
    if bytes_eq node.name (codes "action") then option_map Acts (action_of node) else
    option_map Defines (definition_of node)

abbrev pub defined : Statement → Option Definition
defined (Defines d) = Some d
defined (Acts a) = None

abbrev pub acting : Statement → Option Action
acting (Defines d) = None
acting (Acts a) = Some a

-- the definitions and the actions, each in the order of the file
pub record Rules : Type 0 where
  pub definitions : List Definition
  pub actions : List Action

abbrev pub rules_of : List Statement → Rules
rules_of statements = record {
  definitions = filter_map defined statements;
  actions = filter_map acting statements;
}

-- with one more
abbrev pub with_statement : Rules → Statement → Rules
with_statement rules (Defines d) = record { definitions = rules.definitions ++ d ∷ []; actions = rules.actions }
with_statement rules (Acts a) = record { definitions = rules.definitions; actions = rules.actions ++ a ∷ [] }

-- what is held in memory
abbrev pub rules : held.Rules → Rules
rules r = record {
  definitions = map records.definition r.definitions.items;
  actions = map records.action r.actions.items;
}
