use Rattle.std.proofs.lemmas.Bool.{and_parts}
use Rattle.ruleset_text.specs.ActionForms as held
use Rattle.ruleset_text.specs.Actions.{knows_rule, knows_types}
use Rattle.ruleset_text.specs.Definitions.{type_names, whole_rules}
use Rattle.valid_labels.proofs.ActionLemmas.{rule-known}
use Rattle.valid_labels.proofs.actions.action_of.Goals as goal

pub look_up_condition-requires : goal.look_up_condition-requires
look_up_condition-requires c =
    let d = c.args.definitions.now in
    let a = held.action c.args.named.now in
    rule-known d a.condition (and_parts (knows_rule (whole_rules d) a.condition) (knows_types (type_names d) a.trigger) c.requires).0
