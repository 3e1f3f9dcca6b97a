use Rattle.std.proofs.Common.{◌≡◌, true, sym, subst}
use Rattle.std.specs.List.{AllByRecursion}
use Rattle.ruleset_text.specs.Actions.{NamedAction, knows_action}
use Rattle.ruleset_text.specs.Definitions.{type_names, whole_rules}
use Rattle.valid_labels.proofs.ActionLemmas.{action-at}
use Rattle.valid_labels.proofs.actions.actions_of.Goals as goal

pub action_of-requires : goal.action_of-requires
action_of-requires c =
    let d = c.args.definitions.now in
    action-at (λ (a : NamedAction). knows_action (type_names d) (whole_rules d) a ≡ true) c.actions-named_actions.result.now c.loop-named.named-index c.named-item.result c.loop-named-test.true c.named-item.is
    (subst (AllByRecursion (λ (a : NamedAction). knows_action (type_names d) (whole_rules d) a ≡ true)) (sym c.actions-named_actions.ensures.is) c.actions-named_actions.ensures.known)
