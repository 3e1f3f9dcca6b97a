use Rattle.std.proofs.Common.{◌≡◌, true, subst}
use Rattle.std.specs.List.{AllByRecursion}
use Rattle.ruleset_text.specs.Actions.{knows_action}
use Rattle.ruleset_text.specs.Definitions.{Definitions, type_names, whole_rules}
use Rattle.ruleset_text.proofs.definitions.Definitions.actions.Goals as goal

pub returns-clause-known : goal.returns-clause-known
returns-clause-known c =
    let P : Definitions → Type 0 = λ d. AllByRecursion (λ a. knows_action (type_names d) (whole_rules d) a ≡ true) d.actions in
    subst P c.self.view_is c.self.invariant.without_fault.known
