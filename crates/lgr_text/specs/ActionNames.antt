-- Actions of a file as a ruleset has them (RFC 7940, section 7): each with the names that the ruleset gives to rules
-- and types. The default actions (section 7.6) follow those of each ruleset, and are not written.
use Rattle.std.specs.Prelude.{◌≡◌, ℕ, Bool, List, [], ◌∷◌, ◌++◌, fold, length, map, slice_index_or, nat_lt}
use Rattle.std.specs.Prelude.{Option, Some, None, is_some, if◌then◌else◌}
use Rattle.std.specs.Option.{option_map, option_or}
use Rattle.ruleset_text.specs.Actions.{NamedAction, NamedTrigger}
use Rattle.std.specs.List.{list_all}
use Rattle.ruleset_text.specs.ActionSteps.{disposition_of}
use Rattle.ruleset_text.specs.declared.named_condition.NamedCondition.{NamedCondition}
use Rattle.ruleset_text.specs.Names.{is_one_of, number_of}
use Rattle.lgr_text.specs.Records.{Action, Condition, Trigger}
use Rattle.lgr_text.specs.declared.actions.Renamed.{Renamed}
use Rattle.lgr_text.specs.declared.rule_error.RuleFault.{RuleFault}
use Rattle.lgr_text.specs.declared.rule_error.RuleFault.TheVariants.{Undefined, NotSupported}

-- what a name of the file is called in the ruleset
abbrev pub called : Renamed → List ℕ → List ℕ
called names name = slice_index_or names.written.now (number_of names.names.now name) []

abbrev pub is_called : Renamed → List ℕ → Bool
is_called names name = nat_lt (number_of names.names.now name) (length names.written.now)

abbrev pub condition_called : Renamed → Condition → NamedCondition
condition_called rules c = record { kind = c.kind; rule = called rules c.rule }

-- names with one more, if it isn't one of them
abbrev pub with_name : List (List ℕ) → List ℕ → List (List ℕ)
with_name names name = if is_one_of names name then names else names ++ name ∷ []

-- each of the names once, where it comes first
abbrev pub each_once : List (List ℕ) → List (List ℕ)
each_once names = fold with_name [] names

-- a type that is given twice says no more than one that is given once
abbrev pub trigger_called : Renamed → Trigger → NamedTrigger
trigger_called types t = record { kind = t.kind; types = each_once (map (called types) t.types) }

-- the action of the ruleset says the same as that of the file
pub record SaysAction (rules types : Renamed) (action : Action) (named : NamedAction) : Type 0 where
  pub disposition : disposition_of action.disposition ≡ Some named.disposition
  pub condition : named.condition ≡ option_map (condition_called rules) action.condition
  pub trigger : named.trigger ≡ option_map (trigger_called types) action.trigger

-- ---- what is wrong with one

-- the name is called nothing
abbrev pub name_fault : Renamed → List ℕ → Option RuleFault
name_fault names name = if is_called names name then None else Some Undefined

abbrev pub condition_fault : Renamed → Option Condition → Option RuleFault
condition_fault rules None = None
condition_fault rules (Some c) = name_fault rules c.rule

abbrev pub trigger_fault : Renamed → Option Trigger → Option RuleFault
trigger_fault types None = None
trigger_fault types (Some t) = if list_all (is_called types) t.types then None else Some Undefined

-- a disposition that isn't one of the five; then its rule, then its types
abbrev pub action_fault : Renamed → Renamed → Action → Option RuleFault
action_fault rules types a =
    if is_some (disposition_of a.disposition)
    then option_or (condition_fault rules a.condition) (trigger_fault types a.trigger)
    else Some NotSupported
