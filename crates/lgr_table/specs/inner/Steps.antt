-- What each step makes of a table: the table before it and after it.
use Rattle.std.specs.Prelude.{◌≡◌, ◌≢◌, ℕ, ◌<◌, ◌↔◌, Bool, IsTrue, IsSome, List, [], ◌∷◌, ◌++◌, Option, Some, None}
use Rattle.std.specs.Prelude.{All, AllPairs, Contains, length, map, unwrap_or}
use Rattle.std.specs.List.{flat_map}
use Rattle.lgr_text.specs.Records.{Action, Condition, Ruleset}
use Rattle.lgr_table.specs.Entries.{AreOfOneType, all_entries, needs_type}
use Rattle.lgr_text.specs.Meanings.{AreMeaningsOf, Meanings}
use Rattle.lgr_text.specs.Names.{IsClassOf, IsRuleOf, asked, named_classes, named_rules}
use Rattle.lgr_table.specs.Numbers.{Numbering, number_among, types_of, types_with}
use Rattle.lgr_text.specs.Demands.{demanded}
use Rattle.lgr_table.specs.Tables.{SayActions, SayDemands, SaysAction, SaysDemand, SayRules, acting}
use Rattle.lgr_table.specs.TableNames.{AreCalled, names_with}
use Rattle.lgr_table.specs.inner.TableNames.{AreRuleNames}
use Rattle.ruleset_text.specs.Actions.{NamedAction}
use Rattle.ruleset_text.specs.Definitions.{Demand}
use Rattle.ruleset_text.specs.Names.{is_name}
use Rattle.variant_table.specs.Entries.{TableValue}

-- these are the types of the file
pub record AreFileTypes (may : ℕ → Bool) (r : Ruleset) (types : List (Option (List ℕ))) : Type 0 where
  pub known : (name : List ℕ) → Contains (types_of r) name → IsSome (number_among types (Some name))
  pub own : (name : List ℕ) → Contains types (Some name) → Contains (types_of r) name
  pub untyped : Contains types None ↔ IsTrue (needs_type may r.entries)
  pub each_type : AllPairs (λ a b. a ≢ b) (types_with types)

-- the types are defined
pub record AddsTypes (may : ℕ → Bool) (r : Ruleset) (types : List (Option (List ℕ))) (t u : TableValue) : Type 0 where
  pub others : u ≡ record t { definitions = record t.definitions { types = u.definitions.types } }
  pub are : AreFileTypes may r types
  pub called : AreCalled (names_with types r) is_name (map (λ t. unwrap_or t []) types) u.definitions.types

-- the rules are defined, and the sets that they name, where the file has these types
pub record AddsRules (may : ℕ → Bool) (r : Ruleset) (types : List (Option (List ℕ))) (rules : List (List ℕ))
    (t u : TableValue) : Type 0 where
  pub others : u ≡ record t {
    definitions = record t.definitions {
      set_names = u.definitions.set_names;
      sets = u.definitions.sets;
      rule_names = u.definitions.rule_names;
      rules = u.definitions.rules;
    };
  }
  pub count : length u.definitions.rules ≡ length rules
  pub each_rule : AllPairs (λ a b. a ≢ b) rules
  pub called : AreRuleNames (names_with types r) rules u.definitions
  pub meanings : Meanings
  pub are_meant : AreMeaningsOf may r meanings
  pub say_rules : (n : Numbering) → n.rules ≡ rules
      → SayRules r meanings n (record u { entries = all_entries may n r.entries })
  pub once : AllPairs (λ d e. d.name ≢ e.name) r.definitions
  pub classes : All (λ d. All (IsClassOf r) (named_classes d.meaning)) r.definitions
  pub named : All (λ d. All (IsRuleOf r) (named_rules d.meaning)) r.definitions
  pub rank : List ℕ → ℕ
  pub below : All (λ d. All (λ name. rank name < rank d.name) (named_classes d.meaning ++ named_rules d.meaning))
      r.definitions

-- the rule of a condition is one of these
abbrev pub AreAmong : List (List ℕ) → List (List ℕ) → Type 0
AreAmong rules names = All (Contains rules) names

-- an action is defined
pub record AddsAction (n : Numbering) (action : Action) (t u : TableValue) : Type 0 where
  pub named : NamedAction
  pub added : u ≡ record t { definitions = record t.definitions { actions = t.definitions.actions ++ named ∷ [] } }
  pub says : SaysAction n t.definitions action named
  pub asked_for : AreAmong n.rules (asked action.condition)

-- these actions are defined, after t, where none is defined
pub record HaveDefined (n : Numbering) (t u : TableValue) (actions : List Action) : Type 0 where
  pub others : u ≡ record t { definitions = record t.definitions { actions = u.definitions.actions } }
  pub say : SayActions n t.definitions actions u.definitions.actions
  pub asked_for : AreAmong n.rules (flat_map (λ a. asked a.condition) actions)

-- a demand is defined
pub record AddsDemand (n : Numbering) (condition : Condition) (t u : TableValue) : Type 0 where
  pub demand : Demand
  pub added : u ≡ record t { definitions = record t.definitions { demands = t.definitions.demands ++ demand ∷ [] } }
  pub says : SaysDemand n t.definitions condition demand
  pub asked_for : AreAmong n.rules (condition.rule ∷ [])

-- demands are defined, where none is
pub record AddsDemands (n : Numbering) (conditions : List Condition) (t u : TableValue) : Type 0 where
  pub others : u ≡ record t { definitions = record t.definitions { demands = u.definitions.demands } }
  pub say : SayDemands n t.definitions conditions u.definitions.demands
  pub asked_for : AreAmong n.rules (map (λ c. c.rule) conditions)

-- the actions are defined, and those of them that are demands
pub record AddsActions (r : Ruleset) (n : Numbering) (t u : TableValue) : Type 0 where
  pub others : u ≡ record t {
    definitions = record t.definitions { demands = u.definitions.demands; actions = u.definitions.actions };
  }
  pub demands : SayDemands n u.definitions (demanded r.actions) u.definitions.demands
  pub say : SayActions n u.definitions (acting r.actions) u.definitions.actions
  pub asked_for : AreAmong n.rules (flat_map (λ a. asked a.condition) r.actions)

-- the entries are added
pub record AddsEntries (may : ℕ → Bool) (r : Ruleset) (n : Numbering) (t u : TableValue) : Type 0 where
  pub others : u ≡ record t { entries = all_entries may n r.entries }
  pub of_one_type : AreOfOneType may r.entries
  pub asked_for : AreAmong n.rules
      (flat_map (λ e. asked e.condition ++ flat_map (λ v. asked v.condition) e.variants) r.entries)
