-- The sets that rules and demands name are defined.
use Rattle.std.proofs.Common.{◌≡◌, ℕ, List, [], ◌∷◌, ◌++◌, map, length, subst, arith}
use Rattle.std.specs.List.{AllByRecursion}
use Rattle.label_patterns.specs.Matches.{HasItsSets}
use Rattle.label_patterns.specs.Patterns.{Pattern}
use Rattle.ruleset_text.specs.Definition as definition
use Rattle.ruleset_text.specs.Definition.{Definition}
use Rattle.ruleset_text.specs.Definitions.{Demand, Definitions, named}
use Rattle.ruleset_text.specs.WellFormed.{IsDefinition, AreDefinitions}
use Rattle.idn_class.specs.declared.properties.Properties.{Properties}

pub all_after : {X : Type 0} (P : X → Type 0) (xs ys : List X) → AllByRecursion P (xs ++ ys) → AllByRecursion P ys
all_after P [] ys all = all
all_after P (x ∷ xs) ys all = all_after P xs ys all.1

pub all_before : {X : Type 0} (P : X → Type 0) (xs ys : List X) → AllByRecursion P (xs ++ ys) → AllByRecursion P xs
all_before P [] ys all = tt
all_before P (x ∷ xs) ys all = (all.0, all_before P xs ys all.1)

rules_of : (properties : Properties) (sets : List (List ℕ)) (names : List (List ℕ)) (rules : List Pattern) (n : ℕ) → length sets ≡ n → length names ≡ length rules
    → AllByRecursion (IsDefinition properties sets) (named definition.Rule names rules) → AllByRecursion (HasItsSets n) rules
rules_of properties sets [] [] n e same all = tt
rules_of properties sets [] (p ∷ rules) n e same all = absurd (omega (arith, same))
rules_of properties sets (name ∷ names) [] n e same all = tt
rules_of properties sets (name ∷ names) (p ∷ rules) n e same all = (subst (λ k. HasItsSets k p) e all.0.parts.0.known, rules_of properties sets names rules n e (omega (arith, same)) all.1)

demands_of : (properties : Properties) (sets : List (List ℕ)) (demands : List Demand) (n : ℕ) → length sets ≡ n
    → AllByRecursion (IsDefinition properties sets) (map (λ e. definition.Demand e.kind e.pattern) demands) → AllByRecursion (λ e. HasItsSets n e.pattern) demands
demands_of properties sets [] n e all = tt
demands_of properties sets (d ∷ demands) n e all = (subst (λ k. HasItsSets k d.pattern) e all.0.parts.0.known, demands_of properties sets demands n e all.1)

abbrev pub types_in : Definitions → List Definition
types_in d = map definition.VariantType d.types

abbrev sets_in : Definitions → List Definition
sets_in d = named definition.Set d.set_names d.sets

abbrev pub rules_in : Definitions → List Definition
rules_in d = named definition.Rule d.rule_names d.rules

abbrev pub demands_in : Definitions → List Definition
demands_in d = map (λ e. definition.Demand e.kind e.pattern) d.demands

abbrev pub actions_in : Definitions → List Definition
actions_in d = map definition.Action d.actions

pub patterns : (d : Definitions) → AreDefinitions d → AllByRecursion (IsDefinition d.properties d.set_names) (rules_in d ++ (demands_in d ++ actions_in d))
patterns d are =
    all_after (IsDefinition d.properties d.set_names) (sets_in d) (rules_in d ++ (demands_in d ++ actions_in d))
    (all_after (IsDefinition d.properties d.set_names) (types_in d) (sets_in d ++ (rules_in d ++ (demands_in d ++ actions_in d))) are.each)

pub rules_are : (d : Definitions) → AreDefinitions d → AllByRecursion (IsDefinition d.properties d.set_names) (rules_in d)
rules_are d are = all_before (IsDefinition d.properties d.set_names) (rules_in d) (demands_in d ++ actions_in d) (patterns d are)

pub demands_are : (d : Definitions) → AreDefinitions d → AllByRecursion (IsDefinition d.properties d.set_names) (demands_in d)
demands_are d are =
    all_before (IsDefinition d.properties d.set_names) (demands_in d) (actions_in d)
    (all_after (IsDefinition d.properties d.set_names) (rules_in d) (demands_in d ++ actions_in d) (patterns d are))

pub rules_known : (d : Definitions) → AreDefinitions d → AllByRecursion (HasItsSets (length d.sets)) d.rules
rules_known d are = rules_of d.properties d.set_names d.rule_names d.rules (length d.sets) are.named_sets are.named_rules (rules_are d are)

pub demands_known : (d : Definitions) → AreDefinitions d → AllByRecursion (λ e. HasItsSets (length d.sets) e.pattern) d.demands
demands_known d are = demands_of d.properties d.set_names d.demands (length d.sets) are.named_sets (demands_are d are)

pub actions_are : (d : Definitions) → AreDefinitions d → AllByRecursion (IsDefinition d.properties d.set_names) (actions_in d)
actions_are d are =
    all_after (IsDefinition d.properties d.set_names) (demands_in d) (actions_in d)
    (all_after (IsDefinition d.properties d.set_names) (rules_in d) (demands_in d ++ actions_in d) (patterns d are))
