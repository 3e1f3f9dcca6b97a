-- What a set and a rule more make of a table.
use Rattle.std.proofs.Common.{◌≡◌, ℕ, List, [], ◌∷◌, ◌++◌, Some, Ok, refl, sym, ap, subst, ◌∙◌}
use Rattle.label_patterns.specs.declared.span.Span.{Span}
use Rattle.label_patterns.specs.Patterns.{Pattern}
use Rattle.ruleset_text.specs.Definition as definition
use Rattle.ruleset_text.specs.Definitions.{Definitions, added, with_definition}
use Rattle.variant_table.specs.Entries.{TableValue}
use Rattle.lgr_table.specs.inner.RuleSteps.{HasOtherRules}
use Rattle.lgr_table.proofs.AddedLemmas.{is-added}

-- ---- nothing else is defined

abbrev with_rules : TableValue → Definitions → TableValue
with_rules t d = record t {
  definitions = record t.definitions { set_names = d.set_names; sets = d.sets; rule_names = d.rule_names; rules = d.rules };
}

pub others-same : (t : TableValue) → HasOtherRules t t
others-same t = refl

pub others-too : (t u v : TableValue) → HasOtherRules t u → HasOtherRules u v → HasOtherRules t v
others-too t u v h k = k ∙ ap (λ x. with_rules x v.definitions) h

-- the table with the definitions that a set, or a rule, was added to
set-others : (t u : TableValue) (name : List ℕ) (set : List Span) → u ≡ record t { definitions = u.definitions }
    → added t.definitions (definition.Set name set) ≡ u.definitions → HasOtherRules t u
set-others t u name set only is =
    only ∙ subst (λ d. record t { definitions = d } ≡ with_rules t d) is refl

rule-others : (t u : TableValue) (name : List ℕ) (p : Pattern) → u ≡ record t { definitions = u.definitions }
    → added t.definitions (definition.Rule name p) ≡ u.definitions → HasOtherRules t u
rule-others t u name p only is =
    only ∙ subst (λ d. record t { definitions = d } ≡ with_rules t d) is refl

pub record AddsTheSet (t u : TableValue) (name : List ℕ) (set : List Span) : Type 0 where
  pub set_names : u.definitions.set_names ≡ t.definitions.set_names ++ name ∷ []
  pub rule_names : u.definitions.rule_names ≡ t.definitions.rule_names
  pub sets : u.definitions.sets ≡ t.definitions.sets ++ set ∷ []
  pub rules : u.definitions.rules ≡ t.definitions.rules
  pub others : HasOtherRules t u

pub record AddsTheRule (t u : TableValue) (name : List ℕ) (p : Pattern) : Type 0 where
  pub set_names : u.definitions.set_names ≡ t.definitions.set_names
  pub rule_names : u.definitions.rule_names ≡ t.definitions.rule_names ++ name ∷ []
  pub sets : u.definitions.sets ≡ t.definitions.sets
  pub rules : u.definitions.rules ≡ t.definitions.rules ++ p ∷ []
  pub others : HasOtherRules t u

pub set-added : (limit : ℕ) (t u : TableValue) (name : List ℕ) (set : List Span) → u ≡ record t { definitions = u.definitions }
    → with_definition limit t.definitions (Some (definition.Set name set)) ≡ Ok u.definitions → AddsTheSet t u name set
set-added limit t u name set only h =
    let is = is-added limit t.definitions u.definitions (definition.Set name set) h in record {
      set_names = ap (λ (d : Definitions). d.set_names) (sym is);
      rule_names = ap (λ (d : Definitions). d.rule_names) (sym is);
      sets = ap (λ (d : Definitions). d.sets) (sym is);
      rules = ap (λ (d : Definitions). d.rules) (sym is);
      others = set-others t u name set only is;
    }

pub rule-added : (limit : ℕ) (t u : TableValue) (name : List ℕ) (p : Pattern) → u ≡ record t { definitions = u.definitions }
    → with_definition limit t.definitions (Some (definition.Rule name p)) ≡ Ok u.definitions → AddsTheRule t u name p
rule-added limit t u name p only h =
    let is = is-added limit t.definitions u.definitions (definition.Rule name p) h in record {
      set_names = ap (λ (d : Definitions). d.set_names) (sym is);
      rule_names = ap (λ (d : Definitions). d.rule_names) (sym is);
      sets = ap (λ (d : Definitions). d.sets) (sym is);
      rules = ap (λ (d : Definitions). d.rules) (sym is);
      others = rule-others t u name p only is;
    }
