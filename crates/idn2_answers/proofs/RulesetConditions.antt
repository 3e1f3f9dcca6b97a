-- Where a rule of a ruleset holds, that of its table does; and so conditions hold alike.
use Rattle.std.proofs.Common.{◌≡◌, ℕ, ◌<◌, ◌≤◌, ◌↔◌, inl, inr, Option, Some, None, List, length, refl, sym, ap, subst, ◌∙◌, get_or, arith}
use Rattle.std.specs.Prelude.{slice_index_or}
use Rattle.std.specs.List.{Contains}
use Rattle.std.specs.Option.{option_map}
use Rattle.std.proofs.lemmas.Bool.{cases_lt}
use Rattle.std.proofs.lemmas.List.{get_or_default}
use Rattle.label_patterns.specs.declared.condition.ConditionKind.{ConditionKind}
use Rattle.label_patterns.specs.declared.condition.ConditionKind.TheVariants.{Unless, When}
use Rattle.label_patterns.specs.Conditions.{ConditionHolds, IsAsked}
use Rattle.label_patterns.specs.Patterns.{Anchor, Group, Pattern}
use Rattle.label_patterns.specs.Rules.{Holds}
use Rattle.lgr_text.specs.Labels as lgr
use Rattle.lgr_text.specs.Labels.{NamedRuleHolds}
use Rattle.lgr_text.specs.Meanings.{Meanings, RuleHolds}
use Rattle.lgr_text.specs.Names.{HasItsNames}
use Rattle.lgr_text.specs.Records.{Condition, Definition, IsRule, Part, Ruleset}
use Rattle.lgr_table.specs.Numbers.{Numbering, numbered_condition}
use Rattle.lgr_table.specs.Tables.{IsOfSources, SayRules}
use Rattle.lgr_table.proofs.NumberLemmas.{name-there}
use Rattle.ruleset_text.specs.Names.{number_of}
use Rattle.variant_table.specs.Entries.{TableValue}
use Rattle.variant_table.specs.Segmentations.{seen_under}

abbrev pub rule_defined : List ℕ → Part → Definition
rule_defined name rule = record { name = name; meaning = IsRule rule }

-- a name is that of one rule
module _ (r : Ruleset) (names : HasItsNames r) where
  apart : (i j : ℕ) (x y : Definition) → i < j → j < length r.definitions → get_or r.definitions i x ≡ x → get_or r.definitions j y ≡ y → x.name ≡ y.name → ⊥
  apart i j x y before less at_i at_j same =
      names.once i j x before less
      (ap (λ (d : Definition). d.name) at_i ∙ same ∙ sym (ap (λ (d : Definition). d.name) (get_or_default r.definitions j x y less ∙ at_j)))

  pub one-rule : (name : List ℕ) (p q : Part) → Contains r.definitions (rule_defined name p) → Contains r.definitions (rule_defined name q) → p ≡ q
  one-rule name p q a b =
      let x = rule_defined name p in
      let y = rule_defined name q in
      elim (cases_lt a.0 b.0) [
        | inl before ↦ absurd (apart a.0 b.0 x y before b.1 a.2 b.2 refl)
        | inr from ↦ elim (cases_lt b.0 a.0) [
          | inl after ↦ absurd (apart b.0 a.0 y x after a.1 b.2 a.2 refl)
          | inr upto ↦
              let at : a.0 ≡ b.0 = omega (arith, from, upto) in
              let same : x ≡ y = sym a.2 ∙ get_or_default r.definitions a.0 x y a.1 ∙ ap (λ k. get_or r.definitions k y) at ∙ b.2 in
              let meant : IsRule p ≡ IsRule q = ap (λ (d : Definition). d.meaning) same in
              cc
        ]
      ]

-- a condition asks alike of what holds alike
pub asked-alike : (kind : ConditionKind) (A B : Type 0) → A ↔ B → IsAsked kind A ↔ IsAsked kind B
asked-alike When A B alike = alike
asked-alike Unless A B alike = (λ not_a b. not_a (alike.1 b), λ not_b a. not_b (alike.0 a))

module _ (r : Ruleset) (m : Meanings) (n : Numbering) (t : TableValue) (names : HasItsNames r) (say : SayRules r m n t)
    (count : length t.definitions.rules ≡ length n.rules) where
  -- the table has the rule
  abbrev pub HasRule : List ℕ → Type 0
  HasRule name = number_of n.rules name < length n.rules

  abbrev pub HasItsRule : Option Condition → Type 0
  HasItsRule None = Unit {0}
  HasItsRule (Some c) = HasRule c.rule

  abbrev pub pattern_of : List ℕ → Pattern
  pattern_of name = slice_index_or t.definitions.rules (number_of n.rules name) Anchor

  module _ (label : List ℕ) (made : IsOfSources t.entries label) (i j : ℕ) (i_in : i ≤ length label) (j_in : j ≤ length label) where
    pub named-holds : (name : List ℕ) → HasRule name → Holds (seen_under t label) (pattern_of name) i j ↔ NamedRuleHolds r m name label i j
    named-holds name there =
        let said = say (number_of n.rules name) there in
        let its : Contains r.definitions (rule_defined name said.0) =
        subst (λ (x : List ℕ). Contains r.definitions (rule_defined x said.0)) (name-there n.rules name there) said.1 in
        let alike = said.2 label i j made i_in j_in in (
          λ h. (said.0, its, alike.0 h),
          λ h. alike.1 (subst (λ (p : Part). RuleHolds m p label i j) (one-rule r names name h.0 said.0 h.1 its) h.2),
        )

    pub condition-holds : (c : Option Condition) → HasItsRule c
        → ConditionHolds t.definitions.rules (seen_under t label) (option_map (numbered_condition n) c) i j ↔ lgr.ConditionHolds r m label c i j
    condition-holds None there = (λ h. tt, λ h. tt)
    condition-holds (Some c) there =
        let k = number_of n.rules c.rule in
        let same : slice_index_or t.definitions.rules k Anchor ≡ slice_index_or t.definitions.rules k (Group Anchor) =
        get_or_default t.definitions.rules k Anchor (Group Anchor) (omega (arith, there, count)) in
        let alike = named-holds c.rule there in
        asked-alike c.kind (Holds (seen_under t label) (slice_index_or t.definitions.rules k (Group Anchor)) i j) (NamedRuleHolds r m c.rule label i j)
        (subst (λ (p : Pattern). Holds (seen_under t label) p i j ↔ NamedRuleHolds r m c.rule label i j) same alike)
