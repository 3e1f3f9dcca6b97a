-- Named rules of a ruleset hold where the patterns of its table do.
use Rattle.std.proofs.Common.{◌≡◌, ◌≢◌, ◌↔◌, ◌⊎◌, inl, inr, ℕ, zero, suc, ◌+◌, ◌<◌, ◌≤◌, Bool, true, false, not, cond, Option, Some, None, List, [], ◌∷◌, ◌++◌, length, get_or, refl, sym, ap, subst, ◌∙◌, arith}
use Rattle.std.specs.Prelude.{AllPairs, bytes_eq, slice_index_or}
use Rattle.std.specs.List.{Contains}
use Rattle.std.specs.Option.{option_map}
use Rattle.std.proofs.lemmas.Bool.{cases_lt, cases_order, or_cases}
use Rattle.std.proofs.lemmas.List.{get_or_default, get_or_past}
use Rattle.std.proofs.lemmas.Slice.Eq.{bytes_eq-Decides}
use Rattle.label_patterns.specs.declared.condition.ConditionKind.{ConditionKind}
use Rattle.label_patterns.specs.declared.condition.ConditionKind.TheVariants.{Unless, When}
use Rattle.label_patterns.specs.Conditions.{IsAsked, rule_at}
use Rattle.label_patterns.specs.Laws.{seen}
use Rattle.label_patterns.specs.Patterns.{Anchor, Group, Pattern}
use Rattle.label_patterns.specs.Rules.{Holds, HoldsAs, Occurs, is_context_rule}
use Rattle.label_patterns.specs.Tests.{occurs_in}
use Rattle.label_patterns.proofs.TestLemmas.{occurs-agrees}
use Rattle.idn_class.specs.declared.properties.Properties.{Properties}
use Rattle.ruleset_text.specs.Signs as sign
use Rattle.ruleset_text.specs.Actions.{knows_rule}
use Rattle.ruleset_text.specs.Definitions.{type_names, whole_names, whole_rules}
use Rattle.ruleset_text.specs.Names.{AreNames, is_name, is_one_of, number_of}
use Rattle.ruleset_text.specs.Rules.{has}
use Rattle.ruleset_text.specs.WellFormed.{AreDefinitions}
use Rattle.ruleset_text.specs.declared.named_condition.NamedCondition.{NamedCondition}
use Rattle.ruleset_text.proofs.FormLemmas.{whole_rule}
use Rattle.variant_dispositions.specs.Actions.{is_as_asked, meets}
use Rattle.variant_table.specs.Entries.{TableValue}
use Rattle.variant_table.specs.Forms.{numbered}
use Rattle.variant_table.specs.Segmentations.{seen_under}
use Rattle.variant_table.proofs.NumberLemmas.{is_name-at, names-after, number_back}
use Rattle.valid_labels.specs.Actions.{matches_rule}
use Rattle.lgr_text.specs.Labels.{ConditionHolds, NamedRuleHolds}
use Rattle.lgr_text.specs.Meanings.{Meanings, RuleHolds}
use Rattle.lgr_text.specs.Names.{HasItsNames}
use Rattle.lgr_text.specs.Records.{Condition, Definition, IsRule, Meaning, Part, Ruleset}
use Rattle.lgr_table.specs.Numbers.{Numbering}
use Rattle.lgr_table.specs.Tables.{IsOfSources, Says, called_condition}

-- ---- one definition of a name

-- two things in a list, none of which stands twice by their names, are one if they have the same name
one-of-name : (definitions : List Definition) (d e : Definition) → AllPairs (λ a b. a.name ≢ b.name) definitions → Contains definitions d → Contains definitions e → d.name ≡ e.name → d ≡ e
one-of-name definitions d e once c k same =
    let at : get_or definitions k.0 d ≡ e = get_or_default definitions k.0 d e k.1 ∙ k.2 in
    elim (cases_order c.0 k.0) [
      | inl one ↦ sym c.2 ∙ ap (λ (i : ℕ). get_or definitions i d) one ∙ at
      | inr other ↦ elim other [
        | inl less ↦ absurd (once c.0 k.0 d less k.1 (ap (λ (x : Definition). x.name) c.2 ∙ same ∙ sym (ap (λ (x : Definition). x.name) at)))
        | inr more ↦ absurd (once k.0 c.0 d more c.1 (ap (λ (x : Definition). x.name) at ∙ sym same ∙ sym (ap (λ (x : Definition). x.name) c.2)))
      ]
    ]

-- a name has one rule
pub one-rule : (r : Ruleset) (names : HasItsNames r) (name : List ℕ) (a b : Part) → Contains r.definitions (record { name = name; meaning = IsRule a }) → Contains r.definitions (record { name = name; meaning = IsRule b }) → a ≡ b
one-rule r names name a b c k =
    let first : Definition = record { name = name; meaning = IsRule a } in
    let other : Definition = record { name = name; meaning = IsRule b } in
    same (ap (λ (x : Definition). x.meaning) (one-of-name r.definitions first other names.once c k refl))
  where
    same : (let m : Meaning = IsRule a in m) ≡ IsRule b → a ≡ b
    same e = cc

-- the name at the number
pub name-there : (names : List (List ℕ)) (name : List ℕ) → number_of names name < length names → slice_index_or names (number_of names name) [] ≡ name
unfolding number_of
name-there [] name less = absurd (omega (arith, less))
name-there (x ∷ names) name less = by (bytes_eq x name) refl less (name-there names name)
  where
    by : (b : Bool) → bytes_eq x name ≡ b → cond (not b) (1 + number_of names name) 0 < suc (length names)
        → (number_of names name < length names → slice_index_or names (number_of names name) [] ≡ name)
        → slice_index_or (x ∷ names) (cond (not b) (1 + number_of names name) 0) [] ≡ name
    by true e less rest = (bytes_eq-Decides x name).0 e
    by false e less rest =
        let next : 1 + number_of names name ≡ suc (number_of names name) = omega arith in
        ap (λ (k : ℕ). slice_index_or (x ∷ names) k []) next ∙ rest (omega (arith, less))

-- ---- whole-label rules

-- the pattern of the rule of this name
abbrev pub pattern_of : Numbering → TableValue → List ℕ → Pattern
pattern_of n t name = slice_index_or t.definitions.rules (number_of n.rules name) Anchor

-- the table has the rule, and it is no context rule
pub record IsWhole (n : Numbering) (t : TableValue) (name : List ℕ) : Type 0 where
  pub there : number_of n.rules name < length n.rules
  pub whole : is_context_rule (pattern_of n t name) ≡ false

-- a name of a whole-label rule is that of a rule which is none of the others
whole-at : (names : List (List ℕ)) (rules : List Pattern) (name : List ℕ) → is_one_of (whole_names names rules) name ≡ true
    → (j : ℕ) × (j < length names) × (slice_index_or names j [] ≡ name) × (is_context_rule (slice_index_or rules j Anchor) ≡ false)
whole-at [] rules name h = absurd (let clash : false ≡ true = h in cc)
whole-at (x ∷ names) [] name h = absurd (let clash : false ≡ true = h in cc)
whole-at (x ∷ names) (p ∷ rules) name h = by (is_context_rule p) refl h (whole-at names rules name)
  where
    by : (b : Bool) → is_context_rule p ≡ b → is_one_of (cond b (whole_names names rules) (x ∷ whole_names names rules)) name ≡ true
        → (is_one_of (whole_names names rules) name ≡ true → (j : ℕ) × (j < length names) × (slice_index_or names j [] ≡ name) × (is_context_rule (slice_index_or rules j Anchor) ≡ false))
        → (j : ℕ) × (j < length (x ∷ names)) × (slice_index_or (x ∷ names) j [] ≡ name) × (is_context_rule (slice_index_or (p ∷ rules) j Anchor) ≡ false)
    by true e g rest = (let f = rest g in (suc f.0, (let less = f.1 in omega (arith, less)), f.2, f.3))
    by false e g rest = elim (or_cases (bytes_eq x name) (is_one_of (whole_names names rules) name) g) [
      | inl here ↦ (zero, omega arith, (bytes_eq-Decides x name).0 here, e)
      | inr later ↦ (let f = rest later in (suc f.0, (let less = f.1 in omega (arith, less)), f.2, f.3))
    ]

module _ (properties : Properties) (r : Ruleset) (m : Meanings) (n : Numbering) (t : TableValue) (names : HasItsNames r) (says : Says properties r m n t) where
  abbrev rules : List Pattern
  rules = t.definitions.rules

  are : AreDefinitions t.definitions
  are = says.well_formed.without_fault

  rule-names : AreNames t.definitions.rule_names
  rule-names = names-after t.definitions.set_names t.definitions.rule_names (names-after (type_names t.definitions) (t.definitions.set_names ++ t.definitions.rule_names) are.names)

  names-count : length t.definitions.rule_names ≡ length n.rules
  names-count = are.named_rules ∙ says.defines.rules

  -- a rule holds where its pattern does
  pub rule-alike : (name v : List ℕ) (i j : ℕ) → IsOfSources t.entries v → number_of n.rules name < length n.rules → i ≤ length v → j ≤ length v
      → NamedRuleHolds r m name v i j ↔ Holds (seen t.definitions.sets v) (pattern_of n t name) i j
  rule-alike name v i j of less l k =
      let said = says.say_rules (number_of n.rules name) less in
      let its : Contains r.definitions (record { name = name; meaning = IsRule said.0 }) =
      subst (λ (x : List ℕ). Contains r.definitions (record { name = x; meaning = IsRule said.0 })) (name-there n.rules name less) said.1 in
      let alike = said.2 v i j of l k in (
        λ h. alike.1 (subst (λ (rule : Part). RuleHolds m rule v i j) (one-rule r names name h.0 said.0 h.1 its) h.2),
        λ h. (said.0, its, alike.0 h),
      )

  pub whole-occurs : (name v : List ℕ) → IsOfSources t.entries v → IsWhole n t name
      → NamedRuleHolds r m name v 0 (length v) ↔ Occurs (seen_under t v) (pattern_of n t name)
  whole-occurs name v of is =
      let alike = rule-alike name v 0 (length v) of is.there (omega arith) (omega arith) in
      let p : Pattern = pattern_of n t name in (
        λ h. subst (λ (b : Bool). HoldsAs b (seen_under t v) p 0 (length v)) is.whole (alike.0 h),
        λ h. alike.1 (subst (λ (b : Bool). HoldsAs b (seen_under t v) p 0 (length v)) (sym is.whole) h),
      )

  -- a whole-label rule holds where the table tests that it does
  pub whole-alike : (name v : List ℕ) → IsOfSources t.entries v → IsWhole n t name
      → NamedRuleHolds r m name v 0 (length v) ↔ (matches_rule t v (number_of n.rules name) ≡ true)
  whole-alike name v of is =
      let occurs = whole-occurs name v of is in
      let k : ℕ = number_of n.rules name in
      let less : k < length rules = (let there = is.there in let count = says.defines.rules in omega (arith, there, count)) in
      let same : rule_at rules k ≡ pattern_of n t name = get_or_default rules k (Group Anchor) Anchor less in
      let tested = occurs-agrees (seen_under t v) (pattern_of n t name) in (
        λ h. ap (occurs_in (seen_under t v)) same ∙ tested.1 (occurs.0 h),
        λ e. occurs.1 (tested.0 (sym (ap (occurs_in (seen_under t v)) same) ∙ e)),
      )

  asked-alike : (kind : ConditionKind) (H : Type 0) (b : Bool) → H ↔ (b ≡ true) → IsAsked kind H ↔ (is_as_asked kind b ≡ true)
  asked-alike When H b is = is
  asked-alike Unless H true is = (λ none. absurd (none (is.1 refl)), λ e. absurd (let clash : false ≡ true = e in cc))
  asked-alike Unless H false is = (λ none. refl, λ e h. (let clash : false ≡ true = is.0 h in cc))

  asked-or-not : (kind : ConditionKind) (H : Type 0) (b : Bool) → H ↔ (b ≡ true) → IsAsked kind H ⊎ (IsAsked kind H → ⊥)
  asked-or-not kind H b is = by (is_as_asked kind b) (asked-alike kind H b is)
    where
      by : (c : Bool) → IsAsked kind H ↔ (c ≡ true) → IsAsked kind H ⊎ (IsAsked kind H → ⊥)
      by true told = inl (told.1 refl)
      by false told = inr (λ h. (let clash : false ≡ true = told.0 h in cc))

  -- a condition of a whole-label rule
  pub condition-alike : (c : Condition) (v : List ℕ) → IsOfSources t.entries v → IsWhole n t c.rule
      → ConditionHolds r m v (Some c) 0 (length v) ↔ (is_as_asked c.kind (matches_rule t v (number_of n.rules c.rule)) ≡ true)
  condition-alike c v of is =
      asked-alike c.kind (NamedRuleHolds r m c.rule v 0 (length v)) (matches_rule t v (number_of n.rules c.rule)) (whole-alike c.rule v of is)

  pub condition-or-not : (c : Condition) (v : List ℕ) → IsOfSources t.entries v → IsWhole n t c.rule
      → ConditionHolds r m v (Some c) 0 (length v) ⊎ (ConditionHolds r m v (Some c) 0 (length v) → ⊥)
  condition-or-not c v of is =
      asked-or-not c.kind (NamedRuleHolds r m c.rule v 0 (length v)) (matches_rule t v (number_of n.rules c.rule)) (whole-alike c.rule v of is)

  -- ---- the rules of actions

  -- what an action of the table calls is a whole-label rule, and has its number
  called-whole : (name : List ℕ) → is_one_of (whole_rules t.definitions) (slice_index_or t.definitions.rule_names (number_of n.rules name) []) ≡ true → IsWhole n t name
  called-whole name h = by (cases_lt k (length t.definitions.rule_names))
    where
      k : ℕ
      k = number_of n.rules name

      found : (j : ℕ) × (j < length t.definitions.rule_names) × (slice_index_or t.definitions.rule_names j [] ≡ slice_index_or t.definitions.rule_names (number_of n.rules name) []) × (is_context_rule (slice_index_or rules j Anchor) ≡ false)
      found = whole-at t.definitions.rule_names rules (slice_index_or t.definitions.rule_names (number_of n.rules name) []) h

      by : (number_of n.rules name < length t.definitions.rule_names) ⊎ (length t.definitions.rule_names ≤ number_of n.rules name) → IsWhole n t name
      by (inl less) =
          let same : found.0 ≡ number_of n.rules name =
          sym (number_back t.definitions.rule_names found.0 rule-names found.1)
          ∙ ap (number_of t.definitions.rule_names) found.2 ∙ number_back t.definitions.rule_names (number_of n.rules name) rule-names less in
          record {
            there = (let count = names-count in omega (arith, less, count));
            whole = subst (λ (i : ℕ). is_context_rule (slice_index_or rules i Anchor) ≡ false) same found.3;
          }
      by (inr past) =
          let none : slice_index_or t.definitions.rule_names (number_of n.rules name) [] ≡ [] = get_or_past t.definitions.rule_names (number_of n.rules name) [] past in
          let clash : false ≡ true = sym (ap is_name (found.2 ∙ none)) ∙ is_name-at t.definitions.rule_names found.0 rule-names found.1 in
          absurd (cc)

  pub action-whole : (c : Condition) (condition : Option NamedCondition) → condition ≡ Some (called_condition n t.definitions c) → knows_rule (whole_rules t.definitions) condition ≡ true → IsWhole n t c.rule
  action-whole c condition is h = called-whole c.rule (subst (λ (o : Option NamedCondition). knows_rule (whole_rules t.definitions) o ≡ true) is h)

  called-number : (name : List ℕ) → IsWhole n t name → number_of t.definitions.rule_names (slice_index_or t.definitions.rule_names (number_of n.rules name) []) ≡ number_of n.rules name
  called-number name is =
      number_back t.definitions.rule_names (number_of n.rules name) rule-names (let there = is.there in let count = names-count in omega (arith, there, count))

  -- the condition of an action of both
  pub meets-alike : (condition : Option Condition) (named : Option NamedCondition) (v : List ℕ) → IsOfSources t.entries v → named ≡ option_map (called_condition n t.definitions) condition
      → knows_rule (whole_rules t.definitions) named ≡ true
      → ConditionHolds r m v condition 0 (length v) ↔ (meets (matches_rule t v) (option_map (numbered t.definitions) named) ≡ true)
  meets-alike None named v of is known =
      (λ h. ap (λ (o : Option NamedCondition). meets (matches_rule t v) (option_map (numbered t.definitions) o)) is, λ e. tt)
  meets-alike (Some c) named v of is known =
      let whole = action-whole c named is known in
      let alike = condition-alike c v of whole in
      let same : meets (matches_rule t v) (option_map (numbered t.definitions) named) ≡ is_as_asked c.kind (matches_rule t v (number_of n.rules c.rule)) =
      ap (λ (o : Option NamedCondition). meets (matches_rule t v) (option_map (numbered t.definitions) o)) is
      ∙ ap (λ (k : ℕ). is_as_asked c.kind (matches_rule t v k)) (called-number c.rule whole) in
      (λ h. same ∙ alike.0 h, λ e. alike.1 (sym same ∙ e))

  -- ---- the rules of demands

  pub demand-whole : (c : Condition) (pattern : Pattern) → pattern ≡ pattern_of n t c.rule → has sign.Anchor pattern ≡ false → IsWhole n t c.rule
  demand-whole c pattern is none = by (cases_lt (number_of n.rules c.rule) (length n.rules))
    where
      by : (number_of n.rules c.rule < length n.rules) ⊎ (length n.rules ≤ number_of n.rules c.rule) → IsWhole n t c.rule
      by (inl less) = record { there = less; whole = subst (λ (p : Pattern). is_context_rule p ≡ false) is (whole_rule pattern none) }
      by (inr past) =
          let all : length rules ≤ number_of n.rules c.rule = (let count = says.defines.rules in omega (arith, past, count)) in
          let anchor : pattern ≡ Anchor = is ∙ get_or_past rules (number_of n.rules c.rule) Anchor all in
          let clash : true ≡ false = sym (ap (has sign.Anchor) anchor) ∙ none in
          absurd (cc)
