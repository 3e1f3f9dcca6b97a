-- The demands of a table are those of its ruleset; and what disposition labels have in both.
use Rattle.std.proofs.Common.{◌≡◌, ◌≢◌, ◌↔◌, ◌⊎◌, inl, inr, ℕ, Bool, true, false, not, cond, Option, Some, None, List, [], ◌∷◌, ◌++◌, length, map, refl, sym, ap, subst, ◌∙◌}
use Rattle.std.specs.Prelude.{bytes_eq, codes, filter, filter_map, is_some, unwrap_or}
use Rattle.std.specs.List.{AllByRecursion, Contains, cons_option, list_any}
use Rattle.std.specs.Option.{option_map}
use Rattle.std.proofs.lemmas.Bool.{and_parts}
use Rattle.std.proofs.lemmas.List.Elements.{Contains-append_cases, Contains-append_left, Contains-append_right}
use Rattle.std.proofs.lemmas.Option.{same_Some}
use Rattle.std.proofs.lemmas.Slice.Eq.{bytes_eq-Decides}
use Rattle.reading_kinds.proofs.ListMembers.{Contains-cases, Contains-filter, Contains-head, Contains-later, Contains-none}
use Rattle.label_patterns.specs.declared.condition.ConditionKind.{ConditionKind}
use Rattle.label_patterns.specs.declared.condition.ConditionKind.TheVariants.{Unless, When}
use Rattle.label_patterns.specs.Conditions.{IsAsked}
use Rattle.label_patterns.specs.Patterns.{Pattern}
use Rattle.label_patterns.specs.Rules.{Occurs}
use Rattle.label_patterns.specs.Tests.{occurs_in}
use Rattle.label_patterns.proofs.TestLemmas.{occurs-agrees}
use Rattle.variant_dispositions.specs.declared.disposition.Disposition.{Disposition}
use Rattle.variant_dispositions.specs.declared.disposition.Disposition.TheVariants.{Activated, Allocatable, Blocked, Invalid, Valid}
use Rattle.variant_dispositions.specs.Actions as of_table
use Rattle.variant_dispositions.specs.Actions.{is_allocatable, is_triggered}
use Rattle.variant_dispositions.specs.Kinds.{Kind}
use Rattle.variant_dispositions.proofs.MemberLemmas.{any-told}
use Rattle.idn_class.specs.declared.properties.Properties.{Properties}
use Rattle.ruleset_text.specs.Signs as sign
use Rattle.ruleset_text.specs.Actions.{NamedAction, disposition_word, knows_action, knows_rule, knows_types}
use Rattle.ruleset_text.specs.ActionSteps.{disposition_of}
use Rattle.ruleset_text.specs.Definition as definition
use Rattle.ruleset_text.specs.Definitions.{Definitions, Demand, type_names, whole_rules}
use Rattle.ruleset_text.specs.declared.action.TriggerKind.TheVariants as ask
use Rattle.ruleset_text.specs.declared.definition.DemandKind.{DemandKind}
use Rattle.ruleset_text.specs.Rules.{has}
use Rattle.ruleset_text.specs.WellFormed.{IsDefinition}
use Rattle.ruleset_text.proofs.KnownPatternLemmas.{demands_are}
use Rattle.variant_table.specs.Entries.{TableValue}
use Rattle.variant_table.specs.Segmentations.{seen_under}
use Rattle.valid_labels.specs.Actions.{action_of, matches_rule}
use Rattle.valid_labels.specs.Demands.{IsMet, IsWanted, MeetsDemands}
use Rattle.valid_labels.specs.Dispositions.{disposition_by}
use Rattle.lgr_text.specs.Demands.{demanded, following, leading, makes_invalid, rule_alone}
use Rattle.lgr_text.specs.Dispositions as of_file
use Rattle.lgr_text.specs.Dispositions.{BreaksDemand, IsDispositionOf, IsOfFirst, IsTriggered, asking, has_asked, may_be_had}
use Rattle.lgr_text.specs.Labels.{ConditionHolds, NamedRuleHolds}
use Rattle.lgr_text.specs.Meanings.{Meanings}
use Rattle.lgr_text.specs.Names.{HasItsNames}
use Rattle.lgr_text.specs.Readings.{Recorded}
use Rattle.lgr_text.specs.Records.{Action, Condition, Ruleset, Trigger}
use Rattle.lgr_table.specs.Numbers.{Numbering}
use Rattle.lgr_table.specs.Tables.{IsOfSources, SayActions, SayDemands, Says, SaysAction, SaysDemand, acting, called_condition, demand_kind}
use Rattle.idn2_answers.proofs.RulesetActions.{IsToldAs, actions-alike, all-activated, default-told}
use Rattle.idn2_answers.proofs.RulesetFirsts.{first-append, first-kept, first-told, one-first, same-first, some-first}
use Rattle.idn2_answers.proofs.RulesetRules.{IsWhole, action-whole, condition-or-not, demand-whole, pattern_of, whole-occurs}
use Rattle.idn2_answers.proofs.RulesetTypes.{AreNumbered, AreSeenAlike, SameKinds}

-- ---- lists

Contains-filter_map : {X Y : Type 0} (f : X → Option Y) (xs : List X) (y : Y) → Contains (filter_map f xs) y ↔ ((x : X) × Contains xs x × (f x ≡ Some y))
Contains-filter_map f [] y = (λ c. absurd (Contains-none y c), λ g. absurd (Contains-none g.0 g.1))
Contains-filter_map {X} {Y} f (x ∷ xs) y = by (f x) refl (Contains-filter_map f xs y)
  where
    first : (o : Option Y) → f x ≡ o → (x' : X) → x ≡ x' → f x' ≡ Some y → o ≡ Some y
    first o e x' same is = sym e ∙ ap f same ∙ is

    by : (o : Option Y) → f x ≡ o → Contains (filter_map f xs) y ↔ ((x : X) × Contains xs x × (f x ≡ Some y))
        → Contains (cons_option o (filter_map f xs)) y ↔ ((z : X) × Contains (x ∷ xs) z × (f z ≡ Some y))
    by None e rest = (
      λ c. (let g = rest.0 c in (g.0, Contains-later x xs g.0 g.1, g.2)),
      λ g. elim (Contains-cases x xs g.0 g.1) [
        | inl same ↦ absurd (let clash : None ≡ Some y = first None e g.0 same g.2 in cc)
        | inr later ↦ rest.1 (g.0, later, g.2)
      ],
    )
    by (Some z) e rest = (
      λ c. elim (Contains-cases z (filter_map f xs) y c) [
        | inl same ↦ (x, Contains-head x xs, e ∙ ap (λ (w : Y). Some w) same)
        | inr later ↦ (let g = rest.0 later in (g.0, Contains-later x xs g.0 g.1, g.2))
      ],
      λ g. elim (Contains-cases x xs g.0 g.1) [
        | inl same ↦ subst (Contains (z ∷ filter_map f xs)) (same_Some z y (first (Some z) e g.0 same g.2)) (Contains-head z (filter_map f xs))
        | inr later ↦ Contains-later z (filter_map f xs) y (rest.1 (g.0, later, g.2))
      ],
    )

-- those that lead, and those that follow
parts : (actions : List Action) → leading actions ++ following actions ≡ actions
parts [] = refl
parts (a ∷ actions) = by (makes_invalid a) (parts actions)
  where
    by : (b : Bool) → leading actions ++ following actions ≡ actions → cond b (a ∷ leading actions) [] ++ cond b (following actions) (a ∷ actions) ≡ a ∷ actions
    by true e = ap (λ (l : List Action). a ∷ l) e
    by false e = refl

leading-invalid : (actions : List Action) (a : Action) → Contains (leading actions) a → a.disposition ≡ codes "invalid"
leading-invalid [] a c = absurd (Contains-none a c)
leading-invalid (x ∷ actions) a c = by (makes_invalid x) refl c (leading-invalid actions a)
  where
    by : (b : Bool) → makes_invalid x ≡ b → Contains (cond b (x ∷ leading actions) []) a → (Contains (leading actions) a → a.disposition ≡ codes "invalid") → a.disposition ≡ codes "invalid"
    by true e c rest = elim (Contains-cases x (leading actions) a c) [
      | inl same ↦ ap (λ (y : Action). y.disposition) (sym same) ∙ (bytes_eq-Decides x.disposition (codes "invalid")).0 e
      | inr later ↦ rest later
    ]
    by false e c rest = absurd (Contains-none a c)

-- an action that a rule alone triggers
alone-is : (a : Action) (c : Condition) → rule_alone a ≡ Some c → (a.trigger ≡ None) × (a.condition ≡ Some c)
alone-is a c e = by a.trigger a.condition e
  where
    by : (t : Option Trigger) (o : Option Condition) → cond (is_some t) None o ≡ Some c → (t ≡ None) × (o ≡ Some c)
    by None o e = (refl, e)
    by (Some t) o e = absurd (let clash : None ≡ Some c = e in cc)

abbrev others : Action → Bool
others a = not (is_some (rule_alone a))

alone-cases : (a : Action) → ((c : Condition) × (rule_alone a ≡ Some c)) ⊎ (others a ≡ true)
alone-cases a = by (rule_alone a) refl
  where
    by : (o : Option Condition) → rule_alone a ≡ o → ((c : Condition) × (rule_alone a ≡ Some c)) ⊎ (not (is_some o) ≡ true)
    by None e = inr refl
    by (Some c) e = inl (c, e)

-- ---- what is said of each

said-action : (n : Numbering) (d : Definitions) (actions : List Action) (held : List NamedAction) (a : Action) → SayActions n d actions held
    → AllByRecursion (λ (b : NamedAction). knows_action (type_names d) (whole_rules d) b ≡ true) held → Contains actions a
    → (b : NamedAction) × SaysAction n d a b × (knows_action (type_names d) (whole_rules d) b ≡ true)
said-action n d [] [] a said known c = absurd (Contains-none a c)
said-action n d [] (b ∷ held) a said known c = absurd said
said-action n d (x ∷ actions) [] a said known c = absurd said
said-action n d (x ∷ actions) (b ∷ held) a said known c = elim (Contains-cases x actions a c) [
  | inl same ↦ (b, subst (λ (y : Action). SaysAction n d y b) same said.0, known.0)
  | inr later ↦ said-action n d actions held a said.1 known.1 later
]

unanchored : (d : Definitions) (demands : List Demand) → AllByRecursion (IsDefinition d.properties d.set_names) (map (λ (e : Demand). definition.Demand e.kind e.pattern) demands)
    → AllByRecursion (λ (e : Demand). has sign.Anchor e.pattern ≡ false) demands
unanchored d [] all = tt
unanchored d (e ∷ demands) all = (all.0.parts.1, unanchored d demands all.1)

said-demand : (n : Numbering) (d : Definitions) (conditions : List Condition) (demands : List Demand) (c : Condition) → SayDemands n d conditions demands
    → AllByRecursion (λ (e : Demand). has sign.Anchor e.pattern ≡ false) demands → Contains conditions c
    → (e : Demand) × SaysDemand n d c e × (has sign.Anchor e.pattern ≡ false)
said-demand n d [] [] c said none k = absurd (Contains-none c k)
said-demand n d [] (e ∷ demands) c said none k = absurd said
said-demand n d (x ∷ conditions) [] c said none k = absurd said
said-demand n d (x ∷ conditions) (e ∷ demands) c said none k = elim (Contains-cases x conditions c k) [
  | inl same ↦ (e, subst (λ (y : Condition). SaysDemand n d y e) same said.0, none.0)
  | inr later ↦ said-demand n d conditions demands c said.1 none.1 later
]

-- ---- words of dispositions

word-read : (d : Disposition) → disposition_of (disposition_word d) ≡ Some d
word-read Invalid = refl
word-read Blocked = refl
word-read Allocatable = refl
word-read Activated = refl
word-read Valid = refl

pub one-word : (d e : Disposition) → disposition_word d ≡ disposition_word e → d ≡ e
one-word d e same = same_Some d e (sym (word-read d) ∙ ap disposition_of same ∙ word-read e)

had-word : (d : Disposition) → Contains may_be_had (disposition_word d) ↔ (is_allocatable d ≡ true)
had-word d = (λ c. there d c, λ e. back d e)
  where
    no : (d : Disposition) → list_any (λ (x : List ℕ). bytes_eq x (disposition_word d)) may_be_had ≡ false → Contains may_be_had (disposition_word d) → ⊥
    no d e c = let clash : true ≡ false = sym ((any-told (λ (x : List ℕ). bytes_eq x (disposition_word d)) may_be_had).1 (disposition_word d, c, (bytes_eq-Decides (disposition_word d) (disposition_word d)).1 refl)) ∙ e in cc

    there : (d : Disposition) → Contains may_be_had (disposition_word d) → is_allocatable d ≡ true
    there Invalid c = absurd (no Invalid refl c)
    there Blocked c = absurd (no Blocked refl c)
    there Allocatable c = refl
    there Activated c = refl
    there Valid c = refl

    back : (d : Disposition) → is_allocatable d ≡ true → Contains may_be_had (disposition_word d)
    back Invalid e = absurd (let clash : false ≡ true = e in cc)
    back Blocked e = absurd (let clash : false ≡ true = e in cc)
    back Allocatable e = Contains-later (codes "valid") (codes "allocatable" ∷ codes "activated" ∷ []) (codes "allocatable") (Contains-head (codes "allocatable") (codes "activated" ∷ []))
    back Activated e =
        Contains-later (codes "valid") (codes "allocatable" ∷ codes "activated" ∷ []) (codes "activated")
        (Contains-later (codes "allocatable") (codes "activated" ∷ []) (codes "activated") (Contains-head (codes "activated") []))
    back Valid e = Contains-head (codes "valid") (codes "allocatable" ∷ codes "activated" ∷ [])

-- ---- one disposition

-- there is one disposition at most
pub one-disposition : (r : Ruleset) (m : Meanings) (v : List ℕ) (recs : List Recorded) (a b : List ℕ) → IsDispositionOf r m v recs a → IsDispositionOf r m v recs b → a ≡ b
one-disposition r m v recs a b h k =
    let seen : List Recorded = filter of_file.is_predefined recs in
    one-first (IsTriggered r m v recs) (IsOfFirst (IsTriggered r m v seen) of_file.default_actions (λ (none : List ℕ). ⊥)) r.actions a b
    (λ x y. one-first (IsTriggered r m v seen) (λ (none : List ℕ). ⊥) of_file.default_actions x y (λ z w none. absurd none)) h k

-- ---- the demands and the actions of a table

module _ (properties : Properties) (r : Ruleset) (m : Meanings) (n : Numbering) (t : TableValue) (names : HasItsNames r) (says : Says properties r m n t) where
  anchors : AllByRecursion (λ (e : Demand). has sign.Anchor e.pattern ≡ false) t.definitions.demands
  anchors = unanchored t.definitions t.definitions.demands (demands_are t.definitions says.well_formed.without_fault)

  -- a rule that a demand names is a whole-label rule
  pub demanded-whole : (c : Condition) → Contains (demanded r.actions) c → IsWhole n t c.rule
  demanded-whole c k =
      let said = said-demand n t.definitions (demanded r.actions) t.definitions.demands c says.defines.demands anchors k in
      demand-whole properties r m n t names says c said.0.pattern said.1.pattern said.2

  wanted-alike : (kind : ConditionKind) (H O : Type 0) → H ↔ O → O ⊎ (O → ⊥) → IsWanted (demand_kind kind) O ↔ (¬ IsAsked kind H)
  wanted-alike When H O is decided = (λ none h. none (is.0 h), λ none o. none (is.1 o))
  wanted-alike Unless H O is decided = (
    λ o none. none (is.1 o),
    λ none. elim decided [ inl o ↦ o | inr not_so ↦ absurd (none (λ h. not_so (is.0 h))) ],
  )

  occurs-or-not : (v : List ℕ) (p : Pattern) → Occurs (seen_under t v) p ⊎ (Occurs (seen_under t v) p → ⊥)
  occurs-or-not v p = by (occurs_in (seen_under t v) p) (occurs-agrees (seen_under t v) p)
    where
      by : (b : Bool) → (b ≡ true) ↔ Occurs (seen_under t v) p → Occurs (seen_under t v) p ⊎ (Occurs (seen_under t v) p → ⊥)
      by true is = inl (is.0 refl)
      by false is = inr (λ o. (let clash : false ≡ true = is.1 o in cc))

  -- a demand is met where its condition doesn't hold
  demand-met : (v : List ℕ) → IsOfSources t.entries v → (c : Condition) (e : Demand) → SaysDemand n t.definitions c e → has sign.Anchor e.pattern ≡ false
      → IsMet (seen_under t v) e ↔ (¬ ConditionHolds r m v (Some c) 0 (length v))
  demand-met v of c e said none =
      let whole = demand-whole properties r m n t names says c e.pattern said.pattern none in
      let occurs = whole-occurs properties r m n t names says c.rule v of whole in
      let alike = wanted-alike c.kind (NamedRuleHolds r m c.rule v 0 (length v)) (Occurs (seen_under t v) (pattern_of n t c.rule)) occurs (occurs-or-not v (pattern_of n t c.rule)) in
      let met : (IsMet (seen_under t v) e) ≡ (IsWanted (demand_kind c.kind) (Occurs (seen_under t v) (pattern_of n t c.rule))) =
      ap (λ (k : DemandKind). IsWanted k (Occurs (seen_under t v) e.pattern)) said.kind
      ∙ ap (λ (p : Pattern). IsWanted (demand_kind c.kind) (Occurs (seen_under t v) p)) said.pattern in (
        λ h. alike.0 (subst (λ (T : Type 0). T) met h),
        λ h. subst (λ (T : Type 0). T) (sym met) (alike.1 h),
      )

  demands-met : (v : List ℕ) → IsOfSources t.entries v → (conditions : List Condition) (demands : List Demand) → SayDemands n t.definitions conditions demands
      → AllByRecursion (λ (e : Demand). has sign.Anchor e.pattern ≡ false) demands
      → AllByRecursion (IsMet (seen_under t v)) demands ↔ ((c : Condition) → Contains conditions c → ¬ ConditionHolds r m v (Some c) 0 (length v))
  demands-met v of [] [] said none = (λ h c k. absurd (Contains-none c k), λ h. tt)
  demands-met v of [] (e ∷ demands) said none = absurd said
  demands-met v of (c ∷ conditions) [] said none = absurd said
  demands-met v of (c ∷ conditions) (e ∷ demands) said none =
      let first = demand-met v of c e said.0 none.0 in
      let rest = demands-met v of conditions demands said.1 none.1 in (
        λ h x k. elim (Contains-cases c conditions x k) [
          | inl same ↦ subst (λ (y : Condition). ¬ ConditionHolds r m v (Some y) 0 (length v)) same (first.0 h.0)
          | inr later ↦ rest.0 h.1 x later
        ],
        λ h. (first.1 (h c (Contains-head c conditions)), rest.1 (λ x k. h x (Contains-later c conditions x k))),
      )

  -- a label meets the demands of the table exactly if it breaks none of the ruleset
  pub demands-alike : (v : List ℕ) → IsOfSources t.entries v → MeetsDemands t v ↔ (¬ BreaksDemand r m v)
  demands-alike v of =
      let all = demands-met v of (demanded r.actions) t.definitions.demands says.defines.demands anchors in (
        λ h broken. all.0 h broken.0 broken.1 broken.2,
        λ none. all.1 (λ c k h. none (c, k, h)),
      )

  -- ---- actions

  acting-of : (a : Action) → Contains (acting r.actions) a → Contains r.actions a
  acting-of a c =
      subst (λ (l : List Action). Contains l a) (parts r.actions) (elim (Contains-append_cases (filter others (leading r.actions)) (following r.actions) a c) [
        | inl first ↦ Contains-append_left (leading r.actions) (following r.actions) a ((Contains-filter others (leading r.actions) a).0 first).0
        | inr later ↦ Contains-append_right (leading r.actions) (following r.actions) a later
      ])

  acting-whole : (a : Action) → Contains (acting r.actions) a → (c : Condition) → a.condition ≡ Some c → IsWhole n t c.rule
  acting-whole a k c is =
      let said = said-action n t.definitions (acting r.actions) t.definitions.actions a says.defines.actions says.well_formed.without_fault.known k in
      let knows = and_parts (knows_rule (whole_rules t.definitions) said.0.condition) (knows_types (type_names t.definitions) said.0.trigger) said.2 in
      action-whole properties r m n t names says c said.0.condition (said.1.condition ∙ ap (option_map (called_condition n t.definitions)) is) knows.0

  -- the rule of each action is a whole-label rule
  pub asked-whole : (a : Action) → Contains r.actions a → (c : Condition) → a.condition ≡ Some c → IsWhole n t c.rule
  asked-whole a k c is = elim (Contains-append_cases (leading r.actions) (following r.actions) a (subst (λ (l : List Action). Contains l a) (sym (parts r.actions)) k)) [
    | inl first ↦ elim (alone-cases a) [
      | inl alone ↦ (let same : alone.0 ≡ c = same_Some alone.0 c (sym (alone-is a alone.0 alone.1).1 ∙ is) in
          subst (λ (x : Condition). IsWhole n t x.rule) same
          (demanded-whole alone.0 ((Contains-filter_map rule_alone (leading r.actions) alone.0).1 (a, first, alone.1))))
      | inr other ↦ acting-whole a (Contains-append_left (filter others (leading r.actions)) (following r.actions) a ((Contains-filter others (leading r.actions) a).1 (first, other))) c is
    ]
    | inr later ↦ acting-whole a (Contains-append_right (filter others (leading r.actions)) (following r.actions) a later) c is
  ]

  -- an action is triggered or isn't
  pub triggered-or-not : (v : List ℕ) (recs : List Recorded) → IsOfSources t.entries v → (a : Action) → Contains r.actions a → IsTriggered r m v recs a ⊎ (IsTriggered r m v recs a → ⊥)
  triggered-or-not v recs of a k = by (has_asked a.trigger recs) refl (holds a.condition refl)
    where
      holds : (o : Option Condition) → a.condition ≡ o → ConditionHolds r m v o 0 (length v) ⊎ (ConditionHolds r m v o 0 (length v) → ⊥)
      holds None is = inl tt
      holds (Some c) is = condition-or-not properties r m n t names says c v of (asked-whole a k c is)

      by : (b : Bool) → has_asked a.trigger recs ≡ b → ConditionHolds r m v a.condition 0 (length v) ⊎ (ConditionHolds r m v a.condition 0 (length v) → ⊥)
          → IsTriggered r m v recs a ⊎ (IsTriggered r m v recs a → ⊥)
      by false e decided = inr (λ h. (let clash : true ≡ false = sym h.types ∙ e in cc))
      by true e (inl h) = inl (record { condition = h; types = e })
      by true e (inr none) = inr (λ h. none h.condition)

  module _ (v : List ℕ) (of : IsOfSources t.entries v) where
    -- an action that a rule alone triggers breaks a demand
    alone-breaks : (recs : List Recorded) (a : Action) → Contains (leading r.actions) a → others a ≡ false → IsTriggered r m v recs a → BreaksDemand r m v
    alone-breaks recs a k is h = elim (alone-cases a) [
      | inl alone ↦ (
        alone.0,
        (Contains-filter_map rule_alone (leading r.actions) alone.0).1 (a, k, alone.1),
        subst (λ (o : Option Condition). ConditionHolds r m v o 0 (length v)) (alone-is a alone.0 alone.1).1 h.condition,
      )
      | inr other ↦ absurd (let clash : true ≡ false = sym other ∙ is in cc)
    ]

    -- each label that breaks one is invalid
    pub disposition-broken : (recs : List Recorded) → BreaksDemand r m v → IsDispositionOf r m v recs (codes "invalid")
    disposition-broken recs broken =
        let last : List ℕ → Type 0 = IsOfFirst (IsTriggered r m v (filter of_file.is_predefined recs)) of_file.default_actions (λ (none : List ℕ). ⊥) in
        let g = (Contains-filter_map rule_alone (leading r.actions) broken.0).0 broken.1 in
        let alone = alone-is g.0 broken.0 g.2 in
        let here : IsTriggered r m v recs g.0 = record {
          condition = subst (λ (o : Option Condition). ConditionHolds r m v o 0 (length v)) (sym alone.1) broken.2;
          types = ap (λ (o : Option Trigger). has_asked o recs) alone.0;
        } in
        subst (λ (l : List Action). IsOfFirst (IsTriggered r m v recs) l last (codes "invalid")) (parts r.actions)
        ((first-append (IsTriggered r m v recs) last (leading r.actions) (following r.actions) (codes "invalid")).1
        (same-first (IsTriggered r m v recs) (IsOfFirst (IsTriggered r m v recs) (following r.actions) last) (leading r.actions) (codes "invalid") (leading-invalid r.actions)
        (λ x k. triggered-or-not v recs of x (subst (λ (l : List Action). Contains l x) (parts r.actions) (Contains-append_left (leading r.actions) (following r.actions) x k)))
        g.0 g.1 here))

    -- there is a disposition
    pub some-disposition : (recs : List Recorded) → (word : List ℕ) × IsDispositionOf r m v recs word
    some-disposition recs =
        let seen : List Recorded = filter of_file.is_predefined recs in
        some-first (IsTriggered r m v recs) (IsOfFirst (IsTriggered r m v seen) of_file.default_actions (λ (none : List ℕ). ⊥)) r.actions (λ x k. triggered-or-not v recs of x k)
        (some-default seen)
      where
        default-more : (seen : List Recorded) (word : List ℕ) (asked : Option Trigger) (rest : List Action) → ((w : List ℕ) × IsOfFirst (IsTriggered r m v seen) rest (λ (none : List ℕ). ⊥) w)
            → (w : List ℕ) × IsOfFirst (IsTriggered r m v seen) (of_file.by_types word asked ∷ rest) (λ (none : List ℕ). ⊥) w
        default-more seen word asked rest later = by (has_asked asked seen) refl
          where
            by : (b : Bool) → has_asked asked seen ≡ b → (w : List ℕ) × IsOfFirst (IsTriggered r m v seen) (of_file.by_types word asked ∷ rest) (λ (none : List ℕ). ⊥) w
            by true e = (word, inl (record { condition = tt; types = e }, refl))
            by false e = (later.0, inr (λ h. (let clash : true ≡ false = sym h.types ∙ e in cc), later.1))

        some-default : (seen : List Recorded) → (word : List ℕ) × IsOfFirst (IsTriggered r m v seen) of_file.default_actions (λ (none : List ℕ). ⊥) word
        some-default seen =
            let last : Action = of_file.by_types (codes "valid") None in
            let fourth : Action = of_file.by_types (codes "activated") (asking ask.All (codes "activated")) in
            let third : Action = of_file.by_types (codes "allocatable") (asking ask.Any (codes "allocatable")) in
            let second : Action = of_file.by_types (codes "blocked") (asking ask.Any (codes "blocked")) in
            default-more seen (codes "invalid") (asking ask.Any (codes "invalid")) (second ∷ third ∷ fourth ∷ last ∷ [])
            (default-more seen (codes "blocked") (asking ask.Any (codes "blocked")) (third ∷ fourth ∷ last ∷ [])
            (default-more seen (codes "allocatable") (asking ask.Any (codes "allocatable")) (fourth ∷ last ∷ [])
            (default-more seen (codes "activated") (asking ask.All (codes "activated")) (last ∷ [])
            (codes "valid", inl (record { condition = tt; types = refl }, refl)))))

    module _ (recs : List Recorded) (kinds : List Kind) (same : SameKinds n recs kinds) (each : AreNumbered n recs) (met : ¬ BreaksDemand r m v) where
      -- what is told of a word, in general
      told : (Told : List ℕ → Disposition → Type 0) → ((w : List ℕ) (d : Disposition) → w ≡ disposition_word d → Told w d)
          → ((w : List ℕ) → IsOfFirst (IsTriggered r m v (filter of_file.is_predefined recs)) of_file.default_actions (λ (none : List ℕ). ⊥) w
          → Told w (unwrap_or (of_table.default_disposition (matches_rule t v) kinds) Valid))
          → (word : List ℕ) → IsDispositionOf r m v recs word → Told word (disposition_by t v kinds)
      told Told exact default word h =
          let P : Action → Type 0 = IsTriggered r m v recs in
          let last : List ℕ → Type 0 = IsOfFirst (IsTriggered r m v (filter of_file.is_predefined recs)) of_file.default_actions (λ (none : List ℕ). ⊥) in
          let cut : IsOfFirst P (leading r.actions) (IsOfFirst P (following r.actions) last) word =
          (first-append P last (leading r.actions) (following r.actions) word).0 (subst (λ (l : List Action). IsOfFirst P l last word) (sym (parts r.actions)) h) in
          let kept : IsOfFirst P (acting r.actions) last word =
          (first-append P last (filter others (leading r.actions)) (following r.actions) word).1
          (first-kept P (IsOfFirst P (following r.actions) last) others (leading r.actions) word (λ a k is p. met (alone-breaks recs a k is p)) cut) in
          first-told P (is_triggered (matches_rule t v) kinds) last Told exact (unwrap_or (of_table.default_disposition (matches_rule t v) kinds) Valid) default
          (acting r.actions) (map (action_of t.definitions) t.definitions.actions)
          (actions-alike properties r m n t names says v recs kinds of same each (acting r.actions) t.definitions.actions acting-of says.defines.actions says.well_formed.without_fault.known) word kept

      -- the disposition in the table, but that 'activated' may stand there for 'valid'
      pub disposition-told : (word : List ℕ) → IsDispositionOf r m v recs word → IsToldAs word (disposition_by t v kinds)
      disposition-told =
          told IsToldAs (λ w d e. inl e)
          (default-told n recs kinds same each r m v (matches_rule t v) IsToldAs (λ w d e. inl e) (λ no yes w e. inr (e, refl)))

      -- the same disposition, where the default actions see the same
      pub disposition-alike : AreSeenAlike n recs → (word : List ℕ) → IsDispositionOf r m v recs word ↔ (word ≡ disposition_word (disposition_by t v kinds))
      disposition-alike seen word = (λ h. exactly word h, λ e. subst (IsDispositionOf r m v recs) (exactly some.0 some.1 ∙ sym e) some.1)
        where
          exactly : (w : List ℕ) → IsDispositionOf r m v recs w → w ≡ disposition_word (disposition_by t v kinds)
          exactly =
              told (λ w d. w ≡ disposition_word d) (λ w d e. e)
              (default-told n recs kinds same each r m v (matches_rule t v) (λ w d. w ≡ disposition_word d) (λ w d e. e)
              (λ no yes w e. absurd (let clash : false ≡ true = sym no ∙ all-activated n recs kinds same each seen ∙ yes in cc)))

          some : (w : List ℕ) × IsDispositionOf r m v recs w
          some = some-disposition recs

      -- the same disposition, if it is one of the others
      pub word-alike : (e : Disposition) → e ≢ Valid → e ≢ Activated → IsDispositionOf r m v recs (disposition_word e) ↔ (disposition_by t v kinds ≡ e)
      word-alike e not_valid not_activated = (
        λ h. elim (disposition-told (disposition_word e) h) [
          | inl f ↦ sym (one-word e (disposition_by t v kinds) f)
          | inr g ↦ absurd (not_valid (one-word e Valid g.0))
        ],
        λ f. by (some-disposition recs) f,
      )
        where
          by : ((w : List ℕ) × IsDispositionOf r m v recs w) → disposition_by t v kinds ≡ e → IsDispositionOf r m v recs (disposition_word e)
          by some f = elim (disposition-told some.0 some.1) [
            | inl k ↦ subst (IsDispositionOf r m v recs) (k ∙ ap disposition_word f) some.1
            | inr g ↦ absurd (not_activated (sym f ∙ g.1))
          ]

      pub invalid-alike : IsDispositionOf r m v recs (codes "invalid") ↔ (disposition_by t v kinds ≡ Invalid)
      invalid-alike = word-alike Invalid (λ e. cc) (λ e. cc)

      -- the holder may have the label in both
      pub had-alike : ((word : List ℕ) × IsDispositionOf r m v recs word × Contains may_be_had word) ↔ (is_allocatable (disposition_by t v kinds) ≡ true)
      had-alike = (
        λ g. elim (disposition-told g.0 g.1) [
          | inl e ↦ (had-word (disposition_by t v kinds)).0 (subst (Contains may_be_had) e g.2)
          | inr a ↦ ap is_allocatable a.1
        ],
        λ e. by (some-disposition recs) e,
      )
        where
          by : ((w : List ℕ) × IsDispositionOf r m v recs w) → is_allocatable (disposition_by t v kinds) ≡ true → (word : List ℕ) × IsDispositionOf r m v recs word × Contains may_be_had word
          by some e = elim (disposition-told some.0 some.1) [
            | inl f ↦ (some.0, some.1, subst (Contains may_be_had) (sym f) ((had-word (disposition_by t v kinds)).1 e))
            | inr a ↦ (some.0, some.1, subst (Contains may_be_had) (sym a.0) ((had-word Valid).1 refl))
          ]
