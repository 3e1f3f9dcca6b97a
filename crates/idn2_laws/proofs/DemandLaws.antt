-- A demand says what an action says that makes invalid what doesn't meet it.
use Rattle.std.proofs.Common.{◌≡◌, ◌↔◌, inl, inr, ◌&&◌, ◌||◌, ℕ, zero, suc, ◌+◌, ◌<◌, Bool, true, false, List, [], ◌∷◌, ◌++◌, length, map, Option, Some, None, refl, sym, ap, subst, ◌∙◌, if◌then◌else◌, not, arith}
use Rattle.std.specs.Prelude.{bytes_eq, cond, option_map, unwrap_or}
use Rattle.std.specs.List.{AllByRecursion, Contains, find}
use Rattle.std.proofs.lemmas.Bool.{and_parts, false_from_ne_true}
use Rattle.std.proofs.lemmas.List.Elements.{All-contains}
use Rattle.std.proofs.lemmas.Slice.Eq.{bytes_eq-Decides}
use Rattle.label_patterns.specs.Conditions.{ConditionHolds, IsAsked, rule_at}
use Rattle.label_patterns.specs.Matches.{Rounds, Seen}
use Rattle.label_patterns.specs.Matches.Rounds.{no_round, one_more}
use Rattle.label_patterns.specs.Patterns.{Pattern}
use Rattle.label_patterns.specs.Rules.{Holds, Occurs, is_context_rule}
use Rattle.label_patterns.specs.Tests.{occurs_in}
use Rattle.label_patterns.specs.declared.condition.Condition.{Condition}
use Rattle.label_patterns.proofs.TestLemmas.{occurs-agrees}
use Rattle.ruleset_text.specs.Actions.{NamedAction, NamedTrigger, knows_action, knows_rule, knows_types}
use Rattle.ruleset_text.specs.Definitions.{Definitions, Demand, type_names, whole_names, whole_rules}
use Rattle.ruleset_text.specs.Names.{is_one_of, number_of}
use Rattle.ruleset_text.specs.declared.definition.DemandKind.{DemandKind}
use Rattle.ruleset_text.specs.declared.definition.DemandKind.TheVariants.{Never, Always}
use Rattle.ruleset_text.specs.declared.named_condition.NamedCondition.{NamedCondition}
use Rattle.variant_dispositions.specs.declared.action.Action.{Action}
use Rattle.variant_dispositions.specs.declared.action.TypeTrigger.{TypeTrigger}
use Rattle.variant_dispositions.specs.declared.disposition.Disposition.{Disposition as Outcome}
use Rattle.variant_dispositions.specs.declared.disposition.Disposition.TheVariants.{Invalid, Valid}
use Rattle.variant_dispositions.specs.Actions.{default_disposition, first_triggered, has_types, is_as_asked, is_triggered, meets}
use Rattle.variant_dispositions.specs.Kinds.{Kind}
use Rattle.variant_table.specs.declared.version.Version.{Version}
use Rattle.variant_table.specs.declared.version.Version.TheVariants.{Three}
use Rattle.variant_table.specs.Entries.{Entry, TableValue, Variant, source_of, whole}
use Rattle.variant_table.specs.Forms.{numbered}
use Rattle.variant_table.specs.Segmentations.{AllHold, IsSegmentation, seen_under}
use Rattle.variant_table.specs.WellFormed.{HasItsNames, HasItsRule, IsNamed}
use Rattle.variant_table.proofs.MemberLemmas.{Contains-head, Contains-later}
use Rattle.valid_labels.specs.Actions.{action_of, matches_rule, trigger_by, trigger_of, with_type, with_types}
use Rattle.valid_labels.specs.Demands.{IsMet, IsWanted}
use Rattle.valid_labels.specs.Dispositions.{disposition_by}
use Rattle.valid_labels.specs.Eligible.{IsEligible, LongestLeads, Stands}
use Rattle.valid_labels.specs.Validity.{IsAdmitted, IsValid}
use Rattle.valid_labels.proofs.NothingLemmas.{cut-segmentation}
use Rattle.variant_list.specs.Readings.{Mapping, entry_of, kinds_of, IsReadingOf, MayAllBeMade}
use Rattle.variant_list.specs.Readings.Mapping.{Stays, Maps}
use Rattle.variant_list.specs.Spelling.{Spells}
use Rattle.variant_list.proofs.ReadingLemmas.{Spells-read}
use Rattle.answer_json.specs.declared.block.Disposition.{Disposition}
use Rattle.idn2_options.specs.Settings.{Settings}
use Rattle.idn2_answers.specs.Dispositions.{HasOutcome, IsAllocatableIn, IsAllocation, IsClear, IsDisposition, IsFieldOf, IsReadingFor}
use Rattle.idn2_answers.specs.Listings.{IsListed}
use Rattle.idn2_answers.proofs.ReadingTests.{some-reading}
use Rattle.idn2_laws.specs.DemandLaws.{DemandsAreActions, MayGet, refused_by}

-- ---- tables of the same entries and sets

-- what else they define
record Parts : Type 0 where
  names : List (List ℕ)
  rules : List Pattern
  demands : List Demand
  actions : List NamedAction

abbrev with_parts : TableValue → Parts → TableValue
with_parts table parts = record table {
  definitions = record table.definitions { rule_names = parts.names; rules = parts.rules; demands = parts.demands; actions = parts.actions };
}

-- each condition of the entries holds in the one where it does in the other
abbrev HoldAlike : TableValue → Parts → Parts → Type 0
HoldAlike table a b = (e : Entry) (v : Variant) (seen : Seen) (i j : ℕ) → Contains table.entries e → Contains (whole e) v → ConditionHolds a.rules seen v.condition i j → ConditionHolds b.rules seen v.condition i j

module _ (table : TableValue) (a b : Parts) (there : HoldAlike table a b) (back : HoldAlike table b a) (label : List ℕ) where
  stands-there : (place : ℕ) (e : Entry) → Stands (with_parts table a) label place e → Stands (with_parts table b) label place e
  stands-there place e s = record { of_table = s.of_table; begins = s.begins; holds = there e (source_of e) (seen_under (with_parts table a) label) place (place + length e.source) s.of_table (Contains-head (source_of e) e.variants) s.holds }

  stands-back : (place : ℕ) (e : Entry) → Stands (with_parts table b) label place e → Stands (with_parts table a) label place e
  stands-back place e s = record { of_table = s.of_table; begins = s.begins; holds = back e (source_of e) (seen_under (with_parts table b) label) place (place + length e.source) s.of_table (Contains-head (source_of e) e.variants) s.holds }

  leads-there : (i j : ℕ) → LongestLeads (with_parts table a) label i j → LongestLeads (with_parts table b) label i j
  leads-there i j l = (l.0, record { stands = stands-there i l.0 l.1.stands; longest = λ f s. l.1.longest f (stands-back i f s) }, l.2)

  cut-there : (i j : ℕ) → Rounds (LongestLeads (with_parts table a) label) i j → Rounds (LongestLeads (with_parts table b) label) i j
  cut-there i j no_round = no_round
  cut-there i j (one_more k l rest step) = one_more k l (cut-there i k rest) (leads-there k l step)

  eligible-there : IsEligible (with_parts table a) label → IsEligible (with_parts table b) label
  eligible-there is = cut-there 0 (length label) is

  held-there : (es : List Entry) (place : ℕ) → AllByRecursion (Contains table.entries) es → AllHold a.rules (seen_under (with_parts table a) label) place es → AllHold b.rules (seen_under (with_parts table b) label) place es
  held-there [] place all held = tt
  held-there (e ∷ es) place all held = (
    there e (source_of e) (seen_under (with_parts table a) label) place (place + length e.source) all.0 (Contains-head (source_of e) e.variants) held.0,
    held-there es (place + length e.source) all.1 held.1,
  )

  segmentation-there : (es : List Entry) → IsSegmentation (with_parts table a) es label → IsSegmentation (with_parts table b) es label
  segmentation-there es is = record { of_table = is.of_table; joined = is.joined; held = held-there es 0 is.of_table is.held }

  made-there : (reading : List Mapping) (place : ℕ) → AllByRecursion (Contains table.entries) (map entry_of reading) → MayAllBeMade (with_parts table a) label place reading → MayAllBeMade (with_parts table b) label place reading
  made-there [] place all made = tt
  made-there (Stays e ∷ reading) place all made = (tt, made-there reading (place + length e.source) all.1 made.1)
  made-there (Maps e v ∷ reading) place all made = (
    (made.0.0, there e v (seen_under (with_parts table a) label) place (place + length e.source) all.0 (Contains-later (source_of e) e.variants v made.0.0) made.0.1),
    made-there reading (place + length e.source) all.1 made.1,
  )

  reading-there : (v : List ℕ) (reading : List Mapping) → IsReadingOf (with_parts table a) label v reading → IsReadingOf (with_parts table b) label v reading
  reading-there v reading is = record {
    segmentation = segmentation-there (map entry_of reading) is.segmentation;
    made = made-there reading 0 is.segmentation.of_table is.made;
    joined = is.joined;
  }

  for-there : (v : List ℕ) (reading : List Mapping) → IsReadingFor (with_parts table a) label v reading → IsReadingFor (with_parts table b) label v reading
  for-there v reading is = record { reads = reading-there v reading is.reads; stays = is.stays }

-- ---- numbers of rules

number-none : (name : List ℕ) → number_of [] name ≡ 0
unfolding number_of
number-none name = refl

number-more : (other : List ℕ) (names : List (List ℕ)) (name : List ℕ) → number_of (other ∷ names) name ≡ (if bytes_eq other name then 0 else suc (number_of names name))
unfolding number_of
number-more other names name = by_test (bytes_eq other name) (number_of names name)
  where
    by_test : (b : Bool) (n : ℕ) → cond (not b) (1 + n) 0 ≡ (if b then 0 else suc n)
    by_test true n = refl
    by_test false n = omega arith

number-kept : (names more : List (List ℕ)) (name : List ℕ) → is_one_of names name ≡ true → number_of (names ++ more) name ≡ number_of names name
number-kept [] more name h = let clash : false ≡ true = h in cc
number-kept (other ∷ names) more name h = number-more other (names ++ more) name ∙ by_test (bytes_eq other name) h (number-kept names more name) ∙ sym (number-more other names name)
  where
    by_test : (b : Bool) → (b || is_one_of names name) ≡ true → (is_one_of names name ≡ true → number_of (names ++ more) name ≡ number_of names name)
        → (if b then 0 else suc (number_of (names ++ more) name)) ≡ (if b then 0 else suc (number_of names name))
    by_test true h later = refl
    by_test false h later = ap suc (later h)

number-new : (names : List (List ℕ)) (name : List ℕ) → is_one_of names name ≡ false → number_of (names ++ name ∷ []) name ≡ length names
number-new [] name h = number-more name [] name ∙ ap (λ (b : Bool). if b then 0 else suc (number_of [] name)) ((bytes_eq-Decides name name).1 refl)
number-new (other ∷ names) name h = number-more other (names ++ name ∷ []) name ∙ by_test (bytes_eq other name) h (number-new names name)
  where
    by_test : (b : Bool) → (b || is_one_of names name) ≡ false → (is_one_of names name ≡ false → number_of (names ++ name ∷ []) name ≡ length names)
        → (if b then 0 else suc (number_of (names ++ name ∷ []) name)) ≡ suc (length names)
    by_test true h later = let clash : true ≡ false = h in cc
    by_test false h later = ap suc (later h)

number-within : (names : List (List ℕ)) (name : List ℕ) → is_one_of names name ≡ true → number_of names name < length names
number-within [] name h = let clash : false ≡ true = h in cc
number-within (other ∷ names) name h = subst (λ (n : ℕ). n < suc (length names)) (sym (number-more other names name)) (by_test (bytes_eq other name) h (number-within names name))
  where
    by_test : (b : Bool) → (b || is_one_of names name) ≡ true → (is_one_of names name ≡ true → number_of names name < length names) → (if b then 0 else suc (number_of names name)) < suc (length names)
    by_test true h later = omega arith
    by_test false h later = let l = later h in omega (arith, l)

rule-kept : (rules more : List Pattern) (n : ℕ) → n < length rules → rule_at (rules ++ more) n ≡ rule_at rules n
rule-kept [] more n l = absurd (omega (arith, l))
rule-kept (p ∷ rules) more zero l = refl
rule-kept (p ∷ rules) more (suc n) l = rule-kept rules more n (omega (arith, l))

rule-new : (rules : List Pattern) (p : Pattern) → rule_at (rules ++ p ∷ []) (length rules) ≡ p
rule-new [] p = refl
rule-new (q ∷ rules) p = rule-new rules p

-- a whole-label rule is a rule
whole-is_one : (names : List (List ℕ)) (rules : List Pattern) (name : List ℕ) → is_one_of (whole_names names rules) name ≡ true → is_one_of names name ≡ true
whole-is_one [] rules name h = h
whole-is_one (other ∷ names) [] name h = let clash : false ≡ true = h in cc
whole-is_one (other ∷ names) (p ∷ rules) name h = by_test (is_context_rule p) (whole-is_one names rules name) h
  where
    right : (b : Bool) → is_one_of names name ≡ true → (b || is_one_of names name) ≡ true
    right true e = refl
    right false e = e

    by_name : (b : Bool) → (is_one_of (whole_names names rules) name ≡ true → is_one_of names name ≡ true) → (b || is_one_of (whole_names names rules) name) ≡ true → (b || is_one_of names name) ≡ true
    by_name true later e = refl
    by_name false later e = later e

    by_test : (b : Bool) → (is_one_of (whole_names names rules) name ≡ true → is_one_of names name ≡ true) → is_one_of (if b then whole_names names rules else other ∷ whole_names names rules) name ≡ true
        → is_one_of (other ∷ names) name ≡ true
    by_test true later e = right (bytes_eq other name) (later e)
    by_test false later e = by_name (bytes_eq other name) later e

-- ---- the two rulesets

module _ (name : List ℕ) (demand : Demand) (table : TableValue) (get : MayGet name table) where
  abbrev p : Pattern
  p = demand.pattern

  abbrev d : Definitions
  d = table.definitions

  abbrev demanded : Parts
  demanded = record { names = d.rule_names; rules = d.rules; demands = demand ∷ d.demands; actions = d.actions }

  abbrev refuse : NamedAction
  refuse = record { disposition = Invalid; condition = Some (record { kind = refused_by demand.kind; rule = name }); trigger = None }

  abbrev acted : Parts
  acted = record { names = d.rule_names ++ name ∷ []; rules = d.rules ++ p ∷ []; demands = d.demands; actions = refuse ∷ d.actions }

  -- the one with the demand, and the one with the action
  abbrev D : TableValue
  D = with_parts table demanded

  abbrev A : TableValue
  A = with_parts table acted

  same-count : length d.rule_names ≡ length d.rules
  same-count = get.of_table.without_fault.named_rules

  -- a condition of an entry names a rule that both have
  condition-same : (c : Option Condition) (seen : Seen) (i j : ℕ) → HasItsRule d c → ConditionHolds d.rules seen c i j ≡ ConditionHolds (d.rules ++ p ∷ []) seen c i j
  condition-same None seen i j has = refl
  condition-same (Some c) seen i j has = ap (λ (rule : Pattern). IsAsked c.kind (Holds seen rule i j)) (sym (rule-kept d.rules (p ∷ []) c.rule (omega (arith, has, same-count))))

  its-rule : (e : Entry) (v : Variant) → Contains table.entries e → Contains (whole e) v → HasItsRule d v.condition
  its-rule e v there among = (All-contains (HasItsNames d) (whole e) v (All-contains (IsNamed d) table.entries e get.of_table.named there) among).condition

  to_action : HoldAlike table demanded acted
  to_action e v seen i j there among h = subst (λ (P : Type 0). P) (condition-same v.condition seen i j (its-rule e v there among)) h

  to_demand : HoldAlike table acted demanded
  to_demand e v seen i j there among h = subst (λ (P : Type 0). P) (sym (condition-same v.condition seen i j (its-rule e v there among))) h

  -- ---- the actions that both have

  types-same : (names : List (List ℕ)) (word : ℕ) → with_types A.definitions word names ≡ with_types D.definitions word names
  types-same [] word = refl
  types-same (other ∷ names) word = types-same names (with_type D.definitions word other)

  trigger-same : (t : Option NamedTrigger) → option_map (trigger_of A.definitions) t ≡ option_map (trigger_of D.definitions) t
  trigger-same None = refl
  trigger-same (Some t) = ap (λ (word : ℕ). Some (trigger_by t.kind word)) (types-same t.types 0)

  matches-kept : (v : List ℕ) (n : ℕ) → n < length d.rules → matches_rule A v n ≡ matches_rule D v n
  matches-kept v n l = ap (occurs_in (seen_under D v)) (rule-kept d.rules (p ∷ []) n l)

  meets-same : (v : List ℕ) (c : Option NamedCondition) → ((named : NamedCondition) → c ≡ Some named → is_one_of d.rule_names named.rule ≡ true)
      → meets (matches_rule A v) (option_map (numbered A.definitions) c) ≡ meets (matches_rule D v) (option_map (numbered D.definitions) c)
  meets-same v None known = refl
  meets-same v (Some c) known =
      let is = known c refl in
      let within = number-within d.rule_names c.rule is in
      ap (λ (n : ℕ). is_as_asked c.kind (matches_rule A v n)) (number-kept d.rule_names (name ∷ []) c.rule is)
      ∙ ap (is_as_asked c.kind) (matches-kept v (number_of d.rule_names c.rule) (omega (arith, within, same-count)))

  -- the rule that an action names is one of those
  rule-known : (a : NamedAction) → knows_action (type_names d) (whole_rules d) a ≡ true → (named : NamedCondition) → a.condition ≡ Some named → is_one_of d.rule_names named.rule ≡ true
  rule-known a known named is =
      whole-is_one d.rule_names d.rules named.rule
      (subst (λ (c : Option NamedCondition). knows_rule (whole_rules d) c ≡ true) is (and_parts (knows_rule (whole_rules d) a.condition) (knows_types (type_names d) a.trigger) known).0)

  triggered-same : (v : List ℕ) (kinds : List Kind) (a : NamedAction) → knows_action (type_names d) (whole_rules d) a ≡ true
      → is_triggered (matches_rule A v) kinds (action_of A.definitions a) ≡ is_triggered (matches_rule D v) kinds (action_of D.definitions a)
  triggered-same v kinds a known =
      ap (λ (types : Option TypeTrigger). has_types types kinds && meets (matches_rule A v) (action_of A.definitions a).condition) (trigger-same a.trigger)
      ∙ ap (λ (b : Bool). has_types (action_of D.definitions a).types kinds && b) (meets-same v a.condition (rule-known a known))

  first-same : (v : List ℕ) (kinds : List Kind) (actions : List NamedAction) → AllByRecursion (λ (a : NamedAction). knows_action (type_names d) (whole_rules d) a ≡ true) actions
      → first_triggered (matches_rule A v) kinds (map (action_of A.definitions) actions) ≡ first_triggered (matches_rule D v) kinds (map (action_of D.definitions) actions)
  first-same v kinds [] known = refl
  first-same v kinds (a ∷ actions) known =
      ap (λ (b : Bool). by_first b (find (is_triggered (matches_rule A v) kinds) (map (action_of A.definitions) actions)) (action_of A.definitions a)) (triggered-same v kinds a known.0)
      ∙ by_test (is_triggered (matches_rule D v) kinds (action_of D.definitions a)) (first-same v kinds actions known.1)
    where
      by_first : Bool → Option Action → Action → Option Outcome
      by_first b found first = option_map (λ (x : Action). x.disposition) (if b then Some first else found)

      by_test : (b : Bool) → first_triggered (matches_rule A v) kinds (map (action_of A.definitions) actions) ≡ first_triggered (matches_rule D v) kinds (map (action_of D.definitions) actions) → option_map (λ (x : Action). x.disposition) (if b then Some (action_of A.definitions a) else find (is_triggered (matches_rule A v) kinds) (map (action_of A.definitions) actions))
          ≡ option_map (λ (x : Action). x.disposition) (if b then Some (action_of D.definitions a) else find (is_triggered (matches_rule D v) kinds) (map (action_of D.definitions) actions))
      by_test true later = refl
      by_test false later = later

  -- ---- the action that is more

  -- whether it is triggered, whatever a reading records
  abbrev is_refused : List ℕ → Bool
  is_refused v = is_as_asked (refused_by demand.kind) (occurs_in (seen_under D v) p)

  refuse-told : (v : List ℕ) (kinds : List Kind) → is_triggered (matches_rule A v) kinds (action_of A.definitions refuse) ≡ is_refused v
  refuse-told v kinds =
      ap (λ (n : ℕ). is_as_asked (refused_by demand.kind) (occurs_in (seen_under D v) (rule_at (d.rules ++ p ∷ []) n))) (number-new d.rule_names name get.unused ∙ same-count)
      ∙ ap (λ (rule : Pattern). is_as_asked (refused_by demand.kind) (occurs_in (seen_under D v) rule)) (rule-new d.rules p)

  refused-invalid : (v : List ℕ) (kinds : List Kind) → is_refused v ≡ true → disposition_by A v kinds ≡ Invalid
  refused-invalid v kinds refused =
      ap (λ (b : Bool). unwrap_or (option_map (λ (x : Action). x.disposition) (if b then Some (action_of A.definitions refuse) else find (is_triggered (matches_rule A v) kinds) (map (action_of A.definitions) d.actions))) (unwrap_or (default_disposition (matches_rule A v) kinds) Valid))
      (refuse-told v kinds ∙ refused)

  other-same : (v : List ℕ) (kinds : List Kind) → is_refused v ≡ false → disposition_by A v kinds ≡ disposition_by D v kinds
  other-same v kinds none =
      ap (λ (b : Bool). unwrap_or (option_map (λ (x : Action). x.disposition) (if b then Some (action_of A.definitions refuse) else find (is_triggered (matches_rule A v) kinds) (map (action_of A.definitions) d.actions))) (unwrap_or (default_disposition (matches_rule A v) kinds) Valid))
      (refuse-told v kinds ∙ none)
      ∙ ap (λ (first : Option Outcome). unwrap_or first (unwrap_or (default_disposition (matches_rule A v) kinds) Valid)) (first-same v kinds d.actions get.of_table.without_fault.known)

  -- a label meets the demand exactly if the action isn't triggered
  met-passes : (v : List ℕ) → IsMet (seen_under D v) demand → is_refused v ≡ false
  met-passes v met = by_kind demand.kind met
    where
      by_kind : (kind : DemandKind) → IsWanted kind (Occurs (seen_under D v) p) → is_as_asked (refused_by kind) (occurs_in (seen_under D v) p) ≡ false
      by_kind Never none = false_from_ne_true (occurs_in (seen_under D v) p) (λ h. none ((occurs-agrees (seen_under D v) p).0 h))
      by_kind Always occurs = ap not ((occurs-agrees (seen_under D v) p).1 occurs)

  passes-met : (v : List ℕ) → is_refused v ≡ false → IsMet (seen_under D v) demand
  passes-met v passed = by_kind demand.kind passed
    where
      by_test : (b : Bool) → not b ≡ false → b ≡ true
      by_test true e = refl
      by_test false e = let clash : true ≡ false = e in cc

      by_kind : (kind : DemandKind) → is_as_asked (refused_by kind) (occurs_in (seen_under D v) p) ≡ false → IsWanted kind (Occurs (seen_under D v) p)
      by_kind Never passed = λ occurs. (let clash : true ≡ false = sym ((occurs-agrees (seen_under D v) p).1 occurs) ∙ passed in cc)
      by_kind Always passed = (occurs-agrees (seen_under D v) p).0 (by_test (occurs_in (seen_under D v) p) passed)

  -- ---- labels that may be asked about

  eligible-of : (parts : Parts) (label : List ℕ) → IsAdmitted (with_parts table parts) label → IsEligible (with_parts table parts) label
  eligible-of parts label is = elim is.cut [
    | inl any ↦ absurd (any.0.earlier get.version)
    | inr eligible ↦ eligible
  ]

  admitted-there : (label : List ℕ) → IsAdmitted D label → IsAdmitted A label
  admitted-there label is = record {
    cut = inr (eligible-there table demanded acted to_action to_demand label (eligible-of demanded label is));
    met = is.met.1;
    clear = λ one other first second. is.clear one other (segmentation-there table acted demanded to_demand to_action label one first) (segmentation-there table acted demanded to_demand to_action label other second);
    not_invalid = λ h. is.not_invalid (h.0, segmentation-there table acted demanded to_demand to_action label h.0 h.1, sym (other-same label _ (met-passes label is.met.0)) ∙ h.2);
  }

  admitted-back : (label : List ℕ) → IsAdmitted A label → IsAdmitted D label
  admitted-back label is =
      let passed : is_refused label ≡ false = false_from_ne_true (is_refused label) (λ refused. (let s = cut-segmentation A label is.cut in is.not_invalid (s.0, s.1, refused-invalid label _ refused))) in
      record {
        cut = inr (eligible-there table acted demanded to_demand to_action label (eligible-of acted label is));
        met = (passes-met label passed, is.met);
        clear = λ one other first second. is.clear one other (segmentation-there table demanded acted to_action to_demand label one first) (segmentation-there table demanded acted to_action to_demand label other second);
        not_invalid = λ h. is.not_invalid (h.0, segmentation-there table demanded acted to_action to_demand label h.0 h.1, other-same label _ passed ∙ h.2);
      }

  -- ---- labels that are listed

  eligible-valid : (parts : Parts) (v : List ℕ) → IsValid (with_parts table parts) v → IsEligible (with_parts table parts) v
  eligible-valid parts v is = elim is.cut [
    | inl any ↦ absurd (any.earlier get.version)
    | inr eligible ↦ eligible
  ]

  module _ (label v : List ℕ) where
    spells-there : Spells D label v → Spells A label v
    spells-there s = let r = (Spells-read D label v).0 s in (Spells-read A label v).1 (r.0, reading-there table demanded acted to_action to_demand label v r.0 r.1)

    spells-back : Spells A label v → Spells D label v
    spells-back s = let r = (Spells-read A label v).0 s in (Spells-read D label v).1 (r.0, reading-there table acted demanded to_demand to_action label v r.0 r.1)

    clear-there : IsClear D label v → IsClear A label v
    clear-there (inl none) = inl none
    clear-there (inr clear) = inr (λ one other first second. clear one other (for-there table acted demanded to_demand to_action label v one first) (for-there table acted demanded to_demand to_action label v other second))

    clear-back : IsClear A label v → IsClear D label v
    clear-back (inl none) = inl none
    clear-back (inr clear) = inr (λ one other first second. clear one other (for-there table demanded acted to_action to_demand label v one first) (for-there table demanded acted to_action to_demand label v other second))

    module _ (passed : is_refused v ≡ false) where
      outcome-there : (o : Outcome) → HasOutcome D label v o → HasOutcome A label v o
      outcome-there o h = (h.0, for-there table demanded acted to_action to_demand label v h.0 h.1, other-same v (kinds_of h.0) passed ∙ h.2)

      outcome-back : (o : Outcome) → HasOutcome A label v o → HasOutcome D label v o
      outcome-back o h = (h.0, for-there table acted demanded to_demand to_action label v h.0 h.1, sym (other-same v (kinds_of h.0) passed) ∙ h.2)

      -- the same disposition
      allocation-same : (P Q : Type 0) (f : Option Disposition) → P ↔ Q → IsAllocation P f → IsAllocation Q f
      allocation-same P Q f same (inl h) = inl (same.0 h.0, h.1)
      allocation-same P Q f same (inr h) = inr (λ q. h.0 (same.1 q), h.1)

      may-there : IsAllocatableIn Three D label v → IsAllocatableIn Three A label v
      may-there h = (clear-there h.0, (h.1.0, outcome-there h.1.0 h.1.1, h.1.2))

      may-back : IsAllocatableIn Three A label v → IsAllocatableIn Three D label v
      may-back h = (clear-back h.0, (h.1.0, outcome-back h.1.0 h.1.1, h.1.2))

      field-there : (f : Option Disposition) → IsFieldOf Three (IsClear D label v) (IsAllocatableIn Three D label v) f → IsFieldOf Three (IsClear A label v) (IsAllocatableIn Three A label v) f
      field-there f (inl h) = inl (clear-there h.0, allocation-same (IsAllocatableIn Three D label v) (IsAllocatableIn Three A label v) f (may-there, may-back) h.1)
      field-there f (inr h) = inr (λ clear. h.0 (clear-back clear), h.1)

      field-back : (f : Option Disposition) → IsFieldOf Three (IsClear A label v) (IsAllocatableIn Three A label v) f → IsFieldOf Three (IsClear D label v) (IsAllocatableIn Three D label v) f
      field-back f (inl h) = inl (clear-back h.0, allocation-same (IsAllocatableIn Three A label v) (IsAllocatableIn Three D label v) f (may-back, may-there) h.1)
      field-back f (inr h) = inr (λ clear. h.0 (clear-there clear), h.1)

      disposed-same : (f : Option Disposition) → IsDisposition D label v f ↔ IsDisposition A label v f
      disposed-same f =
          subst (λ (n : Version). IsFieldOf n (IsClear D label v) (IsAllocatableIn n D label v) f ↔ IsFieldOf n (IsClear A label v) (IsAllocatableIn n A label v) f) (sym get.version) (field-there f, field-back f)

    listed-there : (o : Settings) → IsListed o D label v → IsListed o A label v
    listed-there o is = record {
      registrable = is.registrable;
      valid = record { cut = inr (eligible-there table demanded acted to_action to_demand v (eligible-valid demanded v is.valid)); met = is.valid.met.1 };
      greater = is.greater;
      spelled = spells-there is.spelled;
      kept = λ out. is.kept (record { of_ruleset = out.of_ruleset; clear = clear-back out.clear; invalid = outcome-back (met-passes v is.valid.met.0) Invalid out.invalid });
    }

    listed-back : (o : Settings) → IsListed o A label v → IsClear A label v → IsListed o D label v
    listed-back o is clear =
        let reading = some-reading A label v is.spelled in
        let passed : is_refused v ≡ false = false_from_ne_true (is_refused v)
        (λ refused. is.kept (record { of_ruleset = get.version; clear = clear; invalid = (reading.0, reading.1, refused-invalid v (kinds_of reading.0) refused) })) in
        record {
          registrable = is.registrable;
          valid = record { cut = inr (eligible-there table acted demanded to_demand to_action v (eligible-valid acted v is.valid)); met = (passes-met v passed, is.valid.met) };
          greater = is.greater;
          spelled = spells-back is.spelled;
          kept = λ out. is.kept (record { of_ruleset = out.of_ruleset; clear = clear-there out.clear; invalid = outcome-there passed Invalid out.invalid });
        }

pub demands-are-actions : DemandsAreActions
demands-are-actions = record {
  admitted = λ name demand table label get. (admitted-there name demand table get label, admitted-back name demand table get label);
  listed = λ o name demand table label v get is. listed-there name demand table get label v o is;
  disposed = λ o name demand table label v field get is. disposed-same name demand table get label v (met-passes name demand table get v is.valid.met.0) field;
  unless_unclear = λ o name demand table label v get is clear. listed-back name demand table get label v o is clear;
}
