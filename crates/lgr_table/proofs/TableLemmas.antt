-- The steps together: the table says what the file says.
use Rattle.std.proofs.Common.{◌≡◌, ℕ, zero, suc, ◌<◌, ◌≤◌, ◌↔◌, Bool, false, Option, List, [], ◌∷◌, ◌++◌, length, map, refl, sym, ap, subst, ◌∙◌, arith}
use Rattle.std.specs.Prelude.{All, Contains, slice_index_or, unwrap_or}
use Rattle.std.specs.List.{flat_map}
use Rattle.std.proofs.lemmas.List.{get_or_default, length-map}
use Rattle.idn_class.specs.declared.properties.Properties.{Properties}
use Rattle.label_patterns.specs.declared.span.Span.{Span}
use Rattle.label_patterns.specs.Laws.{seen}
use Rattle.label_patterns.specs.Patterns.{Anchor, Pattern}
use Rattle.label_patterns.specs.Rules.{Holds}
use Rattle.lgr_text.specs.Records.{IsRule, Part, Ruleset}
use Rattle.variant_table.specs.declared.version.Version.TheVariants.{Three}
use Rattle.variant_table.specs.Entries.{Entry, TableValue, empty_table}
use Rattle.variant_table.specs.WellFormed.{IsTable}
use Rattle.lgr_table.specs.Entries.{all_entries}
use Rattle.lgr_text.specs.Meanings.{Meanings, RuleHolds}
use Rattle.lgr_text.specs.Names.{IsRuleOf, asked, asked_rules}
use Rattle.lgr_table.specs.Numbers.{Numbering}
use Rattle.lgr_table.specs.Tables.{Defines, IsOfSources, IsTableOf, SayRules, may_stand}
use Rattle.lgr_table.specs.TableNames.{AreCalled, has_name, keeps_rule, names_with}
use Rattle.lgr_table.specs.inner.RuleSteps.{HasNoRules}
use Rattle.lgr_table.specs.inner.Steps.{AddsActions, AddsEntries, AddsRules, AddsTypes}
use Rattle.lgr_table.proofs.TableNameLemmas.{called-count}
use Rattle.ruleset_text.specs.Names.{is_name}

All-append : {X : Type 0} (P : X → Type 0) (xs ys : List X) → All P xs → All P ys → All P (xs ++ ys)
All-append P [] ys left right = right
All-append P (x ∷ xs) ys left right = at (All-append P xs ys (λ k d l. left (suc k) d (omega (arith, l))) right)
  where
    at : All P (xs ++ ys) → All P (x ∷ xs ++ ys)
    at rest zero d l = left zero d (omega arith)
    at rest (suc k) d l = rest k d (omega (arith, l))

-- what the rules say goes by the entries, the sets and the rules
record Parts : Type 0 where
  entries : List Entry
  sets : List (List Span)
  rules : List Pattern

abbrev SayTheRules : Ruleset → Meanings → Numbering → Parts → Type 0
SayTheRules r m n p =
    (k : ℕ) → k < length n.rules
    → (rule : Part) × Contains r.definitions (record { name = slice_index_or n.rules k []; meaning = IsRule rule })
    × ((label : List ℕ) (i j : ℕ) → IsOfSources p.entries label → i ≤ length label → j ≤ length label
    → Holds (seen p.sets label) (slice_index_or p.rules k Anchor) i j ↔ RuleHolds m rule label i j)

-- a rule that is numbered is one of the file
is_rule : (r : Ruleset) (m : Meanings) (n : Numbering) (t : TableValue) → SayRules r m n t → (name : List ℕ) → Contains n.rules name → IsRuleOf r name
is_rule r m n t say name there =
    let said = say there.0 there.1 in
    let named : slice_index_or n.rules there.0 [] ≡ name = get_or_default n.rules there.0 [] name there.1 ∙ there.2 in
    (said.0, subst (λ (x : List ℕ). Contains r.definitions (record { name = x; meaning = IsRule said.0 })) named said.1)

abbrev name_of : Option (List ℕ) → List ℕ
name_of type = unwrap_or type []

types_count : (may : ℕ → Bool) (r : Ruleset) (types : List (Option (List ℕ))) (t u : TableValue) → AddsTypes may r types t u → length u.definitions.types ≡ length types
types_count may r types t u adds = called-count (names_with types r) is_name (map name_of types) u.definitions.types adds.called ∙ length-map types name_of

-- the properties, the file, the numbers; the table at first, and after each step
module _ (properties : Properties) (r : Ruleset) (types_ : List (Option (List ℕ))) (rules_ : List (List ℕ)) (n : Numbering) (start a b c : TableValue)
    (numbered : n ≡ record { types = types_; rules = rules_ }) (begins : start ≡ empty_table properties Three)
    (types : AddsTypes (may_stand start.definitions.properties) r types_ start a)
    (rules : AddsRules (may_stand a.definitions.properties) r types_ rules_ a b)
    (actions : AddsActions r n b c) where
  start_by : start.definitions.properties ≡ properties
  start_by = ap (λ (t : TableValue). t.definitions.properties) begins

  a_by : a.definitions.properties ≡ properties
  a_by = ap (λ (t : TableValue). t.definitions.properties) types.others ∙ start_by

  c_by : c.definitions.properties ≡ properties
  c_by = ap (λ (t : TableValue). t.definitions.properties) actions.others ∙ ap (λ (t : TableValue). t.definitions.properties) rules.others ∙ a_by

  abbrev may : ℕ → Bool
  may = may_stand properties

  its_types : AddsTypes may r n.types start a
  its_types =
      subst (λ (k : Numbering). AddsTypes may r k.types start a) (sym numbered) (subst (λ (p : Properties). AddsTypes (may_stand p) r types_ start a) start_by types)

  its_rules : AddsRules may r n.types n.rules a b
  its_rules =
      subst (λ (k : Numbering). AddsRules may r k.types k.rules a b) (sym numbered)
      (subst (λ (p : Properties). AddsRules (may_stand p) r types_ rules_ a b) a_by rules)

  same_types : c.definitions.types ≡ a.definitions.types
  same_types = ap (λ (t : TableValue). t.definitions.types) actions.others ∙ ap (λ (t : TableValue). t.definitions.types) its_rules.others

  pub defines : Defines may r n c
  defines = record {
    version = ap (λ (t : TableValue). t.version) actions.others ∙ ap (λ (t : TableValue). t.version) its_rules.others
        ∙ ap (λ (t : TableValue). t.version) its_types.others ∙ ap (λ (t : TableValue). t.version) begins;
    numbers = record {
      types = its_types.are.known;
      own = its_types.are.own;
      untyped = its_types.are.untyped;
      each_type = its_types.are.each_type;
      each_rule = its_rules.each_rule;
    };
    names = record {
      types = subst (AreCalled (names_with n.types r) is_name (map name_of n.types)) (sym same_types) its_types.called;
      rules = subst (AreCalled (names_with n.types r) (keeps_rule (names_with n.types r)) n.rules)
          (sym (ap (λ (t : TableValue). t.definitions.rule_names) actions.others)) its_rules.called.rules;
      sets = subst (All (λ given. has_name (names_with n.types r) given ≡ false))
          (sym (ap (λ (t : TableValue). t.definitions.set_names) actions.others)) its_rules.called.sets;
    };
    types = ap length same_types ∙ types_count may r n.types start a its_types;
    rules = ap (λ (t : TableValue). length t.definitions.rules) actions.others ∙ its_rules.count;
    demands = actions.demands;
    actions = actions.say;
  }

  module _ (e : TableValue) (entries : AddsEntries (may_stand c.definitions.properties) r n c e) (is : IsTable e) where
    its_entries : AddsEntries may r n c e
    its_entries = subst (λ (p : Properties). AddsEntries (may_stand p) r n c e) c_by entries

    same_entries : e.entries ≡ all_entries may n r.entries
    same_entries = ap (λ (t : TableValue). t.entries) its_entries.others

    same_definitions : e.definitions ≡ c.definitions
    same_definitions = ap (λ (t : TableValue). t.definitions) its_entries.others

    still_defines : Defines may r n e
    still_defines = subst (Defines may r n) (sym its_entries.others) (record {
      version = defines.version;
      numbers = defines.numbers;
      names = defines.names;
      types = defines.types;
      rules = defines.rules;
      demands = defines.demands;
      actions = defines.actions;
    })

    say_rules : SayRules r its_rules.meanings n e
    say_rules =
        let sets : e.definitions.sets ≡ b.definitions.sets = ap (λ d. d.sets) same_definitions ∙ ap (λ (t : TableValue). t.definitions.sets) actions.others in
        let patterns : e.definitions.rules ≡ b.definitions.rules = ap (λ d. d.rules) same_definitions ∙ ap (λ (t : TableValue). t.definitions.rules) actions.others in
        subst (λ (x : List Pattern). SayTheRules r its_rules.meanings n (record { entries = e.entries; sets = e.definitions.sets; rules = x })) (sym patterns)
        (subst (λ (x : List (List Span)). SayTheRules r its_rules.meanings n (record { entries = e.entries; sets = x; rules = b.definitions.rules })) (sym sets)
        (subst (λ (x : List Entry). SayTheRules r its_rules.meanings n (record { entries = x; sets = b.definitions.sets; rules = b.definitions.rules })) (sym same_entries)
        (its_rules.say_rules n refl)))

    asked_there : All (IsRuleOf r) (asked_rules r)
    asked_there =
        All-append (IsRuleOf r) (flat_map (λ e. asked e.condition ++ flat_map (λ v. asked v.condition) e.variants) r.entries) (flat_map (λ a. asked a.condition) r.actions)
        (λ k d l. is_rule r its_rules.meanings n e say_rules _ (its_entries.asked_for k d l))
        (λ k d l. is_rule r its_rules.meanings n e say_rules _ (actions.asked_for k d l))

    pub is_table_of : IsTableOf properties r e
    is_table_of = record {
      meanings = its_rules.meanings;
      numbering = n;
      names = record {
        once = its_rules.once;
        asked = asked_there;
        classes = its_rules.classes;
        rules = its_rules.named;
        rank = its_rules.rank;
        below = its_rules.below;
      };
      are_meant = its_rules.are_meant;
      says = record {
        well_formed = is;
        by_these = ap (λ d. d.properties) same_definitions ∙ c_by;
        defines = still_defines;
        of_one_type = its_entries.of_one_type;
        entries = same_entries;
        say_rules = say_rules;
      };
    }

-- ---- what each step asks for: nothing is defined at first, and no step defines what another one does

pub no_types : (p : Properties) (start : TableValue) → start ≡ empty_table p Three → start.definitions.types ≡ []
no_types p start begins = ap (λ (t : TableValue). t.definitions.types) begins

pub no_rules : (p : Properties) (may : ℕ → Bool) (r : Ruleset) (types : List (Option (List ℕ))) (start a : TableValue) → start ≡ empty_table p Three
    → AddsTypes may r types start a → HasNoRules a.definitions
no_rules p may r types start a begins adds = record {
  set_names = ap (λ (t : TableValue). t.definitions.set_names) adds.others ∙ ap (λ (t : TableValue). t.definitions.set_names) begins;
  sets = ap (λ (t : TableValue). t.definitions.sets) adds.others ∙ ap (λ (t : TableValue). t.definitions.sets) begins;
  rule_names = ap (λ (t : TableValue). t.definitions.rule_names) adds.others ∙ ap (λ (t : TableValue). t.definitions.rule_names) begins;
  rules = ap (λ (t : TableValue). t.definitions.rules) adds.others ∙ ap (λ (t : TableValue). t.definitions.rules) begins;
}

-- the table, the types and the rules
module _ (p : Properties) (may other : ℕ → Bool) (r : Ruleset) (types : List (Option (List ℕ))) (rules : List (List ℕ)) (start a b : TableValue)
    (begins : start ≡ empty_table p Three) (adds : AddsTypes may r types start a) (more : AddsRules other r types rules a b) where
  pub no_actions : b.definitions.actions ≡ []
  no_actions =
      ap (λ (t : TableValue). t.definitions.actions) more.others ∙ ap (λ (t : TableValue). t.definitions.actions) adds.others
      ∙ ap (λ (t : TableValue). t.definitions.actions) begins

  pub no_demands : b.definitions.demands ≡ []
  no_demands =
      ap (λ (t : TableValue). t.definitions.demands) more.others ∙ ap (λ (t : TableValue). t.definitions.demands) adds.others
      ∙ ap (λ (t : TableValue). t.definitions.demands) begins

  pub no_entries : (n : Numbering) (c : TableValue) → AddsActions r n b c → c.entries ≡ []
  no_entries n c actions =
      ap (λ (t : TableValue). t.entries) actions.others ∙ ap (λ (t : TableValue). t.entries) more.others ∙ ap (λ (t : TableValue). t.entries) adds.others
      ∙ ap (λ (t : TableValue). t.entries) begins

pub rules_counted : (may : ℕ → Bool) (r : Ruleset) (types : List (Option (List ℕ))) (rules : List (List ℕ)) (n : Numbering) (a b : TableValue)
    → AddsRules may r types rules a b → IsTable b → rules ≡ n.rules → length b.definitions.rule_names ≡ length n.rules
rules_counted may r types rules n a b adds is same = is.without_fault.named_rules ∙ adds.count ∙ ap length same

pub types_counted : (may other : ℕ → Bool) (r : Ruleset) (types : List (Option (List ℕ))) (rules : List (List ℕ)) (n : Numbering) (start a b c : TableValue)
    → AddsTypes may r types start a → AddsRules other r types rules a b → AddsActions r n b c → types ≡ n.types → length c.definitions.types ≡ length n.types
types_counted may other r types rules n start a b c adds more actions same =
    ap (λ (t : TableValue). length t.definitions.types) actions.others ∙ ap (λ (t : TableValue). length t.definitions.types) more.others
    ∙ types_count may r types start a adds ∙ ap length same

pub names_still : (r : Ruleset) (n : Numbering) (b c : TableValue) → AddsActions r n b c → length c.definitions.rule_names ≡ length b.definitions.rule_names
names_still r n b c actions = ap (λ (t : TableValue). length t.definitions.rule_names) actions.others
