-- The rules of a table say what those of the file say, where all definitions were taken.
use Rattle.std.proofs.Common.{◌≡◌, ℕ, zero, suc, ◌<◌, ◌≤◌, inl, inr, Bool, List, [], ◌∷◌, map, length, get_or, Option, Some, None, refl, sym, ap, subst, ◌∙◌, arith}
use Rattle.std.specs.Prelude.{◌↔◌, IsTrue}
use Rattle.std.specs.List.{All, Contains, flat_map}
use Rattle.std.proofs.lemmas.List.Elements.{All-contains_itself, All-weaker, Contains-append_cases}
use Rattle.idn_class.specs.declared.properties.Properties.{Properties}
use Rattle.label_patterns.specs.declared.span.Span.{Span}
use Rattle.label_patterns.specs.Laws.{seen}
use Rattle.label_patterns.specs.Patterns.{Anchor}
use Rattle.label_patterns.specs.Rules.{Holds}
use Rattle.label_patterns.specs.Sets.{is_in}
use Rattle.ruleset_text.specs.Names.{number_of}
use Rattle.lgr_text.proofs.PartLemmas.{begins-so}
use Rattle.lgr_text.specs.ClassMembers.{class_fault, has, set_fault}
use Rattle.lgr_text.specs.DefinitionOrder.{IsOrder}
use Rattle.lgr_text.specs.Known.{Known}
use Rattle.lgr_text.specs.PartMatches as parts
use Rattle.lgr_text.specs.PartMatches.{IsOf, MatchesAround, Place, name_fault, rule_named}
use Rattle.lgr_text.specs.Records.{Definition, Entry, IsClass, IsRule, Part, file}
use Rattle.lgr_text.specs.declared.records.Ruleset as held
use Rattle.variant_table.specs.Entries as table
use Rattle.variant_table.specs.Entries.{TableValue}
use Rattle.lgr_text.specs.Repertoire.{kept_sources}
use Rattle.lgr_table.specs.Entries.{all_entries, entries_of, entry_with}
use Rattle.lgr_text.specs.Meanings.{AreMeaningsOf, IsKept, Matches, Meanings}
use Rattle.lgr_text.specs.Names.{IsClassOf, IsRuleOf, all_classes, named_classes, named_rules}
use Rattle.lgr_table.specs.Numbers.{Numbering}
use Rattle.lgr_table.specs.Tables.{IsOfSources, SayRules, SaysRule, may_stand}
use Rattle.lgr_table.specs.inner.FaultSteps.{HasRulesOf}
use Rattle.lgr_table.specs.inner.RuleSteps.{HasOtherRules}
use Rattle.lgr_table.specs.TableNames.{names_with}
use Rattle.lgr_table.specs.inner.TableNames.{AreRuleNames}
use Rattle.lgr_table.specs.inner.Steps.{AddsRules}
use Rattle.lgr_table.proofs.ActionLemmas.{name_there}
use Rattle.lgr_table.proofs.AgreeLemmas.{agree-named, parts-agree}
use Rattle.lgr_table.proofs.DecisionLemmas.{matches_around, around-agrees}
use Rattle.lgr_table.proofs.NumberLemmas.{number-at}
use Rattle.lgr_table.proofs.PointLemmas.{kept-within}
use Rattle.lgr_table.proofs.TakenLemmas.{AreTaken, IsBelow, IsPatternOf, classes-free, meant-free, names_of, rule-taken, rules-free, set-taken, sets-free}
use Rattle.lgr_table.proofs.TakenOrderLemmas.{all-chosen, chosen, chosen-all, once}

-- ---- labels of code points of sources

pub in-one : {X Y : Type 0} (f : X → List Y) (xs : List X) (y : Y) → Contains (flat_map f xs) y → (x : X) × Contains xs x × Contains (f x) y
in-one f [] y h = absurd (omega (arith, h.1))
in-one f (x ∷ xs) y h = elim (Contains-append_cases (f x) (flat_map f xs) y h) [
  | inl here ↦ (x, (0, omega arith, refl), here)
  | inr later ↦ (let rest = in-one f xs y later in (rest.0, (suc rest.1.0, omega (arith, rest.1.1), rest.1.2), rest.2))
]

pub of-one : {X Y : Type 0} (f : X → Y) (xs : List X) (y : Y) → Contains (map f xs) y → (x : X) × Contains xs x × (f x ≡ y)
of-one f [] y h = absurd (omega (arith, h.1))
of-one f (x ∷ xs) y h = at h.0 h.1 h.2 (of-one f xs y)
  where
    at : (k : ℕ) → k < length (map f (x ∷ xs)) → get_or (map f (x ∷ xs)) k y ≡ y
        → (Contains (map f xs) y → (z : _) × Contains xs z × (f z ≡ y)) → (z : _) × Contains (x ∷ xs) z × (f z ≡ y)
    at zero less is rest = (x, (0, omega arith, refl), is)
    at (suc k) less is rest =
        (let later = rest (k, omega (arith, less), is) in (later.0, (suc later.1.0, omega (arith, later.1.1), later.1.2), later.2))

source-kept : (may : ℕ → Bool) (n : Numbering) (entries : List Entry) (e : table.Entry) (c : ℕ) → Contains (all_entries may n entries) e
    → Contains e.source c → IsKept may entries c
source-kept may n entries e c h k =
    let found = in-one (entries_of may n) entries e h in
    let made = of-one (entry_with may n found.0) (kept_sources may found.0) e found.2 in
    (found.0, made.0, found.1, made.1, subst (λ (f : table.Entry). Contains f.source c) (sym made.2) k)

pub sources-kept : (may : ℕ → Bool) (n : Numbering) (entries : List Entry) (label : List ℕ) → IsOfSources (all_entries may n entries) label
    → All (IsKept may entries) label
sources-kept may n entries label of =
    All-weaker (λ c. (e : table.Entry) × Contains (all_entries may n entries) e × Contains e.source c) (IsKept may entries) (λ c h. source-kept may n entries h.0 c h.1 h.2) label of

kept-points : (properties : Properties) (entries : List Entry) (points : List Span) (label : List ℕ)
    → ((c : ℕ) → IsTrue (is_in points c) ↔ IsKept (may_stand properties) entries c) → All (IsKept (may_stand properties) entries) label
    → IsOf points label
kept-points properties entries points label are kept =
    All-weaker (IsKept (may_stand properties) entries) (λ c. IsTrue (is_in points c) × (c ≤ 0x10FFFF)) (λ c h. ((are c).1 h, kept-within properties entries c h)) label kept

-- ---- the meanings

abbrev meanings_by : Known → List (List Span) → Meanings
meanings_by known sets = record { known = known; matches = λ label at name i j. matches_around (seen sets label) at (rule_named known name) i j }

-- by what patterns match, or as it is decided
decided : (known : Known) (sets : List (List Span)) (label : List ℕ) (at : Option Place) (rule : Part) (i j : ℕ)
    → parts.Matching known rule (seen sets label) at i j ↔ Matches (meanings_by known sets) label at rule i j
decided known sets label at rule i j =
    let s = seen sets label in
    let R : Option Place → List ℕ → ℕ → ℕ → Type 0 = λ place name k l. MatchesAround s place (rule_named known name) k l in
    let S : Option Place → List ℕ → ℕ → ℕ → Type 0 = λ place name k l. IsTrue (matches_around s place (rule_named known name) k l) in
    parts-agree (has known) (has known) R S label at rule
    (agree-named label (has known) (R at) (S at) (λ name k l. (let e = around-agrees s at (rule_named known name) k l in (e.1, e.0))) rule) i j

-- the file, its definitions in order, and what is known of them; the table before and after
module _ (properties : Properties) (raw : held.Ruleset) (order : List ℕ) (points : List Span) (known : Known) (t u : TableValue)
    (is_order : IsOrder raw.definitions.items order)
    (are_points : (c : ℕ) → IsTrue (is_in points c) ↔ IsKept (may_stand properties) (file raw).entries c)
    (taken : AreTaken (file raw).entries points known u.definitions.sets (chosen (file raw).definitions order))
    (rules : known.rules ≡ u.definitions.rules)
    (others : HasOtherRules t u) where
  abbrev may : ℕ → Bool
  may = may_stand properties

  each_free : (P : Definition → Type 0) → ((d : Definition) → Contains (chosen (file raw).definitions order) d → P d) → All P (file raw).definitions
  each_free P f =
      All-weaker (Contains (file raw).definitions) P (λ d h. f d (all-chosen raw.definitions.items order d is_order h))
      (file raw).definitions (All-contains_itself (file raw).definitions)

  label-of : (label : List ℕ) → All (IsKept may (file raw).entries) label → IsOf known.points label
  label-of label kept =
      subst (λ l. IsOf l label) (sym taken.points) (kept-points properties (file raw).entries points label are_points kept)

  are_meant : AreMeaningsOf may (file raw) (meanings_by known u.definitions.sets)
  are_meant = record {
    entries = taken.entries;
    classes = λ name class c le h.
        (taken.meant (record { name = name; meaning = IsClass class }) (all-chosen raw.definitions.items order _ is_order h)).members c le;
    no_fault = each_free (λ d. All (λ k. class_fault known k ≡ None) (all_classes d.meaning))
        (λ d h. classes-free known d.meaning (meant-free known u.definitions.sets d.name d.meaning (taken.meant d h)));
    rules = λ name rule label at i j kept h.
        let sets = u.definitions.sets in
        let meant : IsPatternOf known sets name rule = taken.meant (record { name = name; meaning = IsRule rule }) (all-chosen raw.definitions.items order _ is_order h) in
        let around = around-agrees (seen sets label) at (rule_named known name) i j in
        let as_part = meant.matches sets label at i j (begins-so sets) (label-of label kept) in
        let by = decided known sets label at rule i j in
        (λ k. by.0 (as_part.0 (around.0 k)), λ k. around.1 (as_part.1 (by.1 k)));
  }

  says : (n : Numbering) (k : ℕ) (rule : Part) → k < length known.rule_names → IsPatternOf known u.definitions.sets (get_or known.rule_names k []) rule
      → SaysRule (meanings_by known u.definitions.sets) (all_entries may n (file raw).entries) u.definitions (get_or u.definitions.rules k Anchor) rule
  says n k rule less meant label i j of i_within j_within =
      let sets = u.definitions.sets in
      let same : rule_named known (get_or known.rule_names k []) ≡ get_or u.definitions.rules k Anchor =
      ap (λ l. get_or known.rules l Anchor) (number-at known.rule_names k taken.apart less) ∙ ap (λ l. get_or l k Anchor) rules in
      let place : Option Place = Some (record { start = i; end = j }) in
      let holds = meant.says sets label i j (begins-so sets) (label-of label (sources-kept may n (file raw).entries label of)) i_within j_within in
      let by = decided known sets label place rule in (
        λ h. (let f = holds.0 (subst (λ q. Holds (seen sets label) q i j) (sym same) h) in (f.0, f.1, f.2, (by f.0 f.1).0 f.3)),
        λ h. subst (λ q. Holds (seen sets label) q i j) same (holds.1 (h.0, h.1, h.2, (by h.0 h.1).1 h.3)),
      )

  say_rules : (n : Numbering) → n.rules ≡ known.rule_names
      → SayRules (file raw) (meanings_by known u.definitions.sets) n (record u { entries = all_entries may n (file raw).entries })
  say_rules n e k less =
      let few : k < length known.rule_names = let size = ap length e in omega (arith, less, size) in
      let found = taken.of_rules k few in
      let name : get_or known.rule_names k [] ≡ get_or n.rules k [] = ap (λ l. get_or l k []) (sym e) in (
        found.0,
        subst (λ x. Contains (file raw).definitions (record { name = x; meaning = IsRule found.0 })) name
            (chosen-all raw.definitions.items order _ is_order found.1),
        says n k found.0 few (taken.meant _ found.1),
      )

  class-of : (name : List ℕ) → set_fault known name ≡ None → IsClassOf (file raw) name
  class-of name none =
      let found = set-taken (file raw).entries points known u.definitions.sets (chosen (file raw).definitions order) name taken none in
      (found.0, chosen-all raw.definitions.items order _ is_order found.1)

  rule-of : (name : List ℕ) → name_fault known name ≡ None → IsRuleOf (file raw) name
  rule-of name none =
      let found = rule-taken (file raw).entries points known u.definitions.sets (chosen (file raw).definitions order) name taken none in
      (found.0, chosen-all raw.definitions.items order _ is_order found.1)

  -- each rule of the file is one of them
  pub all-rules : HasRulesOf raw known.rule_names
  all-rules name is =
      let meant : IsPatternOf known u.definitions.sets name is.0 = taken.meant (record { name = name; meaning = IsRule is.0 }) (all-chosen raw.definitions.items order _ is_order is.1) in
      name_there known.rule_names name (omega (arith, meant.found, taken.each_rule))

  pub adds-rules : (types : List (Option (List ℕ))) → AreRuleNames (names_with types (file raw)) known.rule_names u.definitions
      → AddsRules may (file raw) types known.rule_names t u
  adds-rules types called = record {
    others = others;
    count = sym (ap length rules) ∙ sym taken.each_rule;
    each_rule = taken.apart;
    called = called;
    meanings = meanings_by known u.definitions.sets;
    are_meant = are_meant;
    say_rules = say_rules;
    once = once raw.definitions.items order is_order;
    classes = each_free (λ d. All (IsClassOf (file raw)) (named_classes d.meaning)) (λ d h.
        All-weaker (λ name. set_fault known name ≡ None) (IsClassOf (file raw)) class-of (named_classes d.meaning)
        (sets-free known d.meaning (meant-free known u.definitions.sets d.name d.meaning (taken.meant d h))));
    named = each_free (λ d. All (IsRuleOf (file raw)) (named_rules d.meaning)) (λ d h.
        All-weaker (λ name. name_fault known name ≡ None) (IsRuleOf (file raw)) rule-of (named_rules d.meaning)
        (rules-free known d.meaning (meant-free known u.definitions.sets d.name d.meaning (taken.meant d h))));
    rank = number_of (names_of (chosen (file raw).definitions order));
    below = each_free (IsBelow (chosen (file raw).definitions order)) taken.below;
  }
