-- No canonical line has a line feed or a carriage return.
use Rattle.std.proofs.Common.{◌≡◌, ℕ, zero, suc, ◌+◌, ◌/◌, ◌%◌, ◌≤◌, Bool, true, false, ◌&&◌, cond, eqb, leb, List, [], ◌∷◌, ◌++◌, map, length, refl, sym, ap, ◌∙◌, arith}
use Rattle.std.specs.Prelude.{nat_lt, slice_index_or, codes}
use Rattle.std.specs.List.{AllByRecursion, list_all}
use Rattle.std.proofs.lemmas.Bool.{and_parts, eqb-true, ne_eqb}
use Rattle.label_patterns.specs.declared.span.Span.{Span}
use Rattle.label_patterns.specs.Patterns.{Pattern, Point, Set, Any, Start, End, Anchor, Group, Optional, Many, Then, Either}
use Rattle.ruleset_text.specs.declared.definition.DemandKind.{DemandKind}
use Rattle.ruleset_text.specs.declared.definition.DemandKind.TheVariants.{Never, Always}
use Rattle.label_patterns.specs.Rules.{is_context_rule}
use Rattle.ruleset_text.specs.declared.action.TriggerKind.{TriggerKind}
use Rattle.ruleset_text.specs.declared.action.TriggerKind.TheVariants as trigger
use Rattle.ruleset_text.specs.declared.named_condition.NamedCondition.{NamedCondition}
use Rattle.ruleset_text.specs.Actions.{NamedAction, NamedTrigger, IsAction, HasTypes, action_text, disposition_word, names_text, trigger_text, trigger_word}
use Rattle.ruleset_text.specs.Canonical.{point_text, pattern_text, span_text, spans_text, definition_text, rule_word}
use Rattle.idn_text.specs.Points.{four_digits, hex_digit}
use Rattle.ruleset_text.specs.Definition as definition
use Rattle.ruleset_text.specs.Definition.{Definition}
use Rattle.ruleset_text.specs.Definitions.{Demand, Definitions, named, all_definitions, canonical_lines, type_names}
use Rattle.ruleset_text.specs.NamedConditions.{HasRule, condition_text, condition_word}
use Rattle.ruleset_text.specs.Names.{is_letter, is_name_byte, is_name, predefined_types, AreNames}
use Rattle.ruleset_text.specs.WellFormed.{IsDefinition, AreDefinitions}
use Rattle.ruleset_text.proofs.KnownPatternLemmas.{actions_are}
use Rattle.idn_class.specs.declared.properties.Properties.{Properties}
use Rattle.label_patterns.specs.declared.condition.ConditionKind.{ConditionKind}
use Rattle.label_patterns.specs.declared.condition.ConditionKind.TheVariants.{When, Unless}
use Rattle.std.specs.Prelude.{Option, Some, None}
use Rattle.variant_dispositions.specs.declared.disposition.Disposition.{Disposition}
use Rattle.variant_dispositions.specs.declared.disposition.Disposition.TheVariants.{Invalid, Blocked, Allocatable, Activated, Valid}

abbrev pub IsInLine : ℕ → Type 0
IsInLine b = (eqb b 10 ≡ false) × (eqb b 13 ≡ false)

abbrev pub AreInLine : List ℕ → Type 0
AreInLine text = AllByRecursion IsInLine text

pub joined : (a b : List ℕ) → AreInLine a → AreInLine b → AreInLine (a ++ b)
joined [] b h k = k
joined (c ∷ a) b h k = (h.0, joined a b h.1 k)

-- ---- code points

above : (b : ℕ) → 48 ≤ b → IsInLine b
above b l = (ne_eqb b 10 (λ e. omega (arith, e, l)), ne_eqb b 13 (λ e. omega (arith, e, l)))

digit : (d : ℕ) → IsInLine (hex_digit d)
digit d = above (hex_digit d) (by_cases (nat_lt d 10))
  where
    by_cases : (b : Bool) → 48 ≤ cond b (48 + d) (55 + d)
    by_cases true = omega arith
    by_cases false = omega arith

four : (c : ℕ) → AreInLine (four_digits c)
four c = (digit (c / 4096 % 16), (digit (c / 256 % 16), (digit (c / 16 % 16), (digit (c % 16), tt))))

pub point_in_line : (c : ℕ) → AreInLine (point_text c)
unfolding point_text
point_in_line c = by_cases (nat_lt c 65536) (nat_lt c 1048576)
  where
    by_cases : (a b : Bool) → AreInLine (cond a (four_digits c) (cond b (hex_digit (c / 65536 % 16) ∷ four_digits c) (hex_digit (c / 1048576 % 16) ∷ hex_digit (c / 65536 % 16) ∷ four_digits c)))
    by_cases true b = four c
    by_cases false true = (digit (c / 65536 % 16), four c)
    by_cases false false = (digit (c / 1048576 % 16), (digit (c / 65536 % 16), four c))

-- ---- names

other_byte : (test : ℕ → Bool) (k c : ℕ) → test k ≡ false → test c ≡ true → eqb c k ≡ false
other_byte test k c none some = by_cases (eqb c k) refl
  where
    by_cases : (b : Bool) → eqb c k ≡ b → eqb c k ≡ false
    by_cases false f = f
    by_cases true f = let both : true ≡ false = sym some ∙ ap test (eqb-true c k f) ∙ none in absurd cc

pub name_bytes : (cs : List ℕ) → list_all is_name_byte cs ≡ true → AreInLine cs
name_bytes [] h = tt
name_bytes (c ∷ cs) h = let p = and_parts (is_name_byte c) (list_all is_name_byte cs) h in ((other_byte is_name_byte 10 c refl p.0, other_byte is_name_byte 13 c refl p.0), name_bytes cs p.1)

pub name_in_line : (name : List ℕ) → is_name name ≡ true → AreInLine name
name_in_line [] h = tt
name_in_line (c ∷ cs) h =
    let p = and_parts (is_letter c && leb (length cs) 31) (list_all is_name_byte cs) h in
    let letter = (and_parts (is_letter c) (leb (length cs) 31) p.0).0 in
    ((other_byte is_letter 10 c refl letter, other_byte is_letter 13 c refl letter), name_bytes cs p.1)

names_in_line : (names : List (List ℕ)) → AreNames names → AllByRecursion AreInLine names
names_in_line [] h = tt
names_in_line (name ∷ names) h = (name_in_line name h.0, names_in_line names h.2)

-- ---- patterns and sets

set_in_line : (names : List (List ℕ)) (n : ℕ) → AllByRecursion AreInLine names → AreInLine (slice_index_or names n [])
set_in_line [] n h = tt
set_in_line (name ∷ names) zero h = h.0
set_in_line (name ∷ names) (suc n) h = set_in_line names n h.1

pattern_in_line : (names : List (List ℕ)) (p : Pattern) → AllByRecursion AreInLine names → AreInLine (pattern_text names p)
pattern_in_line names (Point c) h = point_in_line c
pattern_in_line names (Set n) h = ((refl, refl), set_in_line names n h)
pattern_in_line names Any h = ((refl, refl), tt)
pattern_in_line names Start h = ((refl, refl), tt)
pattern_in_line names End h = ((refl, refl), tt)
pattern_in_line names Anchor h = ((refl, refl), tt)
pattern_in_line names (Group p) h = ((refl, refl), joined (pattern_text names p) (41 ∷ []) (pattern_in_line names p h) ((refl, refl), tt))
pattern_in_line names (Optional p) h = joined (pattern_text names p) (63 ∷ []) (pattern_in_line names p h) ((refl, refl), tt)
pattern_in_line names (Many p) h = joined (pattern_text names p) (42 ∷ []) (pattern_in_line names p h) ((refl, refl), tt)
pattern_in_line names (Then p q) h = joined (pattern_text names p) (32 ∷ pattern_text names q) (pattern_in_line names p h) ((refl, refl), pattern_in_line names q h)
pattern_in_line names (Either p q) h =
    joined (pattern_text names p) (32 ∷ 47 ∷ 32 ∷ pattern_text names q) (pattern_in_line names p h) ((refl, refl), ((refl, refl), ((refl, refl), pattern_in_line names q h)))

span_in_line : (s : Span) → AreInLine (span_text s)
span_in_line s = by_cases (eqb s.first s.last)
  where
    by_cases : (b : Bool) → AreInLine (cond b (point_text s.first) (point_text s.first ++ 46 ∷ 46 ∷ point_text s.last))
    by_cases true = point_in_line s.first
    by_cases false = joined (point_text s.first) (46 ∷ 46 ∷ point_text s.last) (point_in_line s.first) ((refl, refl), ((refl, refl), point_in_line s.last))

spans_in_line : (spans : List Span) → AreInLine (spans_text spans)
spans_in_line [] = tt
spans_in_line (s ∷ spans) = ((refl, refl), joined (span_text s) (spans_text spans) (span_in_line s) (spans_in_line spans))

-- ---- definitions

abbrev HasNoEnd : List (List ℕ) → Definition → Type 0
HasNoEnd names x = AreInLine (definition_text names x)

types_in_line : (names types : List (List ℕ)) → AllByRecursion AreInLine types → AllByRecursion (HasNoEnd names) (map definition.VariantType types)
types_in_line names [] h = tt
types_in_line names (name ∷ types) h =
    (joined (codes "%type ") name ((refl, refl), ((refl, refl), ((refl, refl), ((refl, refl), ((refl, refl), ((refl, refl), tt)))))) h.0, types_in_line names types h.1)

sets_in_line : (names own : List (List ℕ)) (sets : List (List Span)) → AllByRecursion AreInLine own → AllByRecursion (HasNoEnd names) (named definition.Set own sets)
sets_in_line names [] sets h = tt
sets_in_line names (name ∷ own) [] h = tt
sets_in_line names (name ∷ own) (spans ∷ sets) h = (
  joined (codes "%set ") (name ++ spans_text spans) ((refl, refl), ((refl, refl), ((refl, refl), ((refl, refl), ((refl, refl), tt))))) (joined name (spans_text spans) h.0 (spans_in_line spans)),
  sets_in_line names own sets h.1,
)

word_in_line : (b : Bool) → AreInLine (rule_word b)
word_in_line true = ((refl, refl), ((refl, refl), ((refl, refl), ((refl, refl), ((refl, refl), ((refl, refl), tt))))))
word_in_line false = ((refl, refl), ((refl, refl), ((refl, refl), ((refl, refl), ((refl, refl), ((refl, refl), ((refl, refl), tt)))))))

rules_in_line : (names own : List (List ℕ)) (rules : List Pattern) → AllByRecursion AreInLine names → AllByRecursion AreInLine own → AllByRecursion (HasNoEnd names) (named definition.Rule own rules)
rules_in_line names [] rules k h = tt
rules_in_line names (name ∷ own) [] k h = tt
rules_in_line names (name ∷ own) (p ∷ rules) k h = (
  joined (rule_word (is_context_rule p)) (name ++ 32 ∷ pattern_text names p) (word_in_line (is_context_rule p)) (joined name (32 ∷ pattern_text names p) h.0 ((refl, refl), pattern_in_line names p k)),
  rules_in_line names own rules k h.1,
)

demand_in_line : (names : List (List ℕ)) (d : Demand) → AllByRecursion AreInLine names → HasNoEnd names (definition.Demand d.kind d.pattern)
demand_in_line names d k = by_kind d.kind
  where
    by_kind : (kind : DemandKind) → HasNoEnd names (definition.Demand kind d.pattern)
    by_kind Never =
        joined (codes "%never") (32 ∷ pattern_text names d.pattern) ((refl, refl), ((refl, refl), ((refl, refl), ((refl, refl), ((refl, refl), ((refl, refl), tt)))))) ((refl, refl), pattern_in_line names d.pattern k)
    by_kind Always =
        joined (codes "%always") (32 ∷ pattern_text names d.pattern) ((refl, refl), ((refl, refl), ((refl, refl), ((refl, refl), ((refl, refl), ((refl, refl), ((refl, refl), tt))))))) ((refl, refl), pattern_in_line names d.pattern k)

demands_in_line : (names : List (List ℕ)) (demands : List Demand) → AllByRecursion AreInLine names → AllByRecursion (HasNoEnd names) (map (λ e. definition.Demand e.kind e.pattern) demands)
demands_in_line names [] k = tt
demands_in_line names (d ∷ demands) k = (demand_in_line names d k, demands_in_line names demands k)

-- ---- actions

disposition_in_line : (d : Disposition) → AreInLine (disposition_word d)
disposition_in_line Invalid = name_in_line (disposition_word Invalid) refl
disposition_in_line Blocked = name_in_line (disposition_word Blocked) refl
disposition_in_line Allocatable = name_in_line (disposition_word Allocatable) refl
disposition_in_line Activated = name_in_line (disposition_word Activated) refl
disposition_in_line Valid = name_in_line (disposition_word Valid) refl

trigger_word_in_line : (kind : TriggerKind) → AreInLine (trigger_word kind)
trigger_word_in_line trigger.Any = name_in_line (trigger_word trigger.Any) refl
trigger_word_in_line trigger.All = name_in_line (trigger_word trigger.All) refl
trigger_word_in_line trigger.Only = name_in_line (trigger_word trigger.Only) refl

condition_in_line : (c : Option NamedCondition) → HasRule c → AreInLine (condition_text c)
condition_in_line None rule = tt
condition_in_line (Some c) rule = by c.kind
  where
    own : AreInLine c.rule
    own = name_in_line c.rule rule

    by : (kind : ConditionKind) → AreInLine (condition_word kind ++ c.rule)
    by When = joined (codes " when ") c.rule ((refl, refl), ((refl, refl), ((refl, refl), ((refl, refl), ((refl, refl), ((refl, refl), tt)))))) own
    by Unless = joined (codes " unless ") c.rule ((refl, refl), ((refl, refl), ((refl, refl), ((refl, refl), ((refl, refl), ((refl, refl), ((refl, refl), ((refl, refl), tt)))))))) own

types_text_in_line : (names : List (List ℕ)) → AreNames names → AreInLine (names_text names)
types_text_in_line [] are = tt
types_text_in_line (name ∷ []) are = name_in_line name are.0
types_text_in_line (name ∷ other ∷ names) are = joined name (44 ∷ names_text (other ∷ names)) (name_in_line name are.0) ((refl, refl), types_text_in_line (other ∷ names) are.2)

trigger_in_line : (t : Option NamedTrigger) → HasTypes t → AreInLine (trigger_text t)
trigger_in_line None types = tt
trigger_in_line (Some t) types =
    ((refl, refl), joined (trigger_word t.kind) (32 ∷ names_text t.types) (trigger_word_in_line t.kind) ((refl, refl), types_text_in_line t.types types.1))

action_in_line : (names : List (List ℕ)) (a : NamedAction) → IsAction a → HasNoEnd names (definition.Action a)
action_in_line names a is =
    joined (codes "%action ") (action_text a) ((refl, refl), ((refl, refl), ((refl, refl), ((refl, refl), ((refl, refl), ((refl, refl), ((refl, refl), ((refl, refl), tt))))))))
    (joined (disposition_word a.disposition) (condition_text a.condition ++ trigger_text a.trigger) (disposition_in_line a.disposition)
    (joined (condition_text a.condition) (trigger_text a.trigger) (condition_in_line a.condition is.rule) (trigger_in_line a.trigger is.types)))

actions_in_line : (properties : Properties) (sets names : List (List ℕ)) (actions : List NamedAction) → AllByRecursion (IsDefinition properties sets) (map definition.Action actions)
    → AllByRecursion (HasNoEnd names) (map definition.Action actions)
actions_in_line properties sets names [] all = tt
actions_in_line properties sets names (a ∷ actions) all = (action_in_line names a all.0.parts, actions_in_line properties sets names actions all.1)

pub all_joined : {X : Type 0} (P : X → Type 0) (a b : List X) → AllByRecursion P a → AllByRecursion P b → AllByRecursion P (a ++ b)
all_joined P [] b h k = k
all_joined P (x ∷ a) b h k = (h.0, all_joined P a b h.1 k)

all_cut : (P : List ℕ → Type 0) (a b : List (List ℕ)) → AllByRecursion P (a ++ b) → AllByRecursion P a × AllByRecursion P b
all_cut P [] b h = (tt, h)
all_cut P (x ∷ a) b h = let r = all_cut P a b h.1 in ((h.0, r.0), r.1)

lines_of : (names : List (List ℕ)) (xs : List Definition) → AllByRecursion (HasNoEnd names) xs → AllByRecursion AreInLine (map (definition_text names) xs)
lines_of names [] h = tt
lines_of names (x ∷ xs) h = (h.0, lines_of names xs h.1)

pub lines_in_line : (d : Definitions) → AreDefinitions d → AllByRecursion AreInLine (canonical_lines d)
lines_in_line d are =
    let all = all_cut AreInLine (type_names d) (d.set_names ++ d.rule_names) (names_in_line (type_names d ++ (d.set_names ++ d.rule_names)) are.names) in
    let types = all_cut AreInLine predefined_types d.types all.0 in
    let own = all_cut AreInLine d.set_names d.rule_names all.1 in
    lines_of d.set_names (all_definitions d)
    (all_joined (HasNoEnd d.set_names) (map definition.VariantType d.types) _ (types_in_line d.set_names d.types types.1)
    (all_joined (HasNoEnd d.set_names) (named definition.Set d.set_names d.sets) _ (sets_in_line d.set_names d.set_names d.sets own.0)
    (all_joined (HasNoEnd d.set_names) (named definition.Rule d.rule_names d.rules) _ (rules_in_line d.set_names d.rule_names d.rules own.0 own.1)
    (all_joined (HasNoEnd d.set_names) (map (λ e. definition.Demand e.kind e.pattern) d.demands) (map definition.Action d.actions) (demands_in_line d.set_names d.demands own.0)
    (actions_in_line d.properties d.set_names d.set_names d.actions (actions_are d are))))))
