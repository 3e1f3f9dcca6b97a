-- Codes of what is defined, by which the values of definitions are told apart.
use Rattle.std.specs.Prelude.{◌≡◌, ℕ, ◌==◌, Bool, true, false, Option, List, [], ◌∷◌, ◌++◌, if◌then◌else◌, refl}
use Rattle.std.specs.Coded.{Coded, code_by, coded×, coded_ℕ, coded_bool, coded_list, coded_option}
use Rattle.std.proofs.Common.{sym, ap, ◌∙◌, append_assoc, append-nil}
use Rattle.label_patterns.specs.declared.condition.ConditionKind.{ConditionKind}
use Rattle.label_patterns.specs.declared.condition.ConditionKind.TheVariants.{When, Unless}
use Rattle.label_patterns.specs.declared.span.Span.{Span}
use Rattle.label_patterns.specs.Patterns.{Pattern, Point, Set, Any, Start, End, Anchor, Group, Optional, Many, Then}
use Rattle.label_patterns.specs.Patterns.{Either}
use Rattle.ruleset_text.specs.declared.definition.DemandKind.{DemandKind}
use Rattle.ruleset_text.specs.declared.definition.DemandKind.TheVariants.{Never, Always}
use Rattle.ruleset_text.specs.declared.action.TriggerKind.{TriggerKind}
use Rattle.ruleset_text.specs.declared.action.TriggerKind.TheVariants as trigger
use Rattle.ruleset_text.specs.declared.named_condition.NamedCondition.{NamedCondition}
use Rattle.ruleset_text.specs.Actions.{NamedAction, NamedTrigger}
use Rattle.ruleset_text.specs.Definitions.{Demand, Definitions}
use Rattle.variant_dispositions.specs.declared.disposition.Disposition.{Disposition}
use Rattle.variant_dispositions.specs.declared.disposition.Disposition.TheVariants.{Invalid, Blocked, Allocatable}
use Rattle.variant_dispositions.specs.declared.disposition.Disposition.TheVariants.{Activated, Valid}
use Rattle.idn_class.specs.declared.properties.Properties.{Properties}
use Rattle.idn_class.specs.declared.properties.Properties.TheVariants.{Profile, Unicode}

-- ---- patterns, each part before what it is a part of

abbrev pub numbers : Pattern → List (ℕ × ℕ)
numbers (Point c) = (0, c) ∷ []
numbers (Set n) = (1, n) ∷ []
numbers Any = (2, 0) ∷ []
numbers Start = (3, 0) ∷ []
numbers End = (4, 0) ∷ []
numbers Anchor = (5, 0) ∷ []
numbers (Group p) = numbers p ++ (6, 0) ∷ []
numbers (Optional p) = numbers p ++ (7, 0) ∷ []
numbers (Many p) = numbers p ++ (8, 0) ∷ []
numbers (Then p q) = numbers p ++ (numbers q ++ (9, 0) ∷ [])
numbers (Either p q) = numbers p ++ (numbers q ++ (10, 0) ∷ [])

abbrev pub with_one : (Pattern → Pattern) → List Pattern → List Pattern
with_one f [] = []
with_one f (p ∷ parts) = f p ∷ parts

abbrev pub with_two : (Pattern → Pattern → Pattern) → List Pattern → List Pattern
with_two f (q ∷ p ∷ parts) = f p q ∷ parts
with_two f parts = []

-- the parts so far, the last one first, with what a number adds
abbrev pub with_number : ℕ → ℕ → List Pattern → List Pattern
with_number kind n parts =
    if kind == 0 then Point n ∷ parts else
    if kind == 1 then Set n ∷ parts else
    if kind == 2 then Any ∷ parts else
    if kind == 3 then Start ∷ parts else
    if kind == 4 then End ∷ parts else
    if kind == 5 then Anchor ∷ parts else
    if kind == 6 then with_one Group parts else
    if kind == 7 then with_one Optional parts else
    if kind == 8 then with_one Many parts else
    if kind == 9 then with_two Then parts else with_two Either parts

abbrev pub with_numbers : List (ℕ × ℕ) → List Pattern → List Pattern
with_numbers [] parts = parts
with_numbers ((kind, n) ∷ numbers) parts = with_numbers numbers (with_number kind n parts)

abbrev pub last_part : List Pattern → Pattern
last_part [] = Any
last_part (p ∷ parts) = p

pub parts_back : (p : Pattern) (rest : List (ℕ × ℕ)) (parts : List Pattern) →
    with_numbers (numbers p ++ rest) parts ≡ with_numbers rest (p ∷ parts)
parts_back (Point c) rest parts = refl
parts_back (Set n) rest parts = refl
parts_back Any rest parts = refl
parts_back Start rest parts = refl
parts_back End rest parts = refl
parts_back Anchor rest parts = refl
parts_back (Group p) rest parts =
    ap (λ l. with_numbers l parts) (append_assoc (numbers p) ((6, 0) ∷ []) rest) ∙ parts_back p ((6, 0) ∷ rest) parts
parts_back (Optional p) rest parts =
    ap (λ l. with_numbers l parts) (append_assoc (numbers p) ((7, 0) ∷ []) rest) ∙ parts_back p ((7, 0) ∷ rest) parts
parts_back (Many p) rest parts =
    ap (λ l. with_numbers l parts) (append_assoc (numbers p) ((8, 0) ∷ []) rest) ∙ parts_back p ((8, 0) ∷ rest) parts
parts_back (Then p q) rest parts =
    ap (λ l. with_numbers l parts) (append_assoc (numbers p) (numbers q ++ (9, 0) ∷ []) rest)
    ∙ parts_back p ((numbers q ++ (9, 0) ∷ []) ++ rest) parts
    ∙ ap (λ l. with_numbers l (p ∷ parts)) (append_assoc (numbers q) ((9, 0) ∷ []) rest)
    ∙ parts_back q ((9, 0) ∷ rest) (p ∷ parts)
parts_back (Either p q) rest parts =
    ap (λ l. with_numbers l parts) (append_assoc (numbers p) (numbers q ++ (10, 0) ∷ []) rest)
    ∙ parts_back p ((numbers q ++ (10, 0) ∷ []) ++ rest) parts
    ∙ ap (λ l. with_numbers l (p ∷ parts)) (append_assoc (numbers q) ((10, 0) ∷ []) rest)
    ∙ parts_back q ((10, 0) ∷ rest) (p ∷ parts)

pub pattern_back : (p : Pattern) → last_part (with_numbers (numbers p) []) ≡ p
pattern_back p =
    ap (λ l. last_part (with_numbers l [])) (sym (append-nil (numbers p))) ∙ ap last_part (parts_back p [] [])

abbrev pub pattern_code : Coded Pattern
pattern_code =
    code_by (List (ℕ × ℕ)) (coded_list (coded× coded_ℕ coded_ℕ)) numbers (λ l. last_part (with_numbers l []))
    pattern_back

-- ---- spans and demands

abbrev pub span_code : Coded Span
span_code =
    code_by (ℕ × ℕ) (coded× coded_ℕ coded_ℕ) (λ s. (s.first, s.last)) (λ p. record { first = p.0; last = p.1 })
    (λ _. refl)

abbrev pub is_never : DemandKind → Bool
is_never Never = true
is_never Always = false

abbrev pub kind_from : Bool → DemandKind
kind_from true = Never
kind_from false = Always

pub kind_back : (kind : DemandKind) → kind_from (is_never kind) ≡ kind
kind_back Never = refl
kind_back Always = refl

abbrev pub kind_code : Coded DemandKind
kind_code = code_by Bool coded_bool is_never kind_from kind_back

abbrev pub demand_code : Coded Demand
demand_code =
    code_by (DemandKind × Pattern) (coded× kind_code pattern_code) (λ d. (d.kind, d.pattern))
    (λ p. record { kind = p.0; pattern = p.1 }) (λ _. refl)

-- ---- properties

abbrev pub is_profile : Properties → Bool
is_profile Profile = true
is_profile Unicode = false

abbrev pub properties_from : Bool → Properties
properties_from true = Profile
properties_from false = Unicode

pub properties_back : (properties : Properties) → properties_from (is_profile properties) ≡ properties
properties_back Profile = refl
properties_back Unicode = refl

abbrev pub properties_code : Coded Properties
properties_code = code_by Bool coded_bool is_profile properties_from properties_back

-- ---- actions

abbrev pub is_when : ConditionKind → Bool
is_when When = true
is_when Unless = false

abbrev pub condition_kind_from : Bool → ConditionKind
condition_kind_from true = When
condition_kind_from false = Unless

pub condition_kind_back : (kind : ConditionKind) → condition_kind_from (is_when kind) ≡ kind
condition_kind_back When = refl
condition_kind_back Unless = refl

abbrev pub condition_code : Coded NamedCondition
condition_code =
    code_by (Bool × List ℕ) (coded× coded_bool (coded_list coded_ℕ)) (λ c. (is_when c.kind, c.rule))
    (λ p. record { kind = condition_kind_from p.0; rule = p.1 })
    (λ c. ap (λ k. record { kind = k; rule = c.rule }) (condition_kind_back c.kind))

abbrev pub trigger_number : TriggerKind → ℕ
trigger_number trigger.Any = 0
trigger_number trigger.All = 1
trigger_number trigger.Only = 2

abbrev pub trigger_from : ℕ → TriggerKind
trigger_from n = if n == 0 then trigger.Any else if n == 1 then trigger.All else trigger.Only

pub trigger_back : (kind : TriggerKind) → trigger_from (trigger_number kind) ≡ kind
trigger_back trigger.Any = refl
trigger_back trigger.All = refl
trigger_back trigger.Only = refl

abbrev pub trigger_code : Coded NamedTrigger
trigger_code =
    code_by (ℕ × List (List ℕ)) (coded× coded_ℕ (coded_list (coded_list coded_ℕ)))
    (λ t. (trigger_number t.kind, t.types)) (λ p. record { kind = trigger_from p.0; types = p.1 })
    (λ t. ap (λ k. record { kind = k; types = t.types }) (trigger_back t.kind))

abbrev pub disposition_number : Disposition → ℕ
disposition_number Invalid = 0
disposition_number Blocked = 1
disposition_number Allocatable = 2
disposition_number Activated = 3
disposition_number Valid = 4

abbrev pub disposition_from : ℕ → Disposition
disposition_from n =
    if n == 0 then Invalid else if n == 1 then Blocked else if n == 2 then Allocatable else if n == 3 then Activated
    else Valid

pub disposition_back : (d : Disposition) → disposition_from (disposition_number d) ≡ d
disposition_back Invalid = refl
disposition_back Blocked = refl
disposition_back Allocatable = refl
disposition_back Activated = refl
disposition_back Valid = refl

abbrev pub action_code : Coded NamedAction
action_code =
    code_by (ℕ × (Option NamedCondition × Option NamedTrigger))
    (coded× coded_ℕ (coded× (coded_option condition_code) (coded_option trigger_code)))
    (λ a. (disposition_number a.disposition, (a.condition, a.trigger)))
    (λ p. record { disposition = disposition_from p.0; condition = p.1.0; trigger = p.1.1 })
    (λ a. ap (λ d. record { disposition = d; condition = a.condition; trigger = a.trigger })
    (disposition_back a.disposition))

-- ---- all definitions

abbrev pub names_code : Coded (List (List ℕ))
names_code = coded_list (coded_list coded_ℕ)

abbrev pub definitions_code : Coded Definitions
definitions_code =
    code_by (Properties
    × (List (List ℕ)
    × (List (List ℕ) × (List (List Span) × (List (List ℕ) × (List Pattern × (List Demand × List NamedAction)))))))
    (coded× properties_code
    (coded× names_code
    (coded× names_code
    (coded× (coded_list (coded_list span_code))
    (coded× names_code
    (coded× (coded_list pattern_code) (coded× (coded_list demand_code) (coded_list action_code))))))))
    (λ d. (d.properties, (d.types, (d.set_names, (d.sets, (d.rule_names, (d.rules, (d.demands, d.actions))))))))
    (λ t. record {
      properties = t.0;
      types = t.1.0;
      set_names = t.1.1.0;
      sets = t.1.1.1.0;
      rule_names = t.1.1.1.1.0;
      rules = t.1.1.1.1.1.0;
      demands = t.1.1.1.1.1.1.0;
      actions = t.1.1.1.1.1.1.1;
    })
    (λ _. refl)
