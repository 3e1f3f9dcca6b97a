-- The names that a file uses, and what each has to be (RFC 7940, sections 5.2, 6.2.1, 6.3.4 and 7.1).
use Rattle.std.specs.Prelude.{◌≢◌, ℕ, ◌<◌, Option, Some, None, List, [], ◌∷◌, ◌++◌, All, AllPairs, Contains}
use Rattle.std.specs.List.{flat_map}
use Rattle.lgr_text.specs.Records.{Class, Condition, Meaning, Part, Ruleset}
use Rattle.lgr_text.specs.Records as lgr

-- ---- which names stand there

-- the classes that a class names
abbrev pub classes_in : Class → List (List ℕ)
classes_in (lgr.Listed spans) = []
classes_in (lgr.OfTag tag) = []
classes_in (lgr.OfProperty property) = []
classes_in (lgr.OfClass name) = name ∷ []
classes_in (lgr.Joined operation k l) = classes_in k ++ classes_in l
classes_in (lgr.Complement k) = classes_in k

-- the classes that a part of a rule has, and the rules that it names
abbrev pub classes_of : Part → List Class
classes_of (lgr.Of class) = class ∷ []
classes_of (lgr.Then p q) = classes_of p ++ classes_of q
classes_of (lgr.Choice p q) = classes_of p ++ classes_of q
classes_of (lgr.Times count p) = classes_of p
classes_of p = []

abbrev pub rules_in : Part → List (List ℕ)
rules_in (lgr.OfRule name) = name ∷ []
rules_in (lgr.Then p q) = rules_in p ++ rules_in q
rules_in (lgr.Choice p q) = rules_in p ++ rules_in q
rules_in (lgr.Times count p) = rules_in p
rules_in p = []

-- of what a name stands for: its classes, and the names of classes and of rules
abbrev pub all_classes : Meaning → List Class
all_classes (lgr.IsClass class) = class ∷ []
all_classes (lgr.IsRule rule) = classes_of rule

abbrev pub named_classes : Meaning → List (List ℕ)
named_classes meaning = flat_map classes_in (all_classes meaning)

abbrev pub named_rules : Meaning → List (List ℕ)
named_rules (lgr.IsClass class) = []
named_rules (lgr.IsRule rule) = rules_in rule

-- the rule of a condition
abbrev pub asked : Option Condition → List (List ℕ)
asked None = []
asked (Some c) = c.rule ∷ []

-- those of an entry and of its variants
abbrev pub asked_by : lgr.Entry → List (List ℕ)
asked_by e = asked e.condition ++ flat_map (λ v. asked v.condition) e.variants

-- the rules that conditions of entries, of variants and of actions name
abbrev pub asked_rules : Ruleset → List (List ℕ)
asked_rules r = flat_map asked_by r.entries ++ flat_map (λ a. asked a.condition) r.actions

-- ---- what each has to be

abbrev pub IsClassOf : Ruleset → List ℕ → Type 0
IsClassOf r name =
    (class : Class) × Contains r.definitions (record { name = name; meaning = lgr.IsClass class })

abbrev pub IsRuleOf : Ruleset → List ℕ → Type 0
IsRuleOf r name = (rule : Part) × Contains r.definitions (record { name = name; meaning = lgr.IsRule rule })

-- each name of a class or a rule is defined, once, and not by itself: those that a definition names have a lower rank
-- than its own
pub record HasItsNames (r : Ruleset) : Type 0 where
  pub once : AllPairs (λ d e. d.name ≢ e.name) r.definitions
  pub asked : All (IsRuleOf r) (asked_rules r)
  pub classes : All (λ d. All (IsClassOf r) (named_classes d.meaning)) r.definitions
  pub rules : All (λ d. All (IsRuleOf r) (named_rules d.meaning)) r.definitions
  pub rank : List ℕ → ℕ
  pub below : All (λ d. All (λ name. rank name < rank d.name) (named_classes d.meaning ++ named_rules d.meaning))
      r.definitions
