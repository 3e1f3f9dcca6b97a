-- What each definition of a file adds to what is known.
use Rattle.std.specs.Prelude.{◌≡◌, ℕ, ◌≤◌, List, [], ◌∷◌, ◌++◌, None, length}
use Rattle.label_patterns.specs.declared.span.Span.{Span}
use Rattle.label_patterns.specs.Matches.{HasItsSets}
use Rattle.label_patterns.specs.Patterns.{Pattern}
use Rattle.label_patterns.specs.Rules.{is_context_rule}
use Rattle.label_patterns.specs.Sets.{is_in}
use Rattle.lgr_text.specs.ClassMembers.{class_fault, has}
use Rattle.lgr_text.specs.Known.{Known}
use Rattle.lgr_text.specs.PartMatches.{part_fault, has_anchor, BeginsWith, MatchesAsPart, SaysRule}
use Rattle.lgr_text.specs.Records.{Class, Entry, IsClass, IsRule, Meaning, Part}
use Rattle.lgr_table.specs.declared.taken.Taken.{Taken}
use Rattle.ruleset_text.specs.Definitions.{Definitions}
use Rattle.variant_table.specs.Entries.{TableValue}

-- what is known after the definitions that were taken, where the table has these rules
abbrev pub known_by : List Entry → List Span → Taken → List Pattern → Known
known_by entries points taken rules = record {
  entries = entries;
  set_names = taken.set_names.items;
  sets = taken.sets.items;
  rule_names = taken.rule_names.items;
  rules = rules;
  points = points;
}

-- the name stands for the set of a class
pub record AddsSet (known : Known) (name : List ℕ) (class : Class) (new : Known) : Type 0 where
  pub set : List Span
  pub members : (c : ℕ) → c ≤ 0x10FFFF → is_in set c ≡ has known class c
  pub no_fault : class_fault known class ≡ None
  pub is : new ≡ record known { set_names = known.set_names ++ name ∷ []; sets = known.sets ++ set ∷ [] }

-- the name stands for the pattern of a rule, which may name further sets
pub record AddsPattern (known : Known) (sets : List (List Span)) (name : List ℕ) (rule : Part) (new : Known)
    (more : List (List Span)) : Type 0 where
  pub p : Pattern
  pub no_fault : part_fault known rule ≡ None
  pub has_sets : HasItsSets (length more) p
  pub says : SaysRule known more p rule
  pub matches : MatchesAsPart known more p rule
  pub anchor : is_context_rule p ≡ has_anchor known rule
  pub kept : BeginsWith more sets
  pub is : new ≡ record known { rule_names = known.rule_names ++ name ∷ []; rules = known.rules ++ p ∷ [] }

-- the name stands for this, among these sets of patterns before and after it
abbrev pub AddsMeaning : Known → List (List Span) → List ℕ → Meaning → Known → List (List Span) → Type 0
AddsMeaning known sets name (IsClass class) new more = AddsSet known name class new × (more ≡ sets)
AddsMeaning known sets name (IsRule rule) new more = AddsPattern known sets name rule new more

-- nothing but sets and rules with their names is defined
abbrev pub HasOtherRules : TableValue → TableValue → Type 0
HasOtherRules t u =
    u ≡ record t {
      definitions = record t.definitions {
        set_names = u.definitions.set_names;
        sets = u.definitions.sets;
        rule_names = u.definitions.rule_names;
        rules = u.definitions.rules;
      };
    }

-- no set and no rule is defined
pub record HasNoRules (d : Definitions) : Type 0 where
  pub set_names : d.set_names ≡ []
  pub sets : d.sets ≡ []
  pub rule_names : d.rule_names ≡ []
  pub rules : d.rules ≡ []
