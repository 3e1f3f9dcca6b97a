-- Definitions that stand before lines of examples, and parts of examples.
use Rattle.std.specs.Prelude.{ℕ, Bool, Option, List, [], ◌∷◌, codes}
use Rattle.label_patterns.specs.Patterns as patterns
use Rattle.ruleset_text.specs.declared.named_condition.NamedCondition.{NamedCondition}
use Rattle.ruleset_text.specs.Definitions.{Definitions}
use Rattle.ruleset_text.specs.Entries.{Mapped}
use Rattle.ruleset_text.specs.Spans.{span}
use Rattle.idn_class.specs.declared.properties.Properties.TheVariants.{Profile}

-- the types t and v; the set A, which is a; the context rule r, which holds before b, and the whole-label rule w, any b
abbrev pub some_defined : Definitions
some_defined = record {
  properties = Profile;
  types = codes "t" ∷ codes "v" ∷ [];
  set_names = codes "A" ∷ [];
  sets = (span 97 97 ∷ []) ∷ [];
  rule_names = codes "r" ∷ codes "w" ∷ [];
  rules = patterns.Then patterns.Anchor (patterns.Point 98) ∷ patterns.Point 98 ∷ [];
  demands = [];
  actions = [];
}

-- a source or a variant, as it is written
abbrev pub written : Bool → List ℕ → Option (List ℕ) → Option NamedCondition → Mapped
written marked points type_name condition =
    record { marked = marked; points = points; type_name = type_name; condition = condition }
