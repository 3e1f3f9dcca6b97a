-- The numbers that types and rules of a file have in its table, and which they are.
use Rattle.std.specs.Prelude.{ℕ, Bool, true, false, Option, Some, None, List, [], ◌∷◌, ◌++◌, bytes_eq, map, position}
use Rattle.std.specs.List.{flat_map}
use Rattle.label_patterns.specs.declared.condition.Condition as numbered
use Rattle.lgr_text.specs.Records.{Condition, Ruleset, Trigger, Variant}
use Rattle.ruleset_text.specs.Names.{number_of, predefined_types}

-- by their names in the file: the types that the table defines itself, where None stands for a type that variants have
-- which have none in the file; and its rules. Each has its place as its number, the types after the predefined ones
pub record Numbering : Type 0 where
  pub types : List (Option (List ℕ))
  pub rules : List (List ℕ)

abbrev pub is_same : Option (List ℕ) → Option (List ℕ) → Bool
is_same None None = true
is_same None (Some name) = false
is_same (Some name) None = false
is_same (Some name) (Some other) = bytes_eq name other

-- types after the predefined ones
abbrev pub types_with : List (Option (List ℕ)) → List (Option (List ℕ))
types_with types = map Some predefined_types ++ types

abbrev pub all_types : Numbering → List (Option (List ℕ))
all_types n = types_with n.types

-- the number of a type, or of having none, if a table with these types has it
abbrev pub number_among : List (Option (List ℕ)) → Option (List ℕ) → Option ℕ
number_among types type = position (is_same type) (types_with types)

abbrev pub type_number : Numbering → Option (List ℕ) → Option ℕ
type_number n type = number_among n.types type

-- a condition by the number of its rule; one that the table hasn't has a number after those that it has
abbrev pub numbered_condition : Numbering → Condition → numbered.Condition
numbered_condition n c = record { kind = c.kind; rule = number_of n.rules c.rule }

-- ---- the types of a file

abbrev pub trigger_types : Option Trigger → List (List ℕ)
trigger_types None = []
trigger_types (Some t) = t.types

abbrev pub if_some : Option (List ℕ) → List (List ℕ)
if_some None = []
if_some (Some name) = name ∷ []

abbrev pub variant_type : Variant → List (List ℕ)
variant_type v = if_some v.type_name

-- those that variants have, and those that actions ask for
abbrev pub types_of : Ruleset → List (List ℕ)
types_of r =
    flat_map (λ e. flat_map variant_type e.variants) r.entries ++ flat_map (λ a. trigger_types a.trigger) r.actions
