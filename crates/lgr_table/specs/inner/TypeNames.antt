-- What the types of a file that have a name are called in its table.
use Rattle.std.specs.Prelude.{◌≡◌, ℕ, ◌+◌, List, [], ◌∷◌, Option, Some, None, slice_index_or}
use Rattle.lgr_table.specs.Numbers.{Numbering, all_types}
use Rattle.lgr_table.specs.declared.actions.TypeNames.{TypeNames}
use Rattle.ruleset_text.specs.Definitions.{Definitions, type_names}

-- those that have a name
abbrev pub named : List (Option (List ℕ)) → List (List ℕ)
named [] = []
named (None ∷ types) = named types
named (Some name ∷ types) = name ∷ named types

-- those of these names that are theirs by number, where these types are numbered from k on
abbrev pub written : List (List ℕ) → ℕ → List (Option (List ℕ)) → List (List ℕ)
written names k [] = []
written names k (None ∷ types) = written names (k + 1) types
written names k (Some name ∷ types) = slice_index_or names k [] ∷ written names (k + 1) types

-- those of all types by these numbers
pub record AreNamesOf (n : Numbering) (d : Definitions) (types : TypeNames) : Type 0 where
  pub names : types.names.items ≡ named (all_types n)
  pub written_names : types.written.items ≡ written (type_names d) 0 (all_types n)
