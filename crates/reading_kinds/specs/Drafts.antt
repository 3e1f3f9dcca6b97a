-- The substitutions of a label, as they are found place by place.
use Rattle.std.specs.Prelude.{List, ◌++◌}
use Rattle.reading_kinds.specs.Readings.{Substitution}

-- those of the places that are done, and of the one that isn't
pub record Draft : Type 0 where
  pub done : List (List Substitution)
  pub begun : List Substitution

-- the same with more substitutions of that place
abbrev pub with_substitutions : Draft → List Substitution → Draft
with_substitutions draft substitutions = record { done = draft.done; begun = draft.begun ++ substitutions }
