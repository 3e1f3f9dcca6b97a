-- The types that were found so far.
use Rattle.std.specs.Prelude.{◌≢◌, ℕ, ◌≤◌, ◌↔◌, Bool, IsTrue, IsSome, List, Option, Some, None, AllPairs, Contains}
use Rattle.std.specs.Prelude.{length}
use Rattle.lgr_table.specs.Faults.{AreTooManyTypes, max_types}
use Rattle.lgr_table.specs.Numbers.{number_among, types_with}
use Rattle.lgr_table.specs.declared.fault.TableError.{TableError}
use Rattle.lgr_table.specs.declared.fault.TableError.TheVariants.{Fault, Memory}
use Rattle.lgr_table.specs.declared.fault.TableFault.TheVariants.{Limit}

-- those with these names in the file, each once, but for the predefined ones, and that of variants that have none, if
-- there is to be one
pub record AreTypes (untyped : Bool) (names : List (List ℕ)) (types : List (Option (List ℕ))) : Type 0 where
  pub known : (name : List ℕ) → Contains names name → IsSome (number_among types (Some name))
  pub own : (name : List ℕ) → Contains types (Some name) → Contains names name
  pub none : Contains types None ↔ IsTrue untyped
  pub each_type : AllPairs (λ a b. a ≢ b) (types_with types)

-- there are as many as may be
abbrev pub TellsFull : List (Option (List ℕ)) → TableError → Type 0
TellsFull types (Fault Limit line) = max_types ≤ length types
TellsFull types (Fault kind line) = ⊥
TellsFull types Memory = Unit {0}

-- these names are those of too many
abbrev pub TellsTypes : Bool → List (List ℕ) → TableError → Type 0
TellsTypes untyped names (Fault Limit line) = AreTooManyTypes untyped names
TellsTypes untyped names (Fault kind line) = ⊥
TellsTypes untyped names Memory = Unit {0}
