-- The order of the definitions of a ruleset, by their numbers in the file: each after those that it names.
use Rattle.std.specs.Prelude.{◌≡◌, ℕ, ◌<◌, ◌≤◌, ◌==◌, Bool, true, false, ◌&&◌, not, nat_le, List, [], take, length}
use Rattle.std.specs.Prelude.{map, Option, Some, None, bytes_eq, find, slice_index, slice_index_or, Contains}
use Rattle.std.specs.List.{flat_map, list_all, list_any}
use Rattle.std.specs.Option.{option_map}
use Rattle.lgr_text.specs.NamedParts.{parts}
use Rattle.lgr_text.specs.declared.named_parts.NamedPart.{NamedPart}
use Rattle.lgr_text.specs.declared.order_error.OrderError.{OrderError}
use Rattle.lgr_text.specs.declared.order_error.OrderError.TheVariants.{Limit, Repeated, Undefined, Circular, Memory}
use Rattle.lgr_text.specs.declared.records.Definition.{Definition}

-- the first number below n of which the test is true; or it is true of none
abbrev pub IsFirstBelow : ℕ → (ℕ → Bool) → Option ℕ → Type 0
IsFirstBelow n test None = (j : ℕ) → j < n → test j ≡ false
IsFirstBelow n test (Some k) = (k < n) × (test k ≡ true) × ((j : ℕ) → j < k → test j ≡ false)

abbrev pub name_at : List Definition → ℕ → List ℕ
name_at ds k = slice_index_or (map (λ d. d.name) ds) k []

abbrev pub line_at : List Definition → ℕ → ℕ
line_at ds k = slice_index (map (λ d. d.line) ds) k

abbrev pub is_name_of_one : List Definition → List ℕ → Bool
is_name_of_one ds name = list_any (λ d. bytes_eq d.name name) ds

-- an earlier definition has the name of this one
abbrev pub is_repeated : List Definition → ℕ → Bool
is_repeated ds k = is_name_of_one (take k ds) (name_at ds k)

-- the line of the first part whose number isn't below the count
abbrev pub undefined_among : ℕ → List NamedPart → Option ℕ
undefined_among count named = option_map (λ p. p.line) (find (λ p. nat_le count p.number) named)

-- the same of the parts of all definitions
abbrev pub first_undefined : List (List NamedPart) → Option ℕ
first_undefined all = undefined_among (length all) (flat_map (λ named. named) all)

abbrev pub is_placed : List ℕ → ℕ → Bool
is_placed order k = list_any (λ j. j == k) order

abbrev pub is_left : List ℕ → ℕ → Bool
is_left order k = not (is_placed order k)

abbrev pub are_placed : List ℕ → List NamedPart → Bool
are_placed order named = list_all (λ p. is_placed order p.number) named

-- it isn't in the order so far, and all that it names are
abbrev pub is_next : List (List NamedPart) → List ℕ → ℕ → Bool
is_next all order k = is_left order k && are_placed order (slice_index_or all k [])

-- what stands in an order so far: each definition at most once, and after all that it names
pub record IsOrdered (all : List (List NamedPart)) (order : List ℕ) : Type 0 where
  pub each : (p : ℕ) → p < length order
      → (slice_index order p < length all) × (is_next all (take p order) (slice_index order p) ≡ true)

-- how many definitions a ruleset may have
abbrev pub max_definitions : ℕ
max_definitions = 1024

-- an order of all definitions, which have different names
pub record IsOrder (ds : List Definition) (order : List ℕ) : Type 0 where
  pub limit : length ds ≤ max_definitions
  pub apart : (k : ℕ) → k < length ds → is_repeated ds k ≡ false
  pub ordered : IsOrdered (parts ds) order
  pub whole : (k : ℕ) → k < length ds → is_left order k ≡ false

-- definitions each of which names another one of them: so those of a circle, and those that lead to one
pub record IsEndless (all : List (List NamedPart)) (k : ℕ) : Type 0 where
  pub among : ℕ → Bool
  pub begins : among k ≡ true
  pub goes_on : (j : ℕ) → j < length all → among j ≡ true
      → (p : NamedPart) × Contains (slice_index_or all j []) p × (among p.number ≡ true)

-- the first of these is the definition on this line
pub record IsFirstEndless (ds : List Definition) (line : ℕ) : Type 0 where
  pub number : ℕ
  pub within : number < length ds
  pub endless : IsEndless (parts ds) number
  pub first : (j : ℕ) → j < number → ¬ IsEndless (parts ds) j
  pub is : line ≡ line_at ds number

-- the first of too many; or the first one with the name of an earlier one; else the first name that nothing defines;
-- else the first definition from which names lead on without an end
abbrev pub IsOrderFault : List Definition → OrderError → Type 0
IsOrderFault ds (Limit line) = (max_definitions < length ds) × (line ≡ line_at ds max_definitions)
IsOrderFault ds (Repeated line) =
    (k : ℕ) × IsFirstBelow (length ds) (is_repeated ds) (Some k) × (line ≡ line_at ds k)
IsOrderFault ds (Undefined line) =
    IsFirstBelow (length ds) (is_repeated ds) None × (first_undefined (parts ds) ≡ Some line)
IsOrderFault ds (Circular line) =
    IsFirstBelow (length ds) (is_repeated ds) None × (first_undefined (parts ds) ≡ None) × IsFirstEndless ds line
IsOrderFault ds Memory = Unit {0}
