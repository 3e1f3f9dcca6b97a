-- Sets of places that tell something of a beginning of a label.
use Rattle.std.specs.Prelude.{◌↔◌, ℕ, ◌<◌, Bool, List, [], length, slice_index, slice_index_or}
use Rattle.label_patterns.specs.declared.span.Span.{Span}
use Rattle.label_patterns.specs.Places.{Has, StandsAt}
use Rattle.label_patterns.specs.Sets.{is_in}

-- of the first n places the set has exactly those at which such a code point stands
abbrev pub AreThePlacesBelow : ℕ → (ℕ → Bool) → List ℕ → ℕ → Type 0
AreThePlacesBelow n test label places = (i : ℕ) → i < n → Has places i ↔ StandsAt test label i

-- the same for each set
abbrev pub AreMasksBelow : ℕ → List (List Span) → List ℕ → List ℕ → Type 0
AreMasksBelow n sets label masks =
    (m : ℕ) → m < length sets → AreThePlacesBelow n (is_in (slice_index_or sets m [])) label (slice_index masks m)
