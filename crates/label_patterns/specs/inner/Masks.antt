-- Where the code points of each set stand in a label.
use Rattle.std.specs.Prelude.{◌≡◌, ℕ, ◌<◌, List, [], length, slice_index, slice_index_or}
use Rattle.label_patterns.specs.declared.span.Span.{Span}
use Rattle.label_patterns.specs.Places.{AreThePlaces}
use Rattle.label_patterns.specs.Sets.{is_in}

-- the places of each of the first n sets, as a set of places
abbrev pub AreMasksTo : ℕ → List (List Span) → List ℕ → List ℕ → Type 0
AreMasksTo n sets label masks =
    (m : ℕ) → m < n → AreThePlaces (is_in (slice_index_or sets m [])) label (slice_index masks m)

-- for each set its places
abbrev pub AreMasks : List (List Span) → List ℕ → List ℕ → Type 0
AreMasks sets label masks = (length masks ≡ length sets) × AreMasksTo (length sets) sets label masks
