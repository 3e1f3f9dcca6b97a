-- The labels of a name, by the place where one of them ends.
use Rattle.std.specs.Prelude.{◌≡◌, ◌+◌, ◌≤◌, ◌==◌, ℕ, List, [], ◌∷◌, length, drop, slice_range, if◌then◌else◌}
use Rattle.idna.specs.Labels.{labels_of}

-- the labels after the one that ends at a place
abbrev pub labels_after : List ℕ → ℕ → List (List ℕ)
labels_after name end = if end == length name then [] else labels_of (drop (end + 1) name)

-- of the labels from a place on, the first one ends here
pub record EndsLabel (name : List ℕ) (start end : ℕ) : Type 0 where
  pub order : start ≤ end
  pub within : end ≤ length name
  pub labels : labels_of (drop start name) ≡ slice_range name start end ∷ labels_after name end
