-- Where a text stops being a tag.
use Rattle.std.specs.Prelude.{◌≡◌, ℕ, ◌≤◌, true, ◌⊎◌, List, [], ◌∷◌, ◌++◌, length, take, drop}
use Rattle.std.specs.List.{list_all}
use Rattle.idn_text.specs.Stops.{Begins}
use Rattle.xml_text.specs.declared.fault.ReadError.{ReadError}
use Rattle.xml_text.specs.declared.fault.ReadError.TheVariants.{Stop, Memory}
use Rattle.xml_text.specs.Names.{is_reference_byte}
use Rattle.xml_text.specs.Tags.{Tag, IsTag}

-- ---- any text

-- something that is so begins with all that stands before a reference that isn't complete
abbrev pub IsInReference : (List ℕ → Type 0) → List ℕ → Type 0
IsInReference Is text =
    (front name : List ℕ) × Begins Is front × (text ≡ front ++ 38 ∷ name) × (list_all is_reference_byte name ≡ true)

-- something that is so begins with these bytes; a reference is judged where it ends
abbrev pub IsBegun : (List ℕ → Type 0) → List ℕ → Type 0
IsBegun Is text = Begins Is text ⊎ IsInReference Is text

-- nothing that is so begins with these bytes and the next one; or there is no next one, and they aren't so
abbrev pub IsStuck : (List ℕ → Type 0) → List ℕ → List ℕ → Type 0
IsStuck Is before [] = Is before → ⊥
IsStuck Is before (b ∷ after) = Begins Is (before ++ b ∷ []) → ⊥

-- ---- tags

abbrev pub IsATag : List ℕ → Type 0
IsATag text = (t : Tag) × IsTag text t

-- a tag begins with the bytes before the place, and none goes on there. So no front of the text is a tag
pub record IsTagStop (before after : List ℕ) : Type 0 where
  pub begun : IsBegun IsATag before
  pub stuck : IsStuck IsATag before after
  pub none : (front rest : List ℕ) → before ++ after ≡ front ++ rest → IsATag front → ⊥

-- what an error says of a text
abbrev pub StopsAt : List ℕ → ReadError → Type 0
StopsAt text (Stop place) = (place ≤ length text) × IsTagStop (take place text) (drop place text)
StopsAt text Memory = Unit {0}
