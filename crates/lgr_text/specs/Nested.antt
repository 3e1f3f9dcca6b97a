-- Two or more that are held as pairs, one in another.
use Rattle.std.specs.Prelude.{Option, Some, None, List, [], ◌∷◌, option_map}

-- the first, and what the others give together
abbrev pub nested : {X : Type 0} → (X → X → X) → List X → Option X
nested both [] = None
nested both (x ∷ []) = Some x
nested both (x ∷ y ∷ xs) = option_map (both x) (nested both (y ∷ xs))
