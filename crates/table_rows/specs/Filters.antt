-- What the filter of the tests accepts.
use Rattle.std.specs.Prelude.{◌≡◌, ℕ, Bool, true, false, ◌==◌, List, [], ◌∷◌, ◌++◌}
use Rattle.std.proofs.Common.{ap}
use Rattle.std.proofs.lemmas.Bool.{eqb-true, false≢true}

-- the label begins with the code point
abbrev pub begins_with : ℕ → List ℕ → Bool
begins_with point [] = false
begins_with point (c ∷ label) = c == point

-- what begins with `a` doesn't begin with `c`
pub begins-once : (w z : List ℕ) → begins_with 0x61 w ≡ true → begins_with 0x63 (w ++ z) ≡ false
begins-once [] z dead = absurd (false≢true dead)
begins-once (c ∷ w) z dead = ap (λ first. first == 0x63) (eqb-true c 0x61 dead)
