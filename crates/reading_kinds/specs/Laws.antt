-- A law of the readings of a label.
use Rattle.std.specs.Prelude.{ℕ, ◌↔◌, ◌==◌, not, List, map, filter}
use Rattle.std.specs.Int.{bit_at}
use Rattle.reading_kinds.specs.Readings.{Substitution, SubstitutionsSpell, SomeLacks}

-- of the substitutions at each place those that lack the kind
abbrev pub lacking : ℕ → List (List Substitution) → List (List Substitution)
lacking k substitutions = map (filter (λ u. not (bit_at u.kinds k == 1))) substitutions

-- some reading lacks a kind exactly if the substitutions that lack it spell the label
abbrev pub LackingSpell : Type 0
LackingSpell =
    (substitutions : List (List Substitution)) (v : List ℕ) (k : ℕ) → SomeLacks substitutions v k
    ↔ SubstitutionsSpell (lacking k substitutions) v
