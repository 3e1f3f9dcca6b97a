-- The input that the words give.
use Rattle.std.specs.Prelude.{ℕ, List, [], ◌∷◌, ◌++◌, Option, Some, None}
use Rattle.std.specs.List.{flat_map}

-- each of the STRINGS, followed by a line feed
abbrev pub text_of : List (List ℕ) → List ℕ
text_of strings = flat_map (λ string. string ++ 10 ∷ []) strings

-- that text, where there are STRINGS
abbrev pub input_of : List (List ℕ) → Option (List ℕ)
input_of [] = None
input_of (string ∷ strings) = Some (text_of (string ∷ strings))
