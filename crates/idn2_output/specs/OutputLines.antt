-- What a run writes, line by line.
use Rattle.std.specs.Prelude.{List, ℕ, [], ◌∷◌, ◌++◌, map}

-- one line of text, with its line feed, for the output or for the messages
pub data OutputLine : Type 0 where
  Output : (text : List ℕ) → OutputLine
  Message : (text : List ℕ) → OutputLine

-- what these output lines put on the output, joined
abbrev pub output_of : List OutputLine → List ℕ
output_of [] = []
output_of (Output text ∷ output_lines) = text ++ output_of output_lines
output_of (Message text ∷ output_lines) = output_of output_lines

-- what they put on the messages, joined
abbrev pub messages_of : List OutputLine → List ℕ
messages_of [] = []
messages_of (Output text ∷ output_lines) = messages_of output_lines
messages_of (Message text ∷ output_lines) = text ++ messages_of output_lines

-- texts of the output
abbrev pub outputs : {X : Type 0} → (X → List ℕ) → List X → List OutputLine
outputs text xs = map (λ x. Output (text x)) xs
