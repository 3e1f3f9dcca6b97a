-- A line that asks for the least label from a text on.
use Rattle.std.specs.Prelude.{ℕ, ◌==◌, List}
use Rattle.std.specs.List.{before_first, after_first}

-- the label of a request and its text, which stand before and after the first tab; without a tab the text is empty
abbrev pub requested_label : List ℕ → List ℕ
requested_label line = before_first (λ c. c == 9) line

abbrev pub requested_text : List ℕ → List ℕ
requested_text line = after_first (λ c. c == 9) line
