-- Texts on one line.
use Rattle.std.specs.Prelude.{ℕ, Bool, nat_le, List}
use Rattle.std.specs.List.{list_all}

-- no byte of the text is below the space, so that no line feed is among them
abbrev pub is_clear : List ℕ → Bool
is_clear text = list_all (λ byte. nat_le 32 byte) text
