-- The lines of a text, of whatever reader or table it comes.
use Rattle.std.specs.Prelude.{◌≡◌, ◌≢◌, ℕ, ◌+◌, ◌==◌, Bool, nat_lt, List, [], ◌∷◌, ◌++◌, length, Option, Some, None}
use Rattle.std.specs.Prelude.{All, if◌then◌else◌}
use Rattle.std.specs.List.{onto_first}
use Rattle.std.specs.Str.Lines.{strip_carriage_return}

-- what stands before each line feed, and after the last one a rest that is not empty
abbrev pub raw_lines : List ℕ → List (List ℕ)
raw_lines [] = []
raw_lines (c ∷ cs) = if c == 10 then [] ∷ raw_lines cs else onto_first c (raw_lines cs)

-- the lists with c put before the first, if there is one
abbrev pub onto_ended : ℕ → List (List ℕ) → List (List ℕ)
onto_ended c [] = []
onto_ended c (line ∷ lines) = (c ∷ line) ∷ lines

-- what stands before each line feed
abbrev pub ended_lines : List ℕ → List (List ℕ)
ended_lines [] = []
ended_lines (c ∷ cs) = if c == 10 then [] ∷ ended_lines cs else onto_ended c (ended_lines cs)

-- bytes without a line feed
abbrev pub HasNoFeed : List ℕ → Type 0
HasNoFeed bytes = All (λ byte. byte ≢ 10) bytes

-- the bytes are a line, its line feed, and a rest
abbrev pub IsCutAtFeed : List ℕ → List ℕ → List ℕ → Type 0
IsCutAtFeed bytes line rest = HasNoFeed line × (bytes ≡ line ++ 10 ∷ rest)

-- the text is empty or ends in a line feed
abbrev pub EndsInFeed : List ℕ → Type 0
EndsInFeed [] = Unit {0}
EndsInFeed (c ∷ []) = c ≡ 10
EndsInFeed (c ∷ d ∷ ds) = EndsInFeed (d ∷ ds)

-- the lines one after another, a line feed after each
abbrev pub joined_lines : List (List ℕ) → List ℕ
joined_lines [] = []
joined_lines (line ∷ lines) = line ++ 10 ∷ joined_lines lines

-- the text, with a line feed after a rest that has none
abbrev pub with_last_feed : List ℕ → List ℕ
with_last_feed [] = []
with_last_feed (c ∷ []) = if c == 10 then c ∷ [] else c ∷ 10 ∷ []
with_last_feed (c ∷ d ∷ ds) = c ∷ with_last_feed (d ∷ ds)

-- more than 1,024 bytes, a carriage return at the end counted
abbrev pub is_long_line : List ℕ → Bool
is_long_line line = nat_lt 1024 (length line)

-- the body of a line: none where the line is too long, else the line less one carriage return at its end
abbrev pub body_of : List ℕ → Option (List ℕ)
body_of line = if is_long_line line then None else Some (strip_carriage_return line)

-- a line's number and its body, none where the line is too long
pub record Numbered : Type 0 where
  pub number : ℕ
  pub body : Option (List ℕ)

-- the bodies of lines, numbered from n
abbrev pub numbered : ℕ → List (List ℕ) → List Numbered
numbered n [] = []
numbered n (line ∷ lines) = record { number = n; body = body_of line } ∷ numbered (n + 1) lines

-- the lines of a text, numbered from 1
abbrev pub lines_of : List ℕ → List Numbered
lines_of text = numbered 1 (raw_lines text)

-- those of them that a line feed ends
abbrev pub ended_lines_of : List ℕ → List Numbered
ended_lines_of text = numbered 1 (ended_lines text)
