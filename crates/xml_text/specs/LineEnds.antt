-- The ends of lines in XML 1.0 (section 2.11), and lines.
use Rattle.std.specs.Prelude.{ℕ, ◌+◌, Bool, true, false, ◌==◌, ◌&&◌, List, [], ◌∷◌, if◌then◌else◌}

-- a line feed for each end of a line: CR LF, LF, or CR alone. The first argument says whether CR stands before the text
abbrev pub line_feeds_after : Bool → List ℕ → List ℕ
line_feeds_after is_after [] = []
line_feeds_after is_after (b ∷ bs) =
    if b == 13 then 10 ∷ line_feeds_after true bs else
    if is_after && b == 10 then line_feeds_after false bs else b ∷ line_feeds_after false bs

abbrev pub line_feeds : List ℕ → List ℕ
line_feeds text = line_feeds_after false text

-- CR ends a text, or stands before it if it is empty
abbrev pub return_after : Bool → List ℕ → Bool
return_after is_after [] = is_after
return_after is_after (b ∷ bs) = return_after (b == 13) bs

-- the line after a byte, or after a text, that stands on this line
abbrev pub next_line : ℕ → ℕ → ℕ
next_line line b = if b == 10 then line + 1 else line

abbrev pub line_after : ℕ → List ℕ → ℕ
line_after line [] = line
line_after line (b ∷ bs) = line_after (next_line line b) bs
