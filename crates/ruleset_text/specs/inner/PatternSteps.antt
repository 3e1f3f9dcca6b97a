-- What reading a pattern finds at each token that its form doesn't show.
use Rattle.std.specs.Prelude.{ℕ, ◌-◌, ◌==◌, nat_le, Bool, true, false, ◌||◌, Option, Some, None, List, [], ◌∷◌}
use Rattle.std.specs.Prelude.{if◌then◌else◌}
use Rattle.std.specs.Option.{option_or}
use Rattle.ruleset_text.specs.declared.fault.FaultPlace.{FaultPlace}
use Rattle.ruleset_text.specs.declared.token.Token.{Token}
use Rattle.ruleset_text.specs.declared.token.Token.TheVariants as token
use Rattle.ruleset_text.specs.DefinitionReading.{pattern_step}
use Rattle.ruleset_text.specs.Limits.{stars}
use Rattle.ruleset_text.specs.LineFaults.{lexeme_place}
use Rattle.ruleset_text.specs.PatternSigns.{State}
use Rattle.ruleset_text.specs.PlacedLexemes.{Placed}
use Rattle.ruleset_text.specs.Reading.{Piece, Part}
use Rattle.ruleset_text.specs.Tokens.{token_of}

-- an atom, '^' or '$', or the '(' of a group
abbrev pub is_counted : Token → Bool
is_counted (token.Point c) = true
is_counted (token.Set n) = true
is_counted token.Any = true
is_counted token.Start = true
is_counted token.End = true
is_counted token.Open = true
is_counted t = false

abbrev pub atoms_at : Token → ℕ
atoms_at t = if is_counted t then 1 else 0

-- the code point that it is
abbrev pub token_point : Token → Option ℕ
token_point (token.Point c) = Some c
token_point t = None

-- two '*' stand within each other in the last piece
abbrev pub has_most_stars : List Piece → Bool
has_most_stars (Part b p ∷ s) = nat_le 2 (stars p)
has_most_stars s = false

-- after these pieces, within so many groups, where so many atoms may follow, the pattern goes past a limit with the
-- token
abbrev pub is_past : List Piece → ℕ → ℕ → Token → Bool
is_past s groups left (token.Point c) = left == 0
is_past s groups left (token.Set n) = left == 0
is_past s groups left token.Any = left == 0
is_past s groups left token.Start = left == 0
is_past s groups left token.End = left == 0
is_past s groups left token.Open = nat_le 8 groups || left == 0
is_past s groups left token.Many = has_most_stars s
is_past s groups left t = false

abbrev pub past_place : List Piece → ℕ → ℕ → FaultPlace → Token → Option FaultPlace
past_place s groups left at t = if is_past s groups left t then Some at else None

-- how many atoms may follow after lexemes
abbrev pub left_after : List (List ℕ) → ℕ → List Placed → ℕ
left_after names left [] = left
left_after names left (w ∷ ws) = left_after names (left - atoms_at (token_of names w.lexeme)) ws

-- the first lexeme with which a pattern goes past a limit that is read on from a state
abbrev pub if_taken : Option State → (State → Option FaultPlace) → Option FaultPlace
if_taken None go = None
if_taken (Some s) go = go s

abbrev pub limit_from : Bool → List (List ℕ) → State → ℕ → List Placed → Option FaultPlace
limit_from is_rule names s left [] = None
limit_from is_rule names s left (w ∷ ws) =
    option_or (past_place s.pieces s.groups left (lexeme_place w) (token_of names w.lexeme))
    (if_taken (pattern_step is_rule names s w.lexeme)
    (λ t. limit_from is_rule names t (left - atoms_at (token_of names w.lexeme)) ws))
