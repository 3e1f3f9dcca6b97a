-- The spans of a set, read from the first lexeme to the last.
use Rattle.std.specs.Prelude.{ℕ, ◌+◌, nat_le, nat_lt, Option, Some, None, List, [], ◌∷◌, ◌++◌, map, bytes_eq, codes}
use Rattle.std.specs.Prelude.{if◌then◌else◌}
use Rattle.idn_text.specs.Points.{point_of_hex}
use Rattle.label_patterns.specs.declared.span.Span.{Span}
use Rattle.ruleset_text.specs.declared.spans.SpanPart.{SpanPart}
use Rattle.ruleset_text.specs.declared.spans.SpanPart.TheVariants as part
use Rattle.ruleset_text.specs.declared.spans.Held.{Held}
use Rattle.ruleset_text.specs.declared.spans.Held.TheVariants as held
use Rattle.ruleset_text.specs.Lexemes.{lexemes}
use Rattle.ruleset_text.specs.Tokens.{without_prefix}

-- a code point, the two full stops of a range, or what is neither
abbrev pub point_part : Option ℕ → SpanPart
point_part (Some c) = part.Point c
point_part None = part.Other

abbrev pub part_of : List ℕ → SpanPart
part_of lexeme = if bytes_eq lexeme (codes "..") then part.Range else point_part (point_of_hex (without_prefix lexeme))

abbrev pub span : ℕ → ℕ → Span
span a b = record { first = a; last = b }

-- the spans that are complete, and what is held after them: the least that the next span may begin with; a point that
-- may begin a range; or the first point of a range
pub record State : Type 0 where
  pub spans : List Span
  pub held : Held

abbrev pub state : List Span → Held → State
state spans h = record { spans = spans; held = h }

-- the state with one part more, if a part may stand there
abbrev pub step : List Span → Held → SpanPart → Option State
step spans (held.Above low) (part.Point c) = if nat_le low c then Some (state spans (held.First c)) else None
step spans (held.First c) (part.Point d) =
    if nat_lt c d then Some (state (spans ++ span c c ∷ []) (held.First d)) else None
step spans (held.First c) part.Range = Some (state spans (held.Range c))
step spans (held.Range c) (part.Point d) =
    if nat_le c d then Some (state (spans ++ span c d ∷ []) (held.Above (d + 1))) else None
step spans h p = None

abbrev pub stepped : Option State → SpanPart → Option State
stepped None p = None
stepped (Some s) p = step s.spans s.held p

abbrev pub state_after : Option State → List SpanPart → Option State
state_after s [] = s
state_after s (p ∷ ps) = state_after (stepped s p) ps

-- the spans, if there is one and none is left open
abbrev pub ended : List Span → Held → Option (List Span)
ended [] (held.Above low) = None
ended (s ∷ spans) (held.Above low) = Some (s ∷ spans)
ended spans (held.First c) = Some (spans ++ span c c ∷ [])
ended spans (held.Range c) = None

abbrev pub spans_at : Option State → Option (List Span)
spans_at None = None
spans_at (Some s) = ended s.spans s.held

-- the spans that lexemes spell, if they spell spans that rise
unfoldable pub spans_in : List (List ℕ) → Option (List Span)
spans_in words = spans_at (state_after (Some (state [] (held.Above 0))) (map part_of words))

-- the same for a text
abbrev pub spans_of : List ℕ → Option (List Span)
spans_of text = spans_in (lexemes text)
