-- The code points of sources, as spans.
use Rattle.std.specs.Prelude.{ℕ, Bool, List, filter, map}
use Rattle.std.specs.List.{flat_map}
use Rattle.label_patterns.specs.declared.span.Span.{Span}
use Rattle.lgr_text.specs.Repertoire.{may_be}

-- each code point of those sources that a table may hold
abbrev pub spans_of : (ℕ → Bool) → List (List ℕ) → List Span
spans_of may sources = flat_map (map (λ c. record { first = c; last = c })) (filter (may_be may) sources)
