-- Sets of code points, given by spans that rise.
use Rattle.std.specs.Prelude.{ℕ, ◌<◌, ◌≤◌, ◌&&◌, nat_le, Bool, List, [], ◌∷◌}
use Rattle.std.specs.List.{AllByRecursion, list_any}
use Rattle.label_patterns.specs.declared.span.Span.{Span}

-- the code point is in the span, whose ends belong to it
abbrev pub is_in_span : ℕ → Span → Bool
is_in_span c s = nat_le s.first c && nat_le c s.last

-- the code point is in one of the spans
abbrev pub is_in : List Span → ℕ → Bool
is_in spans c = list_any (is_in_span c) spans

-- no span is empty, and each begins above the end of those before
abbrev pub Rise : List Span → Type 0
Rise [] = Unit {0}
Rise (s ∷ spans) = (s.first ≤ s.last) × AllByRecursion (λ t. s.last < t.first) spans × Rise spans
