-- Spans on the way through sets.
use Rattle.std.specs.Prelude.{ℕ, ◌+◌, ◌≤◌, List, [], ◌∷◌}
use Rattle.std.specs.List.{AllByRecursion}
use Rattle.label_patterns.specs.declared.span.Span.{Span}
use Rattle.lgr_text.specs.CodePoints.{AreApartFrom, IsSpan}

-- none of the spans begins after n
abbrev pub BeginUpTo : ℕ → List Span → Type 0
BeginUpTo n spans = AllByRecursion (λ s. s.first ≤ n) spans

-- spans that are apart, the first of which ends at n or after it
abbrev pub EndFrom : ℕ → List Span → Type 0
EndFrom n [] = Unit {0}
EndFrom n (s ∷ spans) = (n ≤ s.last) × IsSpan s × AreApartFrom (s.last + 2) spans
