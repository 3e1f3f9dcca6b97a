-- Sets of code points (RFC 7940, section 6.2), as spans.
use Rattle.std.specs.Prelude.{ℕ, ◌+◌, ◌≤◌, Bool, ◌&&◌, ◌||◌, not, List, [], ◌∷◌, All}
use Rattle.label_patterns.specs.declared.span.Span.{Span}
use Rattle.lgr_text.specs.declared.joins.SetOperation.{SetOperation}
use Rattle.lgr_text.specs.declared.joins.SetOperation.TheVariants.{Union, Intersection, Difference, SymmetricDifference}

-- a span of code points that is not empty
abbrev pub IsSpan : Span → Type 0
IsSpan s = (s.first ≤ s.last) × (s.last ≤ 0x10FFFF)

-- spans in any order, which may overlap
abbrev pub AreSpans : List Span → Type 0
AreSpans spans = All IsSpan spans

-- spans that rise, with a code point between each and the next; the first begins at n or above
abbrev pub AreApartFrom : ℕ → List Span → Type 0
AreApartFrom n [] = Unit {0}
AreApartFrom n (s ∷ spans) = (n ≤ s.first) × IsSpan s × AreApartFrom (s.last + 2) spans

-- the one form in which a set is held: sorted, disjoint, and none adjacent to another
abbrev pub AreApart : List Span → Type 0
AreApart spans = AreApartFrom 0 spans

-- all code points
abbrev pub every_point : List Span
every_point = record { first = 0; last = 0x10FFFF } ∷ []

-- a code point is in what an operation makes of two sets, by whether it is in each of these (section 6.2.5)
abbrev pub is_joined : SetOperation → Bool → Bool → Bool
is_joined Union left right = left || right
is_joined Intersection left right = left && right
is_joined Difference left right = left && not right
is_joined SymmetricDifference left right = (left && not right) || (right && not left)
