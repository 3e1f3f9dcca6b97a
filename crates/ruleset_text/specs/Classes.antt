-- Code points that a ruleset may write.
use Rattle.std.specs.Prelude.{ℕ, Bool, true, false, ◌||◌, not, List}
use Rattle.std.specs.List.{list_any}
use Rattle.idn_class.specs.Class.{class_of}
use Rattle.idn_class.specs.declared.class.Class.{Class}
use Rattle.idn_class.specs.declared.class.Class.TheVariants.{Pvalid, Contextj, Contexto}
use Rattle.label_patterns.specs.declared.span.Span.{Span}
use Rattle.label_patterns.specs.Patterns.{Pattern, Point, Set, Any, Start, End, Anchor, Group, Optional, Many, Then}
use Rattle.label_patterns.specs.Patterns.{Either}
use Rattle.idn_class.specs.declared.properties.Properties.{Properties}

-- the three classes of code points that labels may have
abbrev pub is_label_class : Class → Bool
is_label_class Pvalid = true
is_label_class Contextj = true
is_label_class Contexto = true
is_label_class other = false

abbrev pub is_bad_point : Properties → ℕ → Bool
is_bad_point properties c = not (is_label_class (class_of properties c))

-- some code point that the pattern writes has another class
abbrev pub has_bad_point : Properties → Pattern → Bool
has_bad_point properties (Point c) = is_bad_point properties c
has_bad_point properties (Set n) = false
has_bad_point properties Any = false
has_bad_point properties Start = false
has_bad_point properties End = false
has_bad_point properties Anchor = false
has_bad_point properties (Group p) = has_bad_point properties p
has_bad_point properties (Optional p) = has_bad_point properties p
has_bad_point properties (Many p) = has_bad_point properties p
has_bad_point properties (Then p q) = has_bad_point properties p || has_bad_point properties q
has_bad_point properties (Either p q) = has_bad_point properties p || has_bad_point properties q

-- an end of the span has; what is between the ends may
abbrev pub is_bad_span : Properties → Span → Bool
is_bad_span properties s = is_bad_point properties s.first || is_bad_point properties s.last

-- an end of some span has
abbrev pub has_bad_end : Properties → List Span → Bool
has_bad_end properties spans = list_any (is_bad_span properties) spans
