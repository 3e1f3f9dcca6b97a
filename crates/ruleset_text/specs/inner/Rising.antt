-- Spans that rise, and what may stand after them.
use Rattle.std.specs.Prelude.{ℕ, ◌<◌, List, Option, Some, None}
use Rattle.std.specs.List.{AllByRecursion}
use Rattle.label_patterns.specs.declared.span.Span.{Span}
use Rattle.label_patterns.specs.Sets.{Rise}
use Rattle.ruleset_text.specs.declared.spans.SpanPart.{SpanPart}
use Rattle.ruleset_text.specs.declared.spans.SpanPart.TheVariants as part
use Rattle.ruleset_text.specs.declared.spans.Held.{Held}
use Rattle.ruleset_text.specs.declared.spans.Held.TheVariants as held

-- the least code point that may follow
abbrev pub least : Held → ℕ
least (held.Above low) = low
least (held.First c) = c
least (held.Range c) = c

-- the spans rise, and each ends below what may follow
abbrev pub IsRising : List Span → Held → Type 0
IsRising spans h = Rise spans × AllByRecursion (λ s. s.last < least h) spans

-- the code point that a part is
abbrev pub part_point : SpanPart → Option ℕ
part_point (part.Point c) = Some c
part_point p = None
