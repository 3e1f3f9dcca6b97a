-- The words of the spans of a set, and the lexemes that spell them: the grammar of docs/NOTATION.md.
use Rattle.std.specs.Prelude.{◌≡◌, ◌⊎◌, ℕ, ◌<◌, List, [], ◌∷◌, ◌++◌, length}
use Rattle.label_patterns.specs.declared.span.Span.{Span}
use Rattle.label_patterns.specs.Sets.{Rise}
use Rattle.ruleset_text.specs.EntryWords.{Point, Range, AreWords}

-- a code point; or the first and the last of a range, with '..' between them
abbrev pub SpellsSpan : List (List ℕ) → Span → Type 0
SpellsSpan lexemes s =
    ((s.first ≡ s.last) × AreWords (Point s.first ∷ []) lexemes)
    ⊎ AreWords (Point s.first ∷ Range ∷ Point s.last ∷ []) lexemes

-- one span after the other
abbrev pub SpellSpans : List (List ℕ) → List Span → Type 0
SpellSpans lexemes [] = lexemes ≡ []
SpellSpans lexemes (s ∷ spans) =
    (first rest : List (List ℕ)) × (lexemes ≡ first ++ rest) × SpellsSpan first s × SpellSpans rest spans

-- the spans of a set: there is one, and they rise
abbrev pub SpellSet : List (List ℕ) → List Span → Type 0
SpellSet lexemes spans = (0 < length spans) × Rise spans × SpellSpans lexemes spans
