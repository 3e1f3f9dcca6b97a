-- Laws of sets of code points, and of documents.
use Rattle.std.specs.Prelude.{◌≡◌, ℕ, List}
use Rattle.label_patterns.specs.declared.span.Span.{Span}
use Rattle.label_patterns.specs.Sets.{is_in}
use Rattle.lgr_text.specs.CodePoints.{AreApart}
use Rattle.lgr_text.specs.Documents.{Says}
use Rattle.lgr_text.specs.Records.{Ruleset}
use Rattle.xml_text.specs.Tokens.{Token}

-- a set is held in one form alone: two that have the same code points are the same list
abbrev pub SetsHaveOneForm : Type 0
SetsHaveOneForm =
    (these those : List Span) → AreApart these → AreApart those → ((c : ℕ) → is_in these c ≡ is_in those c)
    → these ≡ those

-- a document says one ruleset at most
abbrev pub ADocumentSaysOneRuleset : Type 0
ADocumentSaysOneRuleset =
    (tokens : List Token) (this that : Ruleset) → Says tokens this → Says tokens that → this ≡ that
