-- A pattern of points and of named sets has a word for each, so its canonical text is read back.
use Rattle.std.proofs.Common.{◌≡◌, ℕ, List, length, Some}
use Rattle.label_patterns.specs.Patterns.{Pattern, Point, Set, Any, Start, End, Anchor, Group, Optional, Many, Then, Either}
use Rattle.ruleset_text.specs.Grammar.{Is, Whole, tokens}
use Rattle.label_patterns.specs.Matches.{HasItsSets}
use Rattle.ruleset_text.specs.Names.{AreNames}
use Rattle.ruleset_text.specs.Canonical.{HasPoints, pattern_text}
use Rattle.ruleset_text.proofs.TextLemmas.{HasWords}
use Rattle.ruleset_text.specs.Tokens.{tokens_of}
use Rattle.ruleset_text.specs.Reading.{pattern_of}
use Rattle.ruleset_text.proofs.PointLemmas.{point_word}
use Rattle.ruleset_text.proofs.SetWordLemmas.{name_word}
use Rattle.ruleset_text.proofs.TextLemmas.{read_back, same_tokens}

has_words : (names : List (List ℕ)) (p : Pattern) → AreNames names → HasItsSets (length names) p → HasPoints p → HasWords names p
has_words names (Point c) a h k = point_word names c k
has_words names (Set n) a h k = name_word names n a h
has_words names Any a h k = tt
has_words names Start a h k = tt
has_words names End a h k = tt
has_words names Anchor a h k = tt
has_words names (Group p) a h k = has_words names p a h k
has_words names (Optional p) a h k = has_words names p a h k
has_words names (Many p) a h k = has_words names p a h k
has_words names (Then p q) a h k = (has_words names p a h.0 k.0, has_words names q a h.1 k.1)
has_words names (Either p q) a h k = (has_words names p a h.0 k.0, has_words names q a h.1 k.1)

pub text_read_back : (names : List (List ℕ)) (p : Pattern) → AreNames names → HasItsSets (length names) p → HasPoints p → Is Whole p →
    pattern_of (tokens_of names (pattern_text names p)) ≡ Some p
text_read_back names p a h k w = read_back names p (has_words names p a h k) w

-- it has the tokens of the pattern
pub text_tokens : (names : List (List ℕ)) (p : Pattern) → AreNames names → HasItsSets (length names) p → HasPoints p → tokens_of names (pattern_text names p) ≡ tokens p
text_tokens names p a h k = same_tokens names p (has_words names p a h k)
