-- Patterns: what a part of a label looks like.
use Rattle.std.specs.Prelude.{ℕ}

-- a pattern: branches, items one after the other, and atoms; a set goes by its number among the sets
pub data Pattern : Type 0 where
  -- this code point
  Point : ℕ → Pattern
  -- a code point of the set of this number
  Set : ℕ → Pattern
  -- any code point
  Any : Pattern
  -- the beginning of the label
  Start : Pattern
  -- the end of the label
  End : Pattern
  -- '_', the anchor of a rule (RFC 7940, section 6.4.1): it stands for the part that the rule speaks of
  Anchor : Pattern
  -- a pattern in parentheses
  Group : Pattern → Pattern
  -- the pattern, or nothing
  Optional : Pattern → Pattern
  -- the pattern any number of times
  Many : Pattern → Pattern
  -- one after the other
  Then : Pattern → Pattern → Pattern
  -- one or the other
  Either : Pattern → Pattern → Pattern
