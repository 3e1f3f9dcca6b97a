-- Where the start and the end of a label stand in rules (RFC 7940, section 6.3.8): the start has to be the first that
-- is matched, the end the last, and neither may be counted.
use Rattle.std.specs.Prelude.{Bool, true, false, ◌||◌, List, ℕ}
use Rattle.label_patterns.specs.Patterns as pattern
use Rattle.label_patterns.specs.Patterns.{Pattern, Group, Optional, Many, Either}
use Rattle.lgr_text.specs.Records.{Part, Start, End, OfRule, Then, Choice, Times}

-- the start of a label is the first that a pattern matches, at least in one of its branches
abbrev pub begins_pattern : Pattern → Bool
begins_pattern pattern.Start = true
begins_pattern (Group p) = begins_pattern p
begins_pattern (Optional p) = begins_pattern p
begins_pattern (Many p) = begins_pattern p
begins_pattern (pattern.Then p q) = begins_pattern p
begins_pattern (Either p q) = begins_pattern p || begins_pattern q
begins_pattern p = false

-- the end of a label is the last
abbrev pub ends_pattern : Pattern → Bool
ends_pattern pattern.End = true
ends_pattern (Group p) = ends_pattern p
ends_pattern (Optional p) = ends_pattern p
ends_pattern (Many p) = ends_pattern p
ends_pattern (pattern.Then p q) = ends_pattern q
ends_pattern (Either p q) = ends_pattern p || ends_pattern q
ends_pattern p = false

-- the same of a part of a rule, by the patterns of the rules that are named
abbrev pub begins_label : (List ℕ → Pattern) → Part → Bool
begins_label rule Start = true
begins_label rule (OfRule name) = begins_pattern (rule name)
begins_label rule (Then p q) = begins_label rule p
begins_label rule (Choice p q) = begins_label rule p || begins_label rule q
begins_label rule (Times count p) = begins_label rule p
begins_label rule p = false

abbrev pub ends_label : (List ℕ → Pattern) → Part → Bool
ends_label rule End = true
ends_label rule (OfRule name) = ends_pattern (rule name)
ends_label rule (Then p q) = ends_label rule q
ends_label rule (Choice p q) = ends_label rule p || ends_label rule q
ends_label rule (Times count p) = ends_label rule p
ends_label rule p = false
