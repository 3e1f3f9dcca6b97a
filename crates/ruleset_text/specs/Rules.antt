-- What a pattern needs to be one of a demand or of a whole-label rule, or the contexts of a context rule.
use Rattle.std.specs.Prelude.{Bool, true, false, ◌||◌, ◌&&◌, not, if◌then◌else◌}
use Rattle.ruleset_text.specs.Signs.{Sign}
use Rattle.ruleset_text.specs.Signs as sign
use Rattle.label_patterns.specs.Patterns.{Pattern, Point, Set, Any, Start, End, Anchor, Group, Optional, Many, Then}
use Rattle.label_patterns.specs.Patterns.{Either}
use Rattle.label_patterns.specs.Rules.{is_anchor}

abbrev pub is_end : Sign → Bool
is_end sign.End = true
is_end s = false

abbrev pub is_start : Sign → Bool
is_start sign.Start = true
is_start s = false

abbrev pub is_anchor_sign : Sign → Bool
is_anchor_sign sign.Anchor = true
is_anchor_sign s = false

-- the sign stands somewhere in the pattern
abbrev pub has : Sign → Pattern → Bool
has s (Point c) = false
has s (Set n) = false
has s Any = false
has s Start = is_start s
has s End = is_end s
has s Anchor = is_anchor_sign s
has s (Group p) = has s p
has s (Optional p) = has s p
has s (Many p) = has s p
has s (Then p q) = has s p || has s q
has s (Either p q) = has s p || has s q

-- no '_' or '$' stands before '_'; no '_' or '^' after it
abbrev pub is_before : Pattern → Bool
is_before p = not (has sign.Anchor p) && not (has sign.End p)

abbrev pub is_after : Pattern → Bool
is_after p = not (has sign.Anchor p) && not (has sign.Start p)

-- a context: items, one of which is '_'
abbrev pub is_context : Pattern → Bool
is_context Anchor = true
is_context (Then p q) = if is_anchor p then is_after q else is_before p && is_context q
is_context p = false

-- a context rule: contexts
abbrev pub is_rule : Pattern → Bool
is_rule (Either p q) = is_context p && is_rule q
is_rule Anchor = true
is_rule (Then p q) = if is_anchor p then is_after q else is_before p && is_context q
is_rule p = false

-- a rule: a context rule, or a whole-label rule, which has no '_'
abbrev pub is_rule_or_whole : Pattern → Bool
is_rule_or_whole p = is_rule p || not (has sign.Anchor p)
