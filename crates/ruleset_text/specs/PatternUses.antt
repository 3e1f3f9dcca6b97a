-- The pattern of a rule or of a demand.
use Rattle.std.specs.Prelude.{◌≡◌, Bool, true, false, not, List}
use Rattle.label_patterns.specs.Patterns.{Pattern}
use Rattle.ruleset_text.specs.Signs as sign
use Rattle.ruleset_text.specs.declared.token.Token.{Token}
use Rattle.ruleset_text.specs.Grammar.{SpellsPattern}
use Rattle.ruleset_text.specs.Rules.{has, is_rule}

-- the pattern is that of a rule, or of a demand
abbrev pub is_used : Bool → Pattern → Bool
is_used true p = is_rule p
is_used false p = not (has sign.Anchor p)

-- tokens that spell such a pattern
abbrev pub ArePattern : Bool → List Token → Type 0
ArePattern rule ts = (p : Pattern) × SpellsPattern ts p × (is_used rule p ≡ true)
