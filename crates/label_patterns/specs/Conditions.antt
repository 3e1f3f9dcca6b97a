-- Where a rule has to hold for a part of a label (RFC 7940, section 5.2).
use Rattle.std.specs.Prelude.{ℕ, List, Option, Some, None, slice_index_or}
use Rattle.label_patterns.specs.declared.condition.Condition.{Condition}
use Rattle.label_patterns.specs.declared.condition.ConditionKind.{ConditionKind}
use Rattle.label_patterns.specs.declared.condition.ConditionKind.TheVariants.{When, Unless}
use Rattle.label_patterns.specs.Patterns.{Pattern, Anchor, Group}
use Rattle.label_patterns.specs.Matches.{Seen}
use Rattle.label_patterns.specs.Rules.{Holds}

-- the rule of this number; where there is none, '_' in a group, which never holds
abbrev pub rule_at : List Pattern → ℕ → Pattern
rule_at rules number = slice_index_or rules number (Group Anchor)

-- what is asked of a rule
abbrev pub IsAsked : ConditionKind → Type 0 → Type 0
IsAsked When Holding = Holding
IsAsked Unless Holding = ¬ Holding

-- the condition holds for the part of the label from i to j; where there is none, every part may stand
abbrev pub ConditionHolds : List Pattern → Seen → Option Condition → ℕ → ℕ → Type 0
ConditionHolds rules seen None i j = Unit {0}
ConditionHolds rules seen (Some c) i j = IsAsked c.kind (Holds seen (rule_at rules c.rule) i j)
