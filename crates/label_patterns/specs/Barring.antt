-- Conditions that fail whatever follows a beginning of a label.
use Rattle.std.specs.Prelude.{◌⊎◌, ℕ, List, [], ◌∷◌, Option, Some, None, Bool, true, false, IsTrue, if◌then◌else◌}
use Rattle.label_patterns.specs.declared.condition.Condition.{Condition}
use Rattle.label_patterns.specs.declared.condition.ConditionKind.{ConditionKind}
use Rattle.label_patterns.specs.declared.condition.ConditionKind.TheVariants.{When, Unless}
use Rattle.label_patterns.specs.Patterns.{Pattern, Anchor, Then}
use Rattle.label_patterns.specs.Matches.{Seen}
use Rattle.label_patterns.specs.Rules.{branches, is_anchor, is_context_rule, EndsBefore}
use Rattle.label_patterns.specs.Conditions.{rule_at}

-- '_' is the last item of the context
abbrev pub ends_in_anchor : Pattern → Bool
ends_in_anchor Anchor = true
ends_in_anchor (Then p q) = if is_anchor p then false else ends_in_anchor q
ends_in_anchor p = false

-- what stands before '_' in one of the contexts is found before the place i
abbrev pub OneEndsBefore : Seen → List Pattern → ℕ → Type 0
OneEndsBefore seen [] i = ⊥
OneEndsBefore seen (context ∷ others) i = EndsBefore seen context i ⊎ OneEndsBefore seen others i

-- the same for a context in which nothing stands after '_'
abbrev pub OneIsDone : Seen → List Pattern → ℕ → Type 0
OneIsDone seen [] i = ⊥
OneIsDone seen (context ∷ others) i =
    (IsTrue (ends_in_anchor context) × EndsBefore seen context i) ⊎ OneIsDone seen others i

-- what follows the place i can't make the rule hold; or it holds there already, whatever follows
abbrev pub IsBarredBy : ConditionKind → Seen → Pattern → ℕ → Type 0
IsBarredBy When seen rule i = ¬ OneEndsBefore seen (branches rule) i
IsBarredBy Unless seen rule i = OneIsDone seen (branches rule) i

-- the condition fails for each part that begins at i, by what stands before i alone;
-- of a whole-label rule that is never told
abbrev pub IsBarred : List Pattern → Seen → Option Condition → ℕ → Type 0
IsBarred rules seen None i = ⊥
IsBarred rules seen (Some c) i =
    IsTrue (is_context_rule (rule_at rules c.rule)) × IsBarredBy c.kind seen (rule_at rules c.rule) i
