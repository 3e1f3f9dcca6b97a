-- The definitions as tests that compute. A set of places is a number, as in Places.
use Rattle.std.specs.Prelude.{ℕ, zero, suc, ◌+◌, ◌-◌, ◌*◌, ◌^◌, ◌==◌, ◌&&◌, Bool, true, false, not, List, [], ◌∷◌}
use Rattle.std.specs.Prelude.{Option, Some, None, length, slice_index_or, if◌then◌else◌}
use Rattle.std.specs.Int.{bit_at}
use Rattle.std.specs.Int.RustNames.{bit_and, bit_or}
use Rattle.std.specs.List.{list_any}
use Rattle.label_patterns.specs.declared.condition.Condition.{Condition}
use Rattle.label_patterns.specs.declared.condition.ConditionKind.{ConditionKind}
use Rattle.label_patterns.specs.declared.condition.ConditionKind.TheVariants.{When, Unless}
use Rattle.label_patterns.specs.Patterns.{Pattern, Point, Set, Any, Start, End, Anchor, Group, Optional, Many, Then}
use Rattle.label_patterns.specs.Patterns.{Either}
use Rattle.label_patterns.specs.Matches.{Seen}
use Rattle.label_patterns.specs.Rules.{branches, is_anchor, is_context_rule}
use Rattle.label_patterns.specs.Sets.{is_in}
use Rattle.label_patterns.specs.Conditions.{rule_at}
use Rattle.label_patterns.specs.Barring.{ends_in_anchor}

-- the place is in the set
abbrev pub has_place : ℕ → ℕ → Bool
has_place places p = bit_at places p == 1

-- the places of a label at which a code point stands of which the test is true
abbrev pub places_of : (ℕ → Bool) → List ℕ → ℕ
places_of test [] = 0
places_of test (c ∷ label) = (if test c then 1 else 0) + places_of test label * 2

-- all places of a label
abbrev pub every_place : List ℕ → ℕ
every_place label = 2 ^ (length label + 1) - 1

-- so many rounds of a step
abbrev pub grown : ℕ → (ℕ → ℕ) → ℕ → ℕ
grown zero step places = places
grown (suc n) step places = step (grown n step places)

-- the places where a part that the pattern matches can end, if it begins at one of the starts
abbrev pub ends_from : Seen → Pattern → ℕ → ℕ
ends_from seen (Point c) starts = bit_and starts (places_of (λ d. d == c) seen.label) * 2
ends_from seen (Set n) starts = bit_and starts (places_of (is_in (slice_index_or seen.sets n [])) seen.label) * 2
ends_from seen Any starts = bit_and starts (places_of (λ d. true) seen.label) * 2
ends_from seen Start starts = bit_and starts 1
ends_from seen End starts = bit_and starts (2 ^ length seen.label)
ends_from seen Anchor starts = 0
ends_from seen (Group p) starts = ends_from seen p starts
ends_from seen (Optional p) starts = bit_or starts (ends_from seen p starts)
ends_from seen (Many p) starts = grown (length seen.label) (λ found. bit_or found (ends_from seen p found)) starts
ends_from seen (Then p q) starts = ends_from seen q (ends_from seen p starts)
ends_from seen (Either p q) starts = bit_or (ends_from seen p starts) (ends_from seen q starts)

-- some part of the label matches the pattern
abbrev pub occurs_in : Seen → Pattern → Bool
occurs_in seen p = not (ends_from seen p (every_place seen.label) == 0)

-- the places up to which what stands before '_' is found, if it begins at one of these
abbrev pub before_from : Seen → Pattern → ℕ → ℕ
before_from seen Anchor places = places
before_from seen (Then p q) places = if is_anchor p then places else before_from seen q (ends_from seen p places)
before_from seen p places = 0

-- what is before the place ends in what stands before '_' in the context
abbrev pub ends_before : Seen → Pattern → ℕ → Bool
ends_before seen context i = has_place (before_from seen context (every_place seen.label)) i

-- what follows the place begins with what stands after '_'
abbrev pub begins_after : Seen → Pattern → ℕ → Bool
begins_after seen Anchor j = true
begins_after seen (Then p q) j = if is_anchor p then not (ends_from seen q (2 ^ j) == 0) else begins_after seen q j
begins_after seen p j = false

-- the rule holds for the part from i to j
abbrev pub rule_holds : Seen → Pattern → ℕ → ℕ → Bool
rule_holds seen rule i j =
    if is_context_rule rule then list_any (λ context. ends_before seen context i && begins_after seen context j)
    (branches rule) else occurs_in seen rule

abbrev pub is_asked : ConditionKind → Bool → Bool
is_asked When holds = holds
is_asked Unless holds = not holds

-- the condition holds for the part from i to j
abbrev pub condition_holds : List Pattern → Seen → Option Condition → ℕ → ℕ → Bool
condition_holds rules seen None i j = true
condition_holds rules seen (Some c) i j = is_asked c.kind (rule_holds seen (rule_at rules c.rule) i j)

abbrev pub is_barred_by : ConditionKind → Seen → Pattern → ℕ → Bool
is_barred_by When seen rule i = not (list_any (λ context. ends_before seen context i) (branches rule))
is_barred_by Unless seen rule i =
    list_any (λ context. ends_in_anchor context && ends_before seen context i) (branches rule)

-- the condition fails for each part that begins at i, by what stands before i alone
abbrev pub condition_barred : List Pattern → Seen → Option Condition → ℕ → Bool
condition_barred rules seen None i = false
condition_barred rules seen (Some c) i =
    is_context_rule (rule_at rules c.rule) && is_barred_by c.kind seen (rule_at rules c.rule) i

-- the pattern doesn't ask for the end of the label
abbrev pub ignores_end : Pattern → Bool
ignores_end End = false
ignores_end (Group p) = ignores_end p
ignores_end (Optional p) = ignores_end p
ignores_end (Many p) = ignores_end p
ignores_end (Then p q) = ignores_end p && ignores_end q
ignores_end (Either p q) = ignores_end p && ignores_end q
ignores_end (Point c) = true
ignores_end (Set n) = true
ignores_end Any = true
ignores_end Start = true
ignores_end Anchor = true
