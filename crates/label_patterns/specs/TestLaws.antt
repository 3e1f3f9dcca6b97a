-- Laws of the tests that compute, and of what is barred.
use Rattle.std.specs.Prelude.{ℕ, ◌≤◌, ◌↔◌, IsTrue, List, ◌++◌, length, Option}
use Rattle.std.specs.List.{AllByRecursion}
use Rattle.label_patterns.specs.declared.condition.Condition.{Condition}
use Rattle.label_patterns.specs.declared.span.Span.{Span}
use Rattle.label_patterns.specs.Patterns.{Pattern}
use Rattle.label_patterns.specs.Matches.{Seen}
use Rattle.label_patterns.specs.Rules.{Holds, Occurs}
use Rattle.label_patterns.specs.Conditions.{ConditionHolds}
use Rattle.label_patterns.specs.Laws.{ContextsIgnoreEnd, IgnoresEnd, seen}
use Rattle.label_patterns.specs.Barring.{IsBarred}
use Rattle.label_patterns.specs.Tests.{occurs_in, rule_holds, condition_holds, condition_barred, ignores_end}

-- the tests that compute are true exactly where the definitions hold
pub record TestsAgree : Type 0 where
  pub occurs : (seen : Seen) (p : Pattern) → IsTrue (occurs_in seen p) ↔ Occurs seen p
  pub holds : (seen : Seen) (rule : Pattern) (i j : ℕ) → i ≤ length seen.label → j ≤ length seen.label
      → IsTrue (rule_holds seen rule i j) ↔ Holds seen rule i j
  pub condition : (rules : List Pattern) (seen : Seen) (c : Option Condition) (i j : ℕ) → i ≤ length seen.label
      → j ≤ length seen.label →
      IsTrue (condition_holds rules seen c i j) ↔ ConditionHolds rules seen c i j
  pub barred : (rules : List Pattern) (seen : Seen) (c : Option Condition) (i : ℕ) → i ≤ length seen.label
      → IsTrue (condition_barred rules seen c i) ↔ IsBarred rules seen c i
  pub without_end : (p : Pattern) → IsTrue (ignores_end p) ↔ IgnoresEnd p

-- a condition that is barred at a place fails for each part that begins there, whatever follows the label; none of the
-- contexts asks for the end before '_'
abbrev pub BarredForGood : Type 0
BarredForGood =
    (rules : List Pattern) (sets : List (List Span)) (label more : List ℕ) (c : Option Condition) (i j : ℕ) →
    AllByRecursion ContextsIgnoreEnd rules → i ≤ length label →
    IsBarred rules (seen sets label) c i → ¬ ConditionHolds rules (seen sets (label ++ more)) c i j

-- whether a condition is barred depends on what stands before the place alone
abbrev pub BarringStays : Type 0
BarringStays = (rules : List Pattern) (sets : List (List Span)) (label more : List ℕ) (c : Option Condition) (i : ℕ) →
    AllByRecursion ContextsIgnoreEnd rules → i ≤ length label →
    IsBarred rules (seen sets label) c i ↔ IsBarred rules (seen sets (label ++ more)) c i
