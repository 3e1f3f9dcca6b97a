use Rattle.std.proofs.Common.{◌≡◌, ℕ, List, take}
use Rattle.lgr_table.specs.inner.RuleSteps.{HasOtherRules}
use Rattle.lgr_table.specs.inner.TableNames.{AreRuleNames, names_by}
use Rattle.lgr_table.proofs.rules.define_sets.Given as goal

-- the sets so far
abbrev pub invariant-loop-number : goal.invariant-loop-number
invariant-loop-number l = record {
  sets : l.builder.definitions.sets ≡ take l.number l.sets;
  rules : l.builder.definitions.rules ≡ l.initial.builder.definitions.rules;
  others : HasOtherRules l.initial.builder l.builder;
  called : (rules : List (List ℕ)) → AreRuleNames (names_by l.names) rules l.initial.builder.definitions
      → AreRuleNames (names_by l.names) rules l.builder.definitions;
}
