use Rattle.std.proofs.Common.{◌≡◌, map, take}
use Rattle.lgr_text.specs.Records.{definition, entry}
use Rattle.lgr_text.specs.inner.Branches.{HaveBranches}
use Rattle.lgr_table.specs.inner.RuleSteps.{HasOtherRules, known_by}
use Rattle.lgr_table.specs.inner.TableNames.{AreRuleNames, names_by}
use Rattle.lgr_table.specs.Tables.{may_stand}
use Rattle.lgr_table.proofs.KnownLemmas.{AreFaultlessSoFar}
use Rattle.lgr_table.proofs.TakenLemmas.{AreTaken}
use Rattle.lgr_table.proofs.TakenOrderLemmas.{chosen}
use Rattle.lgr_table.proofs.rules.define_rules.Given as goal

-- what is known of the definitions so far
abbrev pub invariant-loop-number : goal.invariant-loop-number
invariant-loop-number l = record {
  taken : AreTaken (map entry l.repertoire.entries.now) l.repertoire.points.now
      (known_by (map entry l.repertoire.entries.now) l.repertoire.points.now l.taken l.builder.definitions.rules)
      l.builder.definitions.sets
      (chosen (map definition l.«ruleset».definitions.items) (take l.number-index l.number-items));
  sets : l.made.sets.items ≡ l.builder.definitions.sets;
  branches : HaveBranches l.builder.definitions.rules;
  faultless : AreFaultlessSoFar (may_stand l.initial.builder.definitions.properties) l.«ruleset» (take l.number-index l.number-items);
  others : HasOtherRules l.initial.builder l.builder;
  called : AreRuleNames (names_by l.names) l.taken.rule_names.items l.builder.definitions;
}
