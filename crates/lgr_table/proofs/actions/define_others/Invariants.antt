use Rattle.std.proofs.Common.{◌≡◌, length, map, take}
use Rattle.std.specs.Prelude.{filter}
use Rattle.lgr_text.specs.Records.{action}
use Rattle.lgr_table.specs.inner.Steps.{HaveDefined}
use Rattle.lgr_table.specs.inner.TypeNames.{AreNamesOf}
use Rattle.lgr_table.proofs.DemandLemmas.{is_other}
use Rattle.lgr_table.proofs.actions.define_others.Given as goal

-- those so far
abbrev pub invariant-loop-action : goal.invariant-loop-action
invariant-loop-action l = record {
  rules : length l.builder.definitions.rule_names ≡ length l.numbers.rules;
  types : AreNamesOf l.numbers l.builder.definitions l.types;
  defined : HaveDefined l.numbers l.initial.builder l.builder (filter is_other (map action (take l.action-index l.actions)));
}
