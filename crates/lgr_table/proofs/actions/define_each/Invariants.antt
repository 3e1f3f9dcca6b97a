use Rattle.std.proofs.Common.{◌≡◌, ◌++◌, List, length, map, take}
use Rattle.lgr_text.specs.Records.{Action, action}
use Rattle.lgr_table.specs.inner.Steps.{HaveDefined}
use Rattle.lgr_table.specs.inner.TypeNames.{AreNamesOf}
use Rattle.variant_table.specs.Entries.{TableValue}
use Rattle.lgr_table.proofs.actions.define_each.Given as goal

-- those so far
abbrev pub invariant-loop-action : goal.invariant-loop-action
invariant-loop-action l = record {
  still : l.builder.definitions.rules ≡ l.initial.builder.definitions.rules;
  rules : length l.builder.definitions.rule_names ≡ length l.numbers.rules;
  types : AreNamesOf l.numbers l.builder.definitions l.types;
  defined : (t : TableValue) (before : List Action) → HaveDefined l.numbers t l.initial.builder before
      → HaveDefined l.numbers t l.builder (before ++ map action (take l.action-index l.actions));
}
