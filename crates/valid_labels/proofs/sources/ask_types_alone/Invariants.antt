use Rattle.std.proofs.Common.{map, take}
use Rattle.std.specs.List.{AllByRecursion}
use Rattle.ruleset_text.specs.ActionForms as held
use Rattle.valid_labels.specs.Validity.{AsksTypesAlone}
use Rattle.valid_labels.proofs.sources.ask_types_alone.Given as goal

-- those so far do
abbrev pub invariant-loop-action : goal.invariant-loop-action
invariant-loop-action l = AllByRecursion AsksTypesAlone (map held.action (take l.action-index l.actions))
