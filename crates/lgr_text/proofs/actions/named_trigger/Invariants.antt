use Rattle.std.proofs.Common.{◌≡◌, drop, map, take}
use Rattle.std.specs.List.{list_all}
use Rattle.lgr_text.specs.ActionNames.{called, each_once, is_called}
use Rattle.lgr_text.proofs.actions.named_trigger.Given as goal

-- the names so far, each of which is called something, and stands there once
abbrev pub invariant-loop-name : goal.invariant-loop-name
invariant-loop-name l = record {
  names : l.names.items ≡ each_once (map (called l.types) (take l.name-index l.name-items));
  all : list_all (is_called l.types) (drop l.name-index l.name-items) ≡ list_all (is_called l.types) l.name-items;
}
