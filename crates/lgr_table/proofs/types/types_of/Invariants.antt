use Rattle.std.proofs.Common.{◌++◌, false, map, take}
use Rattle.std.specs.List.{flat_map}
use Rattle.lgr_text.specs.Records.{action, entry}
use Rattle.lgr_table.specs.Numbers.{trigger_types, variant_type}
use Rattle.lgr_table.specs.inner.TypeSteps.{AreTypes}
use Rattle.lgr_table.proofs.types.types_of.Given as goal

-- the types of the entries before this one
abbrev pub invariant-loop-entry : goal.invariant-loop-entry
invariant-loop-entry l =
    AreTypes false (flat_map (λ e. flat_map variant_type e.variants) (map entry (take l.entry-index l.entry-items))) l.types.items

-- and those of all entries, and of the actions before this one
abbrev pub invariant-loop-action : goal.invariant-loop-action
invariant-loop-action l =
    AreTypes false (flat_map (λ e. flat_map variant_type e.variants) (map entry l.«ruleset».entries.items)
    ++ flat_map (λ a. trigger_types a.trigger) (map action (take l.action-index l.action-items)))
    l.types.items
