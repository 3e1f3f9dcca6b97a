use Rattle.std.proofs.Common.{ℕ, ◌++◌, false, List, take}
use Rattle.lgr_table.specs.inner.TypeSteps.{AreTypes}
use Rattle.lgr_table.proofs.types.add_of_trigger.Given as goal

-- those before this one were found
abbrev pub invariant-loop-name : goal.invariant-loop-name
invariant-loop-name l =
    (names : List (List ℕ)) → AreTypes false names l.initial.types.items
    → AreTypes false (names ++ take l.name-index l.name-items) l.types.items
