use Rattle.std.proofs.Common.{◌≡◌, None}
use Rattle.valid_labels.specs.Causes.{last_condition}
use Rattle.valid_labels.proofs.causes.stopped_by.Given as goal

-- with the entries that are left it is the one that is wanted
abbrev pub invariant-loop-entry : goal.invariant-loop-entry
invariant-loop-entry l = last_condition l.found l.entry-iterator ≡ last_condition None l.initial.entry-iterator
