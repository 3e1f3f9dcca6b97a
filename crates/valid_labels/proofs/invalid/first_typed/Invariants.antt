use Rattle.std.proofs.Common.{◌≡◌, drop}
use Rattle.valid_labels.specs.Causes.{first_typed as first_typed_of}
use Rattle.valid_labels.proofs.invalid.first_typed.Given as goal

-- the first one is among those that are left
abbrev pub invariant-loop-source : goal.invariant-loop-source
invariant-loop-source l = first_typed_of l.types (drop l.source-index l.sources) ≡ first_typed_of l.types l.sources
