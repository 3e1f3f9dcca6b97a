use Rattle.std.proofs.Common.{◌↔◌, take}
use Rattle.std.specs.List.{Contains}
use Rattle.variant_dispositions.specs.Kinds.{Kind, kinds_in}
use Rattle.valid_labels.specs.Causes.{cut_kinds}
use Rattle.valid_labels.proofs.invalid.kinds_of.Given as goal

-- what the sources so far record
abbrev pub invariant-loop-source : goal.invariant-loop-source
invariant-loop-source l = (kind : Kind) → Contains (kinds_in l.kinds) kind ↔ Contains (cut_kinds (take l.source-index l.sources)) kind
