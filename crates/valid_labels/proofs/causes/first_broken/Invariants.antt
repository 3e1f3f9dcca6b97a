use Rattle.std.proofs.Common.{◌≡◌, map, drop}
use Rattle.ruleset_text.specs.DemandTrees.{demand}
use Rattle.valid_labels.specs.Causes.{broken_from}
use Rattle.valid_labels.proofs.causes.first_broken.Given as goal

-- none was broken so far
abbrev pub invariant-loop-number : goal.invariant-loop-number
invariant-loop-number l = broken_from l.seen 0 (map demand l.demands) ≡ broken_from l.seen l.number (map demand (drop l.number l.demands))
