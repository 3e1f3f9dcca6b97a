use Rattle.std.proofs.Common.{map, take}
use Rattle.std.specs.List.{AllByRecursion}
use Rattle.ruleset_text.specs.DemandTrees.{demand}
use Rattle.valid_labels.specs.Demands.{IsMet}
use Rattle.valid_labels.proofs.demands.are_met.Given as goal

-- the label meets the demands so far
abbrev pub invariant-loop-wanted : goal.invariant-loop-wanted
invariant-loop-wanted l = AllByRecursion (IsMet l.seen) (map demand (take l.wanted-index l.demands))
