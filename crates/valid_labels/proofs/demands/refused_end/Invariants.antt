use Rattle.std.proofs.Common.{map, take}
use Rattle.ruleset_text.specs.DemandTrees.{demand}
use Rattle.valid_labels.proofs.DemandLemmas.{IsLeast}
use Rattle.valid_labels.proofs.demands.refused_end.Given as goal

-- the least end by the demands so far
abbrev pub invariant-loop-wanted : goal.invariant-loop-wanted
invariant-loop-wanted l = IsLeast l.seen (map demand (take l.wanted-index l.demands)) l.least
