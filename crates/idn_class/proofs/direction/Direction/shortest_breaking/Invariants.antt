use Rattle.idn_class.proofs.DeadPrefixShortest.{HasKept}
use Rattle.idn_class.proofs.direction.Direction.shortest_breaking.Given as goal

abbrev pub invariant-loop-index : goal.invariant-loop-index
invariant-loop-index l = HasKept l.properties l.fn.self l.rest l.index l.direction
