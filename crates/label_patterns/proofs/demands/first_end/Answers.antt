use Rattle.label_patterns.specs.Trees.{pattern}
use Rattle.label_patterns.proofs.DemandLemmas.{occurs-none, first-is}
use Rattle.std.proofs.Common.{arith}
use Rattle.label_patterns.proofs.demands.first_end.Goals as goal

pub returns-then-found-eq0 : goal.returns-then-found-eq0
returns-then-found-eq0 c =
    occurs-none (pattern c.args.tree.now) c.args.seen.now c.len.result c.all_places.result c.ends-found.result c.len.ensures.is c.all_places.ensures c.ends-found.ensures (omega (arith, c.if-found-eq0.true))

pub returns : goal.returns
returns c =
    first-is (pattern c.args.tree.now) c.args.seen.now c.len.result c.all_places.result c.ends-found.result c.len.ensures.is c.all_places.ensures c.ends-found.ensures c.ends-found.type_inv c.if-found-eq0.false
