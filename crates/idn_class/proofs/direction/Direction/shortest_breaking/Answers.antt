use Rattle.std.proofs.Common.{◌≡◌, length, sym, subst, arith}
use Rattle.idn_class.proofs.DeadPrefixShortest.{HasKept, HasKept-none, HasKept-next, IsShortest-here, HasNone-all}
use Rattle.idn_class.proofs.direction.Direction.shortest_breaking.Goals as goal

pub loop-index-init : goal.loop-index-init
loop-index-init c = HasKept-none c.args.properties c.args.self c.args.rest.now

pub loop-index-preserved : goal.loop-index-preserved
loop-index-preserved c = HasKept-next c.args.properties c.args.self c.args.rest.now c.loop-index.index c.loop-index.direction c.in-Some.longer c.loop-index.invariant c.loop-index-test.true (sym c.in-Some.ensures)

pub returns-in-None : goal.returns-in-None
returns-in-None c = IsShortest-here c.args.properties c.args.self c.args.rest.now c.loop-index.index c.loop-index.direction c.loop-index.invariant c.loop-index-test.true (sym c.in-None.ensures)

pub returns : goal.returns
returns c =
    let end : c.loop-index.index ≡ length c.args.rest.now = omega (arith, c.loop-index-test.false, c.loop-index.auto.index-end) in
    HasNone-all c.args.properties c.args.self c.args.rest.now c.loop-index.direction (subst (λ i. HasKept c.args.properties c.args.self c.args.rest.now i c.loop-index.direction) end c.loop-index.invariant)
