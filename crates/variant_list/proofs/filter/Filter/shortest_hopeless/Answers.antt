use Rattle.std.proofs.Common.{◌+◌, sym, arith}
use Rattle.variant_list.proofs.BeginningLemmas.{shortest_hopeless-at, shortest_hopeless-none}
use Rattle.variant_list.proofs.filter.Filter.shortest_hopeless.Goals as goal

pub returns-then-hopeless : goal.returns-then-hopeless
returns-then-hopeless g c =
    sym (shortest_hopeless-at (g.Self.Filter.dead c.args.self.now) c.args.label.now (c.loop-index.index + 1) (omega arith) (omega arith) (sym c.if-hopeless.ensures) (λ k low high. c.loop-index.invariant k low (omega arith)))

pub returns : goal.returns
returns g c =
    sym (shortest_hopeless-none (g.Self.Filter.dead c.args.self.now) c.args.label.now (λ k low high. c.loop-index.invariant k low (omega arith)))
