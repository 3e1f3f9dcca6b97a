use Rattle.std.proofs.Common.{◌≡◌, ◌+◌, ◌*◌, ◌≤◌, length}
use Rattle.variant_list.specs.inner.Least.{NoneBetween}
use Rattle.variant_list.specs.inner.Plans.{Step, first_place}
use Rattle.variant_list.proofs.search.Search.turn_later.Given as goal

abbrev pub invariant-loop-level : goal.invariant-loop-level
invariant-loop-level l = record {
  net : l.self.net ≡ l.fn.self.net;
  last : l.self.last ≡ l.fn.self.last;
  none : NoneBetween (Step l.fn.self.net) (first_place l.fn.self.net) 0 l.fn.self.last l.level l.top;
  looks : l.looks + l.level * length l.fn.self.net.edges ≤ l.fn.looks + l.top * length l.fn.self.net.edges;
}
