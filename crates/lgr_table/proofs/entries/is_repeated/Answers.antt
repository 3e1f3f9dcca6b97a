use Rattle.std.proofs.Common.{sym}
use Rattle.lgr_table.proofs.entries.is_repeated.Goals as goal

pub returns-then-is_same : goal.returns-then-is_same
returns-then-is_same c = λ is. record {
  within = c.requires;
  again = c.index-variants-number.result;
  there = sym c.index-variants-number.is;
  earlier = c.loop-earlier.earlier;
  before = c.loop-earlier-test.true;
  first = c.index-variants-earlier.result;
  first_there = sym c.index-variants-earlier.is;
  same = c.is_same.ensures c.if-is_same.true;
}
