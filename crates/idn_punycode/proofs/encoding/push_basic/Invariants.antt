use Rattle.std.proofs.Common.{◌≡◌, ◌++◌, take}
use Rattle.idna.specs.Punycode.{below}
use Rattle.idn_punycode.proofs.encoding.push_basic.Given as goal

abbrev pub invariant-loop-unit : goal.invariant-loop-unit
invariant-loop-unit g l = l.text.bytes ≡ l.fn.text.bytes ++ below 128 (take l.unit-index (g.U.Unit.codes l.label))
