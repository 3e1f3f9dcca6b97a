use Rattle.std.proofs.Common.{◌≡◌, ◌+◌, ◌*◌, ◌^◌, ◌<◌, ◌≤◌, drop}
use Rattle.idna.specs.Punycode.{read_integer}
use Rattle.idn_punycode.proofs.decoding.read_more.Given as goal

abbrev pub invariant-loop-at : goal.invariant-loop-at
invariant-loop-at g l =
    let digits = g.U.Unit.codes l.digits in
    (read_integer l.bias l.k l.weight l.sum (drop l.at digits) ≡ read_integer l.bias 72 l.fn.weight l.fn.start digits)
    × (0 < l.weight) × (l.start ≤ l.sum) × (l.sum < 2 ^ 27) × (l.weight ≤ 35 * 2 ^ 27) × (l.k ≤ 36 * (l.at + 2))
