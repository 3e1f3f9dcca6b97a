use Rattle.std.proofs.Common.{◌≡◌, ◌+◌, decimal, length}
use Rattle.answer_json.proofs.member.count_digits.Given as goal

-- the digits that are counted, and those of what is left
abbrev pub invariant-loop-left : goal.invariant-loop-left
invariant-loop-left l = record {
  digits : l.count + length (decimal l.left) ≡ length (decimal l.number);
}

abbrev pub decreases-loop-left : goal.decreases-loop-left
decreases-loop-left l = l.left
