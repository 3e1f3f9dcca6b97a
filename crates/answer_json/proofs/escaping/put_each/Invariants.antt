use Rattle.std.proofs.Common.{◌≡◌, ◌≤◌, ◌+◌, ◌*◌, ◌++◌, take, drop}
use Rattle.json.specs.Print.{escape}
use Rattle.answer_json.proofs.escaping.put_each.Given as goal

abbrev pub invariant-loop-byte : goal.invariant-loop-byte
invariant-loop-byte l = record {
  end : l.end ≤ l.at + 6 * l.byte-index;
  bytes : take l.end l.out ++ escape (drop l.byte-index l.text) ≡ take l.at l.fn.out ++ escape l.text;
}
