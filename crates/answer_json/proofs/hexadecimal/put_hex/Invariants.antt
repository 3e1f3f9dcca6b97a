use Rattle.std.proofs.Common.{◌≡◌, ◌≤◌, ◌+◌, ◌*◌, ◌++◌, take, drop}
use Rattle.answer_json.specs.Hexadecimal.{hex_of}
use Rattle.answer_json.proofs.hexadecimal.put_hex.Given as goal

abbrev pub invariant-loop-byte : goal.invariant-loop-byte
invariant-loop-byte l = record {
  end : l.end ≤ l.at + 2 * l.byte-index;
  bytes : take l.end l.out ++ hex_of (drop l.byte-index l.bytes) ≡ take l.at l.fn.out ++ hex_of l.bytes;
}
