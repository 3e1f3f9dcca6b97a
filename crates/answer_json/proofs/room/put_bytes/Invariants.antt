use Rattle.std.proofs.Common.{◌≡◌, ◌+◌, ◌++◌, take}
use Rattle.answer_json.proofs.room.put_bytes.Given as goal

abbrev pub invariant-loop-byte : goal.invariant-loop-byte
invariant-loop-byte l = record {
  written : take l.end l.out ≡ take l.at l.fn.out ++ take l.byte-index l.bytes;
  end : l.end ≡ l.at + l.byte-index;
}
