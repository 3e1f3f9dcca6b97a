use Rattle.std.proofs.Common.{◌≡◌, ◌++◌, map, take}
use Rattle.idn2.proofs.output.taken.Taken.push.Given as goal

-- the bytes so far stand after what was taken
abbrev pub invariant-loop-byte : goal.invariant-loop-byte
invariant-loop-byte l = map (λ entry. entry.0) l.self-inside.log.items ≡ l.fn.self ++ take l.byte-index l.text
