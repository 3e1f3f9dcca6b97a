use Rattle.std.proofs.Common.{◌≡◌, take}
use Rattle.lgr_text.specs.Properties.{loose}
use Rattle.lgr_text.proofs.properties.loose.Given as goal

-- the name so far
abbrev pub invariant-loop-byte : goal.invariant-loop-byte
invariant-loop-byte l = l.name.items ≡ loose (take l.byte-index l.text)
