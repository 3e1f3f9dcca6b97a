use Rattle.std.proofs.Common.{◌≡◌, take}
use Rattle.std.specs.List.{list_all}
use Rattle.xml_text.specs.inner.Blocks.{is_plain}
use Rattle.xml_text.proofs.characters.are_plain.Given as goal

-- whether the bytes so far are plain
abbrev pub invariant-loop-byte : goal.invariant-loop-byte
invariant-loop-byte l = l.are ≡ list_all is_plain (take l.byte-index l.bytes)
