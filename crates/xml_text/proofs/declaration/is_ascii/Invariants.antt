use Rattle.std.proofs.Common.{◌≡◌, nat_lt, take}
use Rattle.std.specs.List.{list_all}
use Rattle.xml_text.proofs.declaration.is_ascii.Given as goal

-- whether the bytes so far are ASCII
abbrev pub invariant-loop-byte : goal.invariant-loop-byte
invariant-loop-byte l = l.is ≡ list_all (λ b. nat_lt b 128) (take l.byte-index l.text)
