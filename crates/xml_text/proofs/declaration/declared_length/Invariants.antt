use Rattle.std.proofs.Common.{◌≡◌, true, take}
use Rattle.std.specs.List.{list_all}
use Rattle.xml_text.specs.Files.{is_declared_byte}
use Rattle.xml_text.proofs.declaration.declared_length.Given as goal

-- the bytes so far may stand in a declaration
abbrev pub invariant-loop-place : goal.invariant-loop-place
invariant-loop-place l = list_all is_declared_byte (take l.place l.text) ≡ true
