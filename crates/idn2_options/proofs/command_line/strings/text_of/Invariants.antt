use Rattle.std.proofs.Common.{◌≡◌, map, take}
use Rattle.std.specs.Prelude.{string_bytes}
use Rattle.idn2_options.specs.Inputs.{text_of}
use Rattle.idn2_options.proofs.command_line.strings.text_of.Given as goal

abbrev pub invariant-loop-string : goal.invariant-loop-string
invariant-loop-string l = l.text.items ≡ text_of (map string_bytes (take l.string-index l.strings))
