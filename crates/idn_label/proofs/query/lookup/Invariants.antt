use Rattle.std.proofs.Common.{◌≡◌, take, string_bytes}
use Rattle.idn_text.specs.Points.{utf8_of}
use Rattle.idn_label.proofs.query.lookup.Given as goal

abbrev pub invariant-loop-c : goal.invariant-loop-c
invariant-loop-c l = string_bytes l.text ≡ utf8_of (take l.c-index l.name)
