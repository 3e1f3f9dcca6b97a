use Rattle.std.proofs.Common.{◌≡◌, map, take}
use Rattle.idn_label.specs.inner.BidiNames.{shown}
use Rattle.idn_label.proofs.bidi_name.passes_in_numbers.Given as goal

abbrev pub invariant-loop-c : goal.invariant-loop-c
invariant-loop-c l = l.characters.items ≡ map shown (take l.c-index l.name)
