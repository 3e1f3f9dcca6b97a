use Rattle.std.proofs.Common.{◌≡◌, take}
use Rattle.idn_label.proofs.code_points.short_chars.Given as goal

abbrev pub invariant-loop-c : goal.invariant-loop-c
invariant-loop-c l = l.chars.items ≡ take l.c-index l.label
