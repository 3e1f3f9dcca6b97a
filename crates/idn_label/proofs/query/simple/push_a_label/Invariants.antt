use Rattle.std.proofs.Common.{◌≡◌, ◌++◌, take}
use Rattle.idn_label.proofs.query.simple.push_a_label.Given as goal

abbrev pub invariant-loop-c : goal.invariant-loop-c
invariant-loop-c l = l.query.items ≡ l.initial.query.items ++ take l.c-index l.label
