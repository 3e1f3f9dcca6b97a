use Rattle.std.proofs.Common.{◌≡◌, drop}
use Rattle.idn_label.specs.FirstFault.{code_point_fault}
use Rattle.idn_label.proofs.first_fault.check_code_points.Given as goal

abbrev pub invariant-loop-c : goal.invariant-loop-c
invariant-loop-c l = code_point_fault l.properties l.label ≡ code_point_fault l.properties (drop l.c-index l.label)
