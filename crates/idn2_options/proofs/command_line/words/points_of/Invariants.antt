use Rattle.std.proofs.Common.{◌≡◌}
use Rattle.idn2_options.proofs.command_line.words.points_of.Given as goal

abbrev pub invariant-loop-c : goal.invariant-loop-c
invariant-loop-c l = l.points.items ≡ l.yielded
