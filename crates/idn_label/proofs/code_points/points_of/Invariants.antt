use Rattle.std.proofs.Common.{◌≡◌, take}
use Rattle.idn_text.specs.Points.{AreScalarValues}
use Rattle.idn_label.proofs.code_points.points_of.Given as goal

abbrev pub invariant-loop-c : goal.invariant-loop-c
invariant-loop-c l = record {
  points : l.points.items ≡ take l.c-index l.label;
  scalar_values : AreScalarValues l.points.items;
}
