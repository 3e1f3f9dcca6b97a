use Rattle.std.proofs.Common.{◌≤◌, length}
use Rattle.valid_labels.specs.Eligible.{CutLeadsTo}
use Rattle.valid_labels.proofs.longest.cut_end.Given as goal

-- the cut leads to the place, which is at least as far as sources were taken
abbrev pub invariant-loop : goal.invariant-loop
invariant-loop l = record {
  reached : CutLeadsTo l.table l.label l.place;
  within : l.place ≤ length l.label;
  far : l.counter ≤ l.place;
}
