use Rattle.std.proofs.Common.{◌≡◌, ◌-◌, ◌≤◌, true, length, take}
use Rattle.std.specs.List.{list_all}
use Rattle.xml_text.specs.inner.Runs.{goes_on}
use Rattle.xml_text.proofs.run.Run.lead.Given as goal

-- the bytes so far go on
abbrev pub invariant-loop-place : goal.invariant-loop-place
invariant-loop-place l = record {
  within : l.place ≤ length l.text;
  run : list_all (goes_on l.self) (take l.place l.text) ≡ true;
}

abbrev pub decreases-loop-place : goal.decreases-loop-place
decreases-loop-place l = length l.text - l.place
