use Rattle.std.proofs.Common.{◌≡◌, ◌-◌, ◌≤◌, Some, None, length, take}
use Rattle.idn_text.specs.Stops.{run}
use Rattle.xml_text.specs.inner.TagSteps.{start, step, state, kind_of}
use Rattle.xml_text.proofs.tag.read_by.Given as goal

-- the bytes so far lead to the state, and are no tag
abbrev pub invariant-loop-place : goal.invariant-loop-place
invariant-loop-place l = record {
  within : l.place ≤ length l.text;
  read : run step (Some start) (take l.place l.text) ≡ Some (state l.state);
  incomplete : kind_of l.state.phase ≡ None;
}

abbrev pub decreases-loop-place : goal.decreases-loop-place
decreases-loop-place l = length l.text - l.place
