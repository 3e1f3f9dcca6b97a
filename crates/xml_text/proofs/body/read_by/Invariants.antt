use Rattle.std.proofs.Common.{◌≡◌, ◌≤◌, ◌+◌, ◌-◌, false, length, take}
use Rattle.xml_text.specs.LineEnds.{return_after}
use Rattle.xml_text.specs.inner.DocumentSteps.{state}
use Rattle.xml_text.proofs.BodyLemmas.{Leads}
use Rattle.xml_text.proofs.body.read_by.Given as goal

-- the bytes so far lead to the state
abbrev pub invariant-loop-place : goal.invariant-loop-place
invariant-loop-place l = record {
  within : l.place ≤ length l.text;
  read : Leads l.fn.state.line (take l.place l.text) (state l.state);
  after : l.state.is_after_return ≡ return_after false (take l.place l.text);
  line : l.state.line ≤ l.fn.state.line + l.place;
}

abbrev pub decreases-loop-place : goal.decreases-loop-place
decreases-loop-place l = length l.text - l.place
