use Rattle.std.proofs.Common.{◌-◌, length}
use Rattle.xml_text.specs.inner.Runs.{GoesOn}
use Rattle.xml_text.specs.inner.TagSteps.{state, step}
use Rattle.xml_text.proofs.state.TagState.rest_of_tag.Given as goal

-- the bytes so far lead to the state
abbrev pub invariant-loop-place : goal.invariant-loop-place
invariant-loop-place l = GoesOn step (state l.fn.self) l.rest l.place (state l.self)

abbrev pub decreases-loop-place : goal.decreases-loop-place
decreases-loop-place l = length l.rest - l.place
