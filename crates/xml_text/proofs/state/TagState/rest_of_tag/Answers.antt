use Rattle.std.proofs.Common.{sym, ◌∙◌}
use Rattle.xml_text.specs.inner.TagSteps.{state, step}
use Rattle.xml_text.proofs.TagTaken.{blank_on}
use Rattle.xml_text.proofs.TakenLemmas.{on_further}
use Rattle.xml_text.proofs.state.TagState.rest_of_tag.Goals as goal

pub loop-place-preserved : goal.loop-place-preserved
loop-place-preserved c =
    blank_on (state c.args.self.now) (state c.loop-place.self) (state c.begin_attribute.new.self) c.args.rest.now c.split_at.result.1.now c.loop-place.place c.in_ok-place.field-0 c.loop-place-test.true
    (sym c.is_between.ensures ∙ c.if-is_between.true) (sym c.is_space.ensures ∙ c.if-is_space.true) c.split_at.ensures.back c.loop-place.invariant c.in_ok-place.ensures

pub returns : goal.returns
returns c =
    on_further step (state c.args.self.now) (state c.loop-place.self) (state c.end_of_tag.new.self) c.args.rest.now c.split_at-2.result.1.now c.loop-place.place c.end_of_tag.result c.split_at-2.ensures.back
    c.loop-place.invariant c.end_of_tag.ensures
