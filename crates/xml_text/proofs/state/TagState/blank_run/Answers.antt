use Rattle.std.proofs.Common.{◌+◌}
use Rattle.xml_text.specs.declared.state.Phase.TheVariants as phase
use Rattle.xml_text.specs.inner.TagSteps.{state, step, with_phase}
use Rattle.xml_text.proofs.TagTaken.{blank_goes}
use Rattle.xml_text.proofs.TakenLemmas.{on_further}
use Rattle.xml_text.proofs.state.TagState.blank_run.Goals as goal

pub returns : goal.returns
returns c =
    let s = state c.args.self.now in
    let more = c.split_at.result.1.now in
    let t = state c.begin_attribute.new.self in
    let u = state c.rest_of_tag.new.self in
    let n = c.in_ok-len.len in
    let m = c.in_ok-further.further in
    blank_goes s c.args.rest.now more (n + m) u c.requires.blank c.requires.some c.split_at.ensures.back
    (on_further step (with_phase s phase.Blank) t u more c.split_at-2.result.1.now n m c.split_at-2.ensures.back c.in_ok-len.ensures c.in_ok-further.ensures)
