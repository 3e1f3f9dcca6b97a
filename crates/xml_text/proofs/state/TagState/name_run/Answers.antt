use Rattle.std.proofs.Common.{rules, ◌≡◌, ◌++◌, Some, take, get_or}
use Rattle.xml_text.specs.declared.state.Phase.TheVariants as phase
use Rattle.xml_text.specs.inner.TagSteps.{state, step, named}
use Rattle.xml_text.proofs.TagTaken.{name_goes}
use Rattle.xml_text.proofs.TakenLemmas.{taken_on}
use Rattle.xml_text.proofs.state.TagState.name_run.Goals as goal

pub returns : goal.returns
returns c =
    let len = c.len-len in
    let s = state c.args.self.now in
    let rest = c.args.rest.now in
    let name = c.add.new.self in
    let is : name ≡ c.args.self.now.name ++ take len.result rest = search rules in
    let read = name_goes s rest len.result name len.ensures.some len.ensures.within len.ensures.run is in
    taken_on step (Some (named s (get_or rest 0 0))) rest c.split_at.result.1.now len.result c.in_ok-others.others (record s { name = name; phase = phase.Name }) (state c.rest_of_tag.new.self) c.split_at.ensures.back read c.in_ok-others.ensures
