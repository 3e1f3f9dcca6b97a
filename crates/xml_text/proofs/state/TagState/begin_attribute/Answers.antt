use Rattle.std.proofs.Common.{rules, ◌≡◌, true, Some, get_or}
use Rattle.std.proofs.lemmas.Result.{IfOk-weaker}
use Rattle.xml_text.specs.Names.{is_name_start}
use Rattle.xml_text.specs.inner.Runs.{GoesOn}
use Rattle.xml_text.specs.inner.TagSteps.{state, step, with_attribute, Goes}
use Rattle.xml_text.proofs.TagTaken.{begun_attribute}
use Rattle.xml_text.proofs.state.TagState.begin_attribute.Goals as goal

pub returns-in-Some : goal.returns-in-Some
returns-in-Some c =
    let s = state c.args.self.now in
    let rest = c.args.rest.now in
    let t = state c.attribute_begin.new.self in
    let starts : is_name_start (get_or rest 0 0) ≡ true = search rules in
    IfOk-weaker c.attribute_begin.result (λ n. Goes (λ u b. Some (with_attribute u b)) s rest (Some n) t) (λ n. GoesOn step s rest n t)
    (λ n taken. begun_attribute s rest n t c.requires starts taken) c.attribute_begin.ensures
