use Rattle.std.proofs.Common.{rules, ◌≡◌, ◌+◌, false, Some, List, [], length, get_or, refl, sym, subst}
use Rattle.xml_text.specs.Attributes.{is_named}
use Rattle.xml_text.specs.inner.Runs.{IsPlainValue, IsTaken}
use Rattle.xml_text.specs.inner.TagSteps.{State, state, step, with_attribute, with_attribute_of}
use Rattle.xml_text.specs.declared.state.Phase.TheVariants as phase
use Rattle.xml_text.proofs.TagTaken.{attribute_goes, whole_goes}
use Rattle.xml_text.proofs.state.TagState.attribute_begin.Goals as goal

pub returns-in_ok-end_attribute-in-Some : goal.returns-in_ok-end_attribute-in-Some
returns-in_ok-end_attribute-in-Some c =
    let len = c.len-len in
    let s = state c.args.self.now in
    let rest = c.args.rest.now in
    let name = c.split_at.result.0.now in
    let value = c.in-Some.value.now in
    let new : is_named s.attributes name ≡ false = search rules in
    let plain : IsPlainValue c.split_at.result.1.now value = search rules in
    let closes : state c.end_attribute.new.self ≡ with_attribute_of s name value = search rules in
    subst (λ (t : State). IsTaken step (Some (with_attribute s (get_or rest 0 0))) rest (len.result + (length value + 3)) t) (sym closes)
    (whole_goes s rest c.split_at.result.1.now len.result name value c.split_at.ensures.front c.split_at.ensures.back len.ensures.some len.ensures.within len.ensures.run new plain)

pub returns-in_default : goal.returns-in_default
returns-in_default c =
    let len = c.len-len in
    let s = state c.args.self.now in
    let rest = c.args.rest.now in
    let name = c.begin.new.self in
    let u = record s { attribute = []; value = []; phase = phase.Attribute } in
    let read : IsTaken step (Some (with_attribute s (get_or rest 0 0))) rest len.result (record u { attribute = name }) =
    attribute_goes u rest len.result name refl len.ensures.some len.ensures.within len.ensures.run c.begin.ensures in
    subst (λ (v : List _). IsTaken step (Some (with_attribute s (get_or rest 0 0))) rest len.result (record u { attribute = name; value = v })) (sym c.clear.ensures) read
