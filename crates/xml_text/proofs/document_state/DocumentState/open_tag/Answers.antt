use Rattle.std.proofs.Common.{◌≡◌, Some, None, refl, sym, ◌∙◌, subst}
use Rattle.xml_text.specs.declared.document_state.Part.TheVariants as part
use Rattle.xml_text.specs.declared.state.Phase.TheVariants as phase
use Rattle.xml_text.specs.inner.DocumentSteps.{State, state, tag_step, Goes}
use Rattle.xml_text.specs.inner.TagSteps as tag
use Rattle.xml_text.proofs.DocumentTaken.{begin_goes, tag_goes, tag_opened, tag_goes_on}
use Rattle.xml_text.proofs.MarkupTaken.{named_goes}
use Rattle.xml_text.proofs.document_state.DocumentState.open_tag.Goals as goal

pub returns-in_ok-open-clause-goes : goal.returns-in_ok-open-clause-goes
returns-in_ok-open-clause-goes c =
    let s = state c.args.self.now in
    let rest = c.args.rest.now in
    let n = c.in_ok-len.len in
    let u = tag.state c.name_run.new.self in
    let b = tag.with_phase tag.start phase.Begin in
    let d = record s { tag = b; part = part.Tag } in
    let read : tag.Goes (λ t x. Some (tag.named t x)) b rest (Some n) u = subst (λ (t : tag.State). tag.Goes (λ t x. Some (tag.named t x)) t rest (Some n) u) c.restart.ensures c.in_ok-len.ensures in
    let ended : tag.kind_of u.phase ≡ Some c.in-Some.kind = sym c.kind.ensures ∙ c.in-Some.is in
    begin_goes s rest (Some n) (state c.open.new.self) c.requires.may
    (subst (λ (t : State). Goes tag_step d rest (Some n) t) (tag_opened d u c.in-Some.kind (state c.open.new.self) ended c.in_ok-open.ensures)
    (tag_goes d rest n u refl (named_goes rest n u c.requires.name read)))

pub returns-in_default-clause-goes : goal.returns-in_default-clause-goes
returns-in_default-clause-goes c =
    let s = state c.args.self.now in
    let rest = c.args.rest.now in
    let n = c.in_ok-len.len in
    let u = tag.state c.name_run.new.self in
    let b = tag.with_phase tag.start phase.Begin in
    let d = record s { tag = b; part = part.Tag } in
    let read : tag.Goes (λ t x. Some (tag.named t x)) b rest (Some n) u = subst (λ (t : tag.State). tag.Goes (λ t x. Some (tag.named t x)) t rest (Some n) u) c.restart.ensures c.in_ok-len.ensures in
    let open_ : tag.kind_of u.phase ≡ None = sym c.kind.ensures ∙ c.in_default.is in
    begin_goes s rest (Some n) (record d { tag = u }) c.requires.may
    (subst (λ (t : State). Goes tag_step d rest (Some n) t) (tag_goes_on d u open_) (tag_goes d rest n u refl (named_goes rest n u c.requires.name read)))
