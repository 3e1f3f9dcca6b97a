use Rattle.std.proofs.Common.{◌≡◌, ℕ, Option, Some, None, get_or, sym, ◌∙◌, subst}
use Rattle.xml_text.specs.inner.DocumentSteps.{State, state, tag_step, Goes}
use Rattle.xml_text.specs.inner.Runs.{IsTaken}
use Rattle.xml_text.specs.inner.TagSteps as tag
use Rattle.xml_text.proofs.DocumentTaken.{tag_goes, tag_opened, tag_goes_on}
use Rattle.xml_text.proofs.document_state.DocumentState.tag.Goals as goal

pub returns-in_ok-open : goal.returns-in_ok-open
returns-in_ok-open c =
    let s = state c.args.self.now in
    let rest = c.args.rest.now in
    let u = tag.state c.read.new.self in
    let taken : IsTaken tag.step (tag.step s.tag (get_or rest 0 0)) rest c.in-Some.len u = subst (λ (r : Option ℕ). tag.Goes tag.step s.tag rest r u) c.in-Some.is c.in_ok-len.ensures in
    let ended : tag.kind_of u.phase ≡ Some c.in-Some-kind.kind = sym c.kind.ensures ∙ c.in-Some-kind.is in
    subst (λ (t : State). Goes tag_step s rest (Some c.in-Some.len) t) (tag_opened s u c.in-Some-kind.kind (state c.open.new.self) ended c.in_ok-open.ensures)
    (tag_goes s rest c.in-Some.len u c.requires.part taken)

pub returns-in_default-kind : goal.returns-in_default-kind
returns-in_default-kind c =
    let s = state c.args.self.now in
    let rest = c.args.rest.now in
    let u = tag.state c.read.new.self in
    let taken : IsTaken tag.step (tag.step s.tag (get_or rest 0 0)) rest c.in-Some.len u = subst (λ (r : Option ℕ). tag.Goes tag.step s.tag rest r u) c.in-Some.is c.in_ok-len.ensures in
    let open_ : tag.kind_of u.phase ≡ None = sym c.kind.ensures ∙ c.in_default-kind.is in
    subst (λ (t : State). Goes tag_step s rest (Some c.in-Some.len) t) (tag_goes_on s u open_)
    (tag_goes s rest c.in-Some.len u c.requires.part taken)
