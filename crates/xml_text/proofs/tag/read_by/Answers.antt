use Rattle.std.proofs.Common.{◌≡◌, ℕ, ◌+◌, ◌<◌, Option, Some, None, length, take, get_or, sym, ◌∙◌, subst, arith}
use Rattle.xml_text.specs.Tags.{Tag, IsTag}
use Rattle.xml_text.specs.inner.Runs.{IsTaken}
use Rattle.xml_text.specs.inner.TagSteps.{start, step, state, kind_of, Goes}
use Rattle.xml_text.proofs.TagReads.{tag_read, stops_here, stops_past}
use Rattle.xml_text.proofs.TakenLemmas.{taken_further}
use Rattle.xml_text.proofs.tag.read_by.Goals as goal

pub loop-place-preserved : goal.loop-place-preserved
loop-place-preserved c =
    let rest = c.split_at.result.1.now in
    let s = state c.loop-place.state in
    let u = state c.read.new.self in
    let is : IsTaken step (step s (get_or rest 0 0)) rest c.in-Some.taken u = subst (λ (r : Option ℕ). Goes step s rest r u) c.in-Some.is c.in_ok-taken.ensures in
    record {
      within = omega (arith, is.within, c.split_at.ensures.back_len);
      read = taken_further step start s u c.args.text.now rest c.loop-place.place c.in-Some.taken c.split_at.ensures.back c.loop-place.invariant.read is;
      incomplete = sym c.kind.ensures ∙ c.in_default-kind.is;
    }

pub returns-in-Some-kind-clause-read : goal.returns-in-Some-kind-clause-read
returns-in-Some-kind-clause-read c =
    let rest = c.split_at.result.1.now in
    let s = state c.loop-place.state in
    let u = state c.read.new.self in
    let is : IsTaken step (step s (get_or rest 0 0)) rest c.in-Some.taken u = subst (λ (r : Option ℕ). Goes step s rest r u) c.in-Some.is c.in_ok-taken.ensures in
    let read = taken_further step start s u c.args.text.now rest c.loop-place.place c.in-Some.taken c.split_at.ensures.back c.loop-place.invariant.read is in
    let kind : kind_of u.phase ≡ Some c.in-Some-kind.kind = sym c.kind.ensures ∙ c.in-Some-kind.is in
    subst (λ (t : Tag). IsTag (take (c.loop-place.place + c.in-Some.taken) c.args.text.now) t) (sym c.in_ok-take.ensures.tag)
    (tag_read (take (c.loop-place.place + c.in-Some.taken) c.args.text.now) u c.in-Some-kind.kind read kind)

pub returns-in_default-clause-stop : goal.returns-in_default-clause-stop
returns-in_default-clause-stop c =
    let rest = c.split_at.result.1.now in
    let s = state c.loop-place.state in
    let u = state c.read.new.self in
    let some : 0 < length rest = omega (arith, c.split_at.ensures.back_len) in
    let none : step s (get_or rest 0 0) ≡ None = subst (λ (r : Option ℕ). Goes step s rest r u) c.in_default.is c.in_ok-taken.ensures in
    (omega arith, stops_here c.args.text.now rest c.loop-place.place s c.split_at.ensures.back some c.loop-place.invariant.read c.loop-place.invariant.incomplete none)

pub returns-clause-stop : goal.returns-clause-stop
returns-clause-stop c = (omega arith, stops_past c.args.text.now c.loop-place.place (state c.loop-place.state) c.loop-place-test.false c.loop-place.invariant.read c.loop-place.invariant.incomplete)
