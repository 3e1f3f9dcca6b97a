use Rattle.std.proofs.Common.{rules, ◌≡◌, ℕ, ◌<◌, true, false, Option, None, length, sym, subst, ◌∙◌, arith}
use Rattle.xml_text.specs.inner.DocumentSteps.{state, is_complete, IsRead, Reads}
use Rattle.xml_text.proofs.BodyLemmas.{body_more, after_more, stops_here, stops_past, whole_body}
use Rattle.xml_text.proofs.body.read_by.Goals as goal

pub loop-place-preserved : goal.loop-place-preserved
loop-place-preserved c =
    let text = c.args.text.now in
    let rest = c.split_at.result.1.now in
    let i = c.loop-place.place in
    let s = c.loop-place.state in
    let u = c.read.new.self in
    let back = c.split_at.ensures.back in
    let is : IsRead s rest c.in-Some.taken u = subst (λ (r : Option ℕ). Reads s rest r u) c.in-Some.is c.in_ok-taken.ensures.taken in
    record {
      within = omega (arith, is.within, c.split_at.ensures.back_len);
      read = body_more c.args.state.now.line text rest i c.in-Some.taken s u back c.loop-place.invariant.read c.loop-place.invariant.after is;
      after = after_more text rest i c.in-Some.taken s u back c.loop-place.invariant.after is;
      line = omega (arith, c.in_ok-taken.ensures.line, is.some);
    }

pub returns-in-None-clause-stop : goal.returns-in-None-clause-stop
returns-in-None-clause-stop c =
    let text = c.args.text.now in
    let rest = c.split_at.result.1.now in
    let s = c.loop-place.state in
    let u = c.read.new.self in
    let some : 0 < length rest = omega (arith, c.split_at.ensures.back_len) in
    let none : Reads s rest None u = subst (λ (r : Option ℕ). Reads s rest r u) c.in-None.is c.in_ok-taken.ensures.taken in
    (omega arith, stops_here c.args.state.now.line text rest c.loop-place.place s u c.split_at.ensures.back some c.loop-place.invariant.read c.loop-place.invariant.after none)

pub returns-then-is_complete-clause-read : goal.returns-then-is_complete-clause-read
returns-then-is_complete-clause-read c =
    let complete : is_complete (state c.loop-place.state) ≡ true = search rules in
    whole_body c.args.state.now.line c.args.text.now c.loop-place.place (state c.loop-place.state) c.loop-place-test.false c.loop-place.invariant.read complete

pub returns-else-is_complete-clause-stop : goal.returns-else-is_complete-clause-stop
returns-else-is_complete-clause-stop c =
    let open_ : is_complete (state c.loop-place.state) ≡ false = sym c.is_complete.ensures ∙ c.if-is_complete.false in
    (omega arith, stops_past c.args.state.now.line c.args.text.now c.loop-place.place (state c.loop-place.state) c.loop-place-test.false c.loop-place.invariant.read open_)
