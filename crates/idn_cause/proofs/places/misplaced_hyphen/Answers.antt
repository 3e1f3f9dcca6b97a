use Rattle.std.proofs.Common.{not, length, sym, ap, arith}
use Rattle.idn_class.proofs.CauseLemmas.{first_failing-found, first_failing-none}
use Rattle.idn_cause.specs.Causes.{is_hyphen_out_of_place}
use Rattle.idn_cause.proofs.places.misplaced_hyphen.Goals as goal

pub returns-then-is_hyphen_out_of_place : goal.returns-then-is_hyphen_out_of_place
returns-then-is_hyphen_out_of_place c =
    let label = c.args.label.now in
    sym (first_failing-found (length label) (λ place. not (is_hyphen_out_of_place label place)) _ c.loop-place-test.true
    (ap not (sym c.if-is_hyphen_out_of_place.ensures)) c.loop-place.invariant)

pub returns : goal.returns
returns c =
    let label = c.args.label.now in
    let past = c.loop-place-test.false in
    sym (first_failing-none (length label) (λ place. not (is_hyphen_out_of_place label place)) (λ k low. c.loop-place.invariant k (omega arith)))
