use Rattle.std.proofs.Common.{◌≡◌, false, length, slice_index, sym, arith}
use Rattle.std.specs.Char.{is_ascii}
use Rattle.std.proofs.lemmas.Bool.Decides.{nat_tests}
use Rattle.idn_class.proofs.CauseLemmas.{first_failing-found, first_failing-none}
use Rattle.idn_cause.proofs.a_label.past_ascii.Goals as goal

pub returns-then-code-place-ge128-clause-place : goal.returns-then-code-place-ge128-clause-place
returns-then-code-place-ge128-clause-place c =
    let code = c.args.code.now in
    let other : is_ascii (slice_index code c.loop-place.place) ≡ false = grind (arith, nat_tests, c.if-code-place-ge128.true) in
    sym (first_failing-found (length code) (λ place. is_ascii (slice_index code place)) _ c.loop-place-test.true other c.loop-place.invariant)

pub returns-clause-place : goal.returns-clause-place
returns-clause-place c =
    let code = c.args.code.now in
    let past = c.loop-place-test.false in
    sym (first_failing-none (length code) (λ place. is_ascii (slice_index code place)) (λ k low. c.loop-place.invariant k (omega arith)))
