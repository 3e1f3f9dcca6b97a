use Rattle.std.proofs.Common.{◌≡◌, true, false, length, refl, sym, below_more, arith}
use Rattle.idn_class.specs.ContextJ.{JoinerPasses}
use Rattle.idn_class.specs.Tests.{joiner_at}
use Rattle.idn_class.proofs.CauseLemmas.{first_failing-found_by, first_failing-none_by}
use Rattle.idn_class.proofs.ContextJTests.{joiner_at-rule}
use Rattle.idn_class.proofs.contextj.misplaced_joiner.Goals as goal

pub loop-place-preserved : goal.loop-place-preserved
loop-place-preserved c = below_more _ _ c.loop-place.invariant (c.if-not-joiner_passes.ensures.0 refl)

pub returns-then-not-joiner_passes-clause-test : goal.returns-then-not-joiner_passes-clause-test
returns-then-not-joiner_passes-clause-test c =
    let label = c.args.label.now in
    sym (first_failing-found_by (length label) (joiner_at c.args.properties label) (JoinerPasses c.args.properties label) (joiner_at-rule c.args.properties c.args.label.now) _ c.loop-place-test.true
    (λ passes. let clash : false ≡ true = c.if-not-joiner_passes.ensures.1 passes in cc) c.loop-place.invariant)

pub returns-clause-test : goal.returns-clause-test
returns-clause-test c =
    let label = c.args.label.now in
    let past = c.loop-place-test.false in
    sym (first_failing-none_by (length label) (joiner_at c.args.properties label) (JoinerPasses c.args.properties label) (joiner_at-rule c.args.properties c.args.label.now) (λ k low. c.loop-place.invariant k (omega arith)))
