use Rattle.std.proofs.Common.{◌≡◌, true, false, length, refl, sym, below_more, arith}
use Rattle.idn_class.specs.ContextO.{OtherPasses}
use Rattle.idn_class.specs.Tests.{other_at}
use Rattle.idn_class.proofs.CauseLemmas.{first_failing-found_by, first_failing-none_by}
use Rattle.idn_class.proofs.ContextOTests.{other_at-rule}
use Rattle.idn_class.proofs.contexto.misplaced_other.Goals as goal

pub loop-place-preserved : goal.loop-place-preserved
loop-place-preserved c = below_more _ _ c.loop-place.invariant (c.if-not-other_passes.ensures.0 refl)

pub returns-then-not-other_passes-clause-test : goal.returns-then-not-other_passes-clause-test
returns-then-not-other_passes-clause-test c =
    let label = c.args.label.now in
    sym (first_failing-found_by (length label) (other_at label) (OtherPasses label) (λ k low. other_at-rule c.args.label.now k) _ c.loop-place-test.true
    (λ passes. let clash : false ≡ true = c.if-not-other_passes.ensures.1 passes in cc) c.loop-place.invariant)

pub returns-clause-test : goal.returns-clause-test
returns-clause-test c =
    let label = c.args.label.now in
    let past = c.loop-place-test.false in
    sym (first_failing-none_by (length label) (other_at label) (OtherPasses label) (λ k low. other_at-rule c.args.label.now k) (λ k low. c.loop-place.invariant k (omega arith)))
