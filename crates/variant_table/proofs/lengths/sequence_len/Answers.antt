use Rattle.std.proofs.Common.{◌≡◌, ℕ, length, take, ap, arith}
use Rattle.std.proofs.lemmas.List.{take_all}
use Rattle.variant_table.proofs.WritingLemmas.{further_text}
use Rattle.variant_table.proofs.LengthLemmas.{length-further_next, length-further}
use Rattle.variant_table.proofs.lengths.sequence_len.Goals as goal

pub loop-point-preserved : goal.loop-point-preserved
loop-point-preserved c =
    let i : ℕ = c.loop-point.point-index in (
      omega (arith, c.loop-point.invariant.0, length-further_next c.args.sequence.now i (omega (arith, c.loop-point-test.true)), c.point_len.ensures.count),
      omega (arith, c.loop-point.invariant.1, c.point_len.ensures.few),
    )

pub returns-clause-count : goal.returns-clause-count
returns-clause-count c =
    let all : take c.loop-point.point-index c.args.sequence.now ≡ c.args.sequence.now = take_all c.loop-point.point-index c.args.sequence.now (omega (arith, c.loop-point-test.false)) in
    omega (arith, c.loop-point.invariant.0, ap (λ s. length (further_text s)) all, length-further c.args.sequence.now c.requires.some)
