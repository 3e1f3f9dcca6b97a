use Rattle.std.proofs.Common.{◌+◌, ◌-◌, ◌*◌, ◌≤◌, length, ◌∙◌, inl, inr, arith}
use Rattle.std.specs.Simd.Lanes.{chunk}
use Rattle.std.proofs.lemmas.Bool.{cases_lt}
use Rattle.std.proofs.lemmas.Simd.{length-put_chunk, get_or-put_chunk_below}
use Rattle.idn_punycode.proofs.ChunkSteps.{inside, above}
use Rattle.idn_punycode.proofs.decoding.move_up.Goals as goal

pub loop-chunks-preserved : goal.loop-chunks-preserved
loop-chunks-preserved c =
    let points = c.loop-chunks.points in
    let from = c.args.from in
    let chunks = c.loop-chunks.chunks in
    let at = from + (chunks - 1) * 8 in
    let i = c.loop-chunks.invariant in
    let room : at + 9 ≤ length points = omega (arith, i.0, i.1, c.requires.within, c.requires.room, c.loop-chunks-test.true) in (
      length-put_chunk (at + 1) points (chunk at 8 points) ∙ i.0,
      omega (arith, i.1),
      λ k le. get_or-put_chunk_below (at + 1) points (chunk at 8 points) k 0 (omega (arith, le)) ∙ i.2 k (omega (arith, le)),
      λ k le lt. elim (cases_lt k (at + 8)) [
        | inl near ↦ inside points at room k (omega (arith, le)) near ∙ i.2 k (omega (arith, near, c.loop-chunks-test.true))
        | inr far ↦ above points at room k far ∙ i.3 k (omega (arith, far, c.loop-chunks-test.true)) lt
      ],
    )

pub returns-clause-below : goal.returns-clause-below
returns-clause-below c = λ k le. c.loop-chunks.invariant.2 k (omega (arith, le))

pub returns-clause-moved : goal.returns-clause-moved
returns-clause-moved c = λ k le lt. c.loop-chunks.invariant.3 k (omega (arith, le, c.loop-chunks-test.false)) (omega (arith, lt))
