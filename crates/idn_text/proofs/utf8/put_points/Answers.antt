use Rattle.std.proofs.Common.{◌∙◌, ◌++◌, List, ℕ, take, get_or, ap, sym, append_assoc, arith}
use Rattle.std.specs.Prelude.{encode_utf8}
use Rattle.idn_text.specs.Points.{utf8_of}
use Rattle.idn_text.proofs.Utf8Lemmas.{utf8_of_more}
use Rattle.idn_text.proofs.utf8.put_points.Goals as goal

pub loop-point-preserved : goal.loop-point-preserved
loop-point-preserved c =
    let points = c.args.points.now in
    let i = c.loop-point.point-index in
    let before = take c.args.at c.args.room.now in
    let written = utf8_of (take i points) in (
      c.put_point-end.ensures.written
          ∙ ap (λ (bytes : List ℕ). bytes ++ encode_utf8 (get_or points i 0)) c.loop-point.invariant.0
          ∙ append_assoc before written (encode_utf8 (get_or points i 0))
          ∙ ap (λ (bytes : List ℕ). before ++ bytes) (sym (utf8_of_more points i c.loop-point-test.true)),
      omega (arith, c.loop-point.invariant.1, c.put_point-end.ensures.end),
      c.put_point-end.ensures.length ∙ c.loop-point.invariant.2,
    )
