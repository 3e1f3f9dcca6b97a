use Rattle.std.proofs.Common.{◌<◌, ◌≤◌, ◌∷◌, [], ◌++◌, ◌+◌, take, length, length-append, append_assoc, get_or, sym, ap, ap₂, ℕ, ◌∙◌, arith}
use Rattle.idna.specs.Punycode.{below}
use Rattle.idn_punycode.proofs.ResultLemmas.{OnErr-always}
use Rattle.idn_punycode.proofs.UnitLemmas.{codes_length, codes_at}
use Rattle.idn_punycode.proofs.KeySteps.{below-item_smaller, below-item_other, length-below_take}
use Rattle.idn_punycode.proofs.encoding.push_basic.Goals as goal
use Rattle.idn_punycode.proofs.encoding.push_basic.Goals.{then-code_point-lt-INITIAL_CODE_POINT+in_ok-push_ascii, else-code_point-lt-INITIAL_CODE_POINT}

pub returns-in_err-push_ascii-clause-too_long : goal.returns-in_err-push_ascii-clause-too_long
returns-in_err-push_ascii-clause-too_long g c =
    let units = c.args.label.now in
    let label = g.U.Unit.codes units in
    let at = c.loop-unit.unit-index in
    let many = codes_length g.U.Unit.code g.U.Unit.codes g.met.U.Unit.codes_are units in
    let is = c.code_point-code_point.ensures ∙ codes_at g.U.Unit.code g.U.Unit.codes g.met.U.Unit.codes_are units at c.unit-item.result c.loop-unit-test.true c.unit-item.is in
    let here = ap length (below-item_smaller 128 at label (omega (arith, many, c.loop-unit-test.true)) (omega (arith, is, c.if-code_point-lt-INITIAL_CODE_POINT.true))) in
    let all = length-below_take 128 (at + 1) label in
    OnErr-always c.from_residual.result
    (omega (arith, c.in_err-push_ascii.ensures.full, ap length c.loop-unit.invariant, here, all, length-append {A = ℕ}))

pub loop-unit-preserved : goal.loop-unit-preserved
loop-unit-preserved g c =
    let units = c.args.label.now in
    let label = g.U.Unit.codes units in
    let at = c.loop-unit.unit-index in
    let x = get_or label at 0 in
    let many = codes_length g.U.Unit.code g.U.Unit.codes g.met.U.Unit.codes_are units in
    let is = c.code_point-code_point.ensures ∙ codes_at g.U.Unit.code g.U.Unit.codes g.met.U.Unit.codes_are units at c.unit-item.result c.loop-unit-test.true c.unit-item.is in
    let lt : at < length label = omega (arith, many, c.loop-unit-test.true) in
    let before = c.args.text.now.bytes in
    elim c.if-code_point-lt-INITIAL_CODE_POINT.branch [
      | then-code_point-lt-INITIAL_CODE_POINT+in_ok-push_ascii w ↦
          let less : x < 128 = omega (arith, is, w.if-code_point-lt-INITIAL_CODE_POINT.true) in
          rw w.text-is
          (w.in_ok-push_ascii.ensures.ok
          ∙ ap₂ (λ xs y. xs ++ y ∷ []) c.loop-unit.invariant is
          ∙ append_assoc before (below 128 (take at label)) (x ∷ [])
          ∙ ap (λ xs. before ++ xs) (sym (below-item_smaller 128 at label lt less)))
      | else-code_point-lt-INITIAL_CODE_POINT w ↦
          let past : 128 ≤ x = omega (arith, is, w.if-code_point-lt-INITIAL_CODE_POINT.false) in
          rw w.text-is (c.loop-unit.invariant ∙ ap (λ xs. before ++ xs) (sym (below-item_other 128 at label lt past)))
    ]
