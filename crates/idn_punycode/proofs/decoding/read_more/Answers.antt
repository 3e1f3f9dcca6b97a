use Rattle.std.proofs.Common.{◌+◌, ◌*◌, ◌^◌, ◌<◌, ◌≤◌, sym, ap, ◌∙◌, arith}
use Rattle.std.proofs.lemmas.List.{take_rest, at_drop_all}
use Rattle.std.proofs.lemmas.Nat.{mul-le}
use Rattle.idna.specs.Punycode.{read_integer}
use Rattle.idn_punycode.proofs.IntegerSteps.{read_integer-end, read_integer-last, read_integer-more, is_digit, ReadsAbove-value}
use Rattle.idn_punycode.proofs.UnitLemmas.{codes_length, codes_more, codes_drop}
use Rattle.idn_punycode.proofs.decoding.read_more.Goals as goal

pub returns-then-sum-from-clause-none : goal.returns-then-sum-from-clause-none
returns-then-sum-from-clause-none g c =
    let more = codes_more g.U.Unit.code g.U.Unit.codes g.met.U.Unit.codes_are c.args.digits.now c.loop-at.at c.index-digits-at.result c.code_point.result c.loop-at-test.true c.index-digits-at.is c.code_point.ensures in
    rw (sym c.loop-at.invariant.0 ∙ ap (read_integer c.args.bias c.loop-at.k c.loop-at.weight c.loop-at.sum) more)
    (ReadsAbove-value _ _ _ _ _ _ _ _ c.digit_value-digit.ensures.value (rw (c.from-in-loop-at.ensures, c.from.ensures) at c.if-sum-from.true))

pub returns-then-digit-threshold-clause-some : goal.returns-then-digit-threshold-clause-some
returns-then-digit-threshold-clause-some g c =
    let units = c.args.digits.now in
    let at = c.loop-at.at in
    let digit = c.digit_value-digit.result in
    let more = codes_more g.U.Unit.code g.U.Unit.codes g.met.U.Unit.codes_are units at c.index-digits-at.result c.code_point.result c.loop-at-test.true c.index-digits-at.is c.code_point.ensures in
    rw (take_rest, sym (codes_drop g.U.Unit.code g.U.Unit.codes g.met.U.Unit.codes_are units (at + 1)), c.from.ensures)
    (sym c.loop-at.invariant.0
    ∙ ap (read_integer c.args.bias c.loop-at.k c.loop-at.weight c.loop-at.sum) more
    ∙ read_integer-last _ _ _ _ _ _ _ (is_digit _ digit c.digit_value-digit.ensures.value (omega arith)) (rw c.threshold-threshold.ensures at c.if-digit-threshold.true))

pub loop-at-preserved : goal.loop-at-preserved
loop-at-preserved g c =
    let digit = c.from.result in
    let weight = c.loop-at.weight in
    let base = c.from-weight-in-loop-at.result in
    let value = c.digit_value-digit.result in
    let more = codes_more g.U.Unit.code g.U.Unit.codes g.met.U.Unit.codes_are c.args.digits.now c.loop-at.at c.index-digits-at.result c.code_point.result c.loop-at-test.true c.index-digits-at.is c.code_point.ensures in
    let grows : digit * 1 ≤ digit * weight = mul-le digit 1 digit weight (omega arith) (omega arith) in
    let small : value < 0x440_0000 = omega (arith, grows, c.if-sum-from.false, c.from.ensures, c.from-in-loop-at.ensures) in
    let is = is_digit _ value c.digit_value-digit.ensures.value small in
    let counts : 1 * weight ≤ digit * weight = mul-le 1 weight digit weight (omega arith) (omega arith) in
    let some : weight * 1 ≤ weight * base = mul-le weight 1 weight base (omega arith) (omega arith) in
    let fits : weight * base ≤ 2 ^ 27 * 35 = mul-le weight base (2 ^ 27) 35 (omega arith) (omega arith) in (
      rw (c.from.ensures, c.from-weight-in-loop-at.ensures, c.threshold-threshold.ensures)
          (sym (read_integer-more _ _ _ _ _ _ _ is (rw c.threshold-threshold.ensures at c.if-digit-threshold.false))
          ∙ sym (ap (read_integer c.args.bias c.loop-at.k c.loop-at.weight c.loop-at.sum) more)
          ∙ c.loop-at.invariant.0),
      omega arith,
      omega arith,
      omega arith,
      fits,
      omega arith,
    )

pub returns-clause-none : goal.returns-clause-none
returns-clause-none g c =
    let units = c.args.digits.now in
    let many = codes_length g.U.Unit.code g.U.Unit.codes g.met.U.Unit.codes_are units in
    rw (sym c.loop-at.invariant.0
    ∙ at_drop_all (read_integer c.args.bias c.loop-at.k c.loop-at.weight c.loop-at.sum) (g.U.Unit.codes units) c.loop-at.at (omega (arith, many, c.loop-at-test.false))
    ∙ read_integer-end _ _ _ _) tt
