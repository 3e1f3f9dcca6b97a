use Rattle.std.proofs.Common.{rules, ◌<◌, arith}
use Rattle.std.proofs.lemmas.Grind.{common_steps}
use Rattle.std.proofs.lemmas.Int.Digits.{digits_value_more}
use Rattle.std.proofs.lemmas.List.Folds.{list_all_more}
use Rattle.lgr_text.specs.Values.{is_decimal_digit}
use Rattle.lgr_text.proofs.NumberLemmas.{decimal_more, decimal_fits}
use Rattle.lgr_text.proofs.values.number_of.Goals as goal

pub overflow_mul-value : goal.overflow_mul-value
overflow_mul-value c =
    let small : c.loop-digit.value < 100000000 = decimal_fits c.loop-digit.digit-index c.loop-digit.value c.loop-digit.invariant.small (omega arith) in search rules

pub overflow_add-value : goal.overflow_add-value
overflow_add-value c =
    let small : c.loop-digit.value < 100000000 = decimal_fits c.loop-digit.digit-index c.loop-digit.value c.loop-digit.invariant.small (omega arith) in
    let digit : c.in_ok-value.field-0 < 10 = omega (arith, c.in_ok-value.ensures.value) in search rules

pub loop-digit-preserved : goal.loop-digit-preserved
loop-digit-preserved c =
    let digits = c.args.digits.now in
    let i = c.loop-digit.digit-index in
    let small : c.in_ok-value.field-0 < 10 = omega (arith, c.in_ok-value.ensures.value) in
    let value = digits_value_more 10 digits i c.loop-digit-test.true in
    let passes = list_all_more is_decimal_digit digits i 0 c.loop-digit-test.true in
    record {
      value = grind (arith, common_steps, value);
      digits = grind (arith, common_steps, passes);
      small = decimal_more i c.loop-digit.value c.in_ok-value.field-0 c.loop-digit.invariant.small small;
    }
