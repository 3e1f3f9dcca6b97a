use Rattle.std.proofs.Common.{◌≡◌, ◌∙◌, ℕ, List, get_or, take, true, false, ◌==◌, min, sym, ap, subst, take_all}
use Rattle.std.specs.Char.{is_digit, digit_value}
use Rattle.std.specs.List.{list_all}
use Rattle.std.specs.Str.Parse.{digits_value}
use Rattle.std.proofs.lemmas.Int.Digits.{digits_value_more}
use Rattle.std.proofs.lemmas.List.Folds.{list_all_more}
use Rattle.xml_text.proofs.NumberLemmas.{value_more, all_more, not_number, no_digit_at, digit_at, number_is}
use Rattle.xml_text.proofs.reference.numbered.Goals as goal

pub returns-in_err-next : goal.returns-in_err-next
returns-in_err-next c =
    let digits = c.args.digits.now in
    let i = c.loop-digit.digit-index in
    c.from_residual.ensures ∙ sym (not_number c.args.radix digits i c.loop-digit-test.true (no_digit_at (get_or digits i 0) c.from.result c.args.radix c.from.ensures c.in_err-next.ensures.value))

pub loop-digit-preserved : goal.loop-digit-preserved
loop-digit-preserved c =
    let digits = c.args.digits.now in
    let radix = c.args.radix in
    let i = c.loop-digit.digit-index in
    let digit = c.in_ok-next.ensures.value in
    let value = digits_value_more radix digits i c.loop-digit-test.true in
    record {
      value = value_more _ c.loop-digit.value c.in_ok-next.field-0 _ (digits_value radix (take i digits)) _ radix c.requires c.min-value.ensures c.loop-digit.invariant.value (digit.1 ∙ ap digit_value c.from.ensures) value;
      digits = all_more _ _ _ (list_all_more (λ b. is_digit b radix) digits i 0 c.loop-digit-test.true) c.loop-digit.invariant.digits (digit_at (get_or digits i 0) c.from.result radix c.from.ensures digit.0);
    }

pub returns : goal.returns
returns c =
    let digits = c.args.digits.now in
    let radix = c.args.radix in
    let i = c.loop-digit.digit-index in
    let whole : take i digits ≡ digits = take_all i digits c.loop-digit-test.false in
    let all = subst (λ (ds : List ℕ). list_all (λ b. is_digit b radix) ds ≡ true) whole c.loop-digit.invariant.digits in
    let value = c.loop-digit.invariant.value ∙ ap (λ (ds : List ℕ). min (digits_value radix ds) 0x110000) whole in
    c.character_of.ensures ∙ number_is radix digits c.loop-digit.value all (λ e. let none : false ≡ (0 == 0) = subst (λ (n : ℕ). false ≡ (n == 0)) e c.if-is_empty.ensures in cc) value
