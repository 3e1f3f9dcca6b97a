use Rattle.std.proofs.Common.{not, length, sym, ap, ◌∙◌, below_more, arith}
use Rattle.idn_class.specs.Tests.{is_en, is_an}
use Rattle.idn_class.specs.Causes.{class_at, numbers_agree_to}
use Rattle.idn_class.proofs.CauseLemmas.{first_failing-found, first_failing-none, numbers_at, some_more}
use Rattle.idn_class.proofs.broken.second_kind_of_number.Goals as goal

pub returns-then-has_both : goal.returns-then-has_both
returns-then-has_both c =
    let label = c.args.label.now in
    let now = c.loop-place.invariant in
    let fails = numbers_at c.args.properties label c.loop-place.place _ _ _ _ _ c.bidi_class-class.ensures c.is_en-has_european.ensures c.is_an-has_arabic.ensures now.european now.arabic ∙ ap not c.if-has_both.true in
    sym (first_failing-found (length label) (numbers_agree_to c.args.properties label) _ c.loop-place-test.true fails now.before)

pub loop-place-preserved : goal.loop-place-preserved
loop-place-preserved c =
    let label = c.args.label.now in
    let now = c.loop-place.invariant in
    let holds = numbers_at c.args.properties label c.loop-place.place _ _ _ _ _ c.bidi_class-class.ensures c.is_en-has_european.ensures c.is_an-has_arabic.ensures now.european now.arabic ∙ ap not c.if-has_both.false in
    record {
      european = some_more c.args.properties (λ k. is_en (class_at c.args.properties label k)) c.loop-place.place _ _ (c.is_en-has_european.ensures ∙ ap is_en c.bidi_class-class.ensures) now.european;
      arabic = some_more c.args.properties (λ k. is_an (class_at c.args.properties label k)) c.loop-place.place _ _ (c.is_an-has_arabic.ensures ∙ ap is_an c.bidi_class-class.ensures) now.arabic;
      before = below_more _ _ now.before holds;
    }

pub returns : goal.returns
returns c =
    let label = c.args.label.now in
    let past = c.loop-place-test.false in
    sym (first_failing-none (length label) (numbers_agree_to c.args.properties label) (λ k low. c.loop-place.invariant.before k (omega arith)))
