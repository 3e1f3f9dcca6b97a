use Rattle.std.proofs.Common.{◌+◌, ◌&&◌, chars, true, drop, sym, ap, subst, ◌∙◌, arith}
use Rattle.std.specs.List.{AllByRecursion, list_all}
use Rattle.idna.specs.BidiRule.{passes_bidi_rule}
use Rattle.idna.specs.Labels.{labels_of}
use Rattle.idn_label.specs.inner.BidiNames.{PassesIfRtl}
use Rattle.idn_label.proofs.LabelsByPlace.{label_last, label_before}
use Rattle.idn_label.proofs.Utf8Names.{labels_of-last, labels_of-more}
use Rattle.idn_label.proofs.bidi_name.each_utf8_label_passes.Goals as goal

pub returns-in_default : goal.returns-in_default
returns-in_default c = sym (c.labels.invariant.passed ∙ c.in_default.ensures.fails)

pub returns-then-end-name : goal.returns-then-end-name
returns-then-end-name c =
    let name = c.args.name.now in
    let told = c.in-Some.ensures.passes in
    let parts = label_last name c.labels.start c.in-Some.end told.ends c.if-end-name.true in
    let last = labels_of-last (drop c.labels.start name) _ c.labels.invariant.utf8 parts in
    sym (c.labels.invariant.passed ∙ ap (list_all passes_bidi_rule) last.1 ∙ ap (λ b. b && true) told.passes)

pub labels-preserved : goal.labels-preserved
labels-preserved c =
    let name = c.args.name.now in
    let end = c.in-Some.end in
    let told = c.in-Some.ensures.passes in
    let ends = told.ends in
    let others = drop (end + 1) name in
    let parts = label_before name c.labels.start end ends c.if-end-name.false in
    let more = labels_of-more (drop c.labels.start name) _ others c.labels.invariant.utf8 parts in
    record {
      within = omega (arith, ends.within, c.if-end-name.false);
      utf8 = more.1;
      tested = λ known. (subst (AllByRecursion PassesIfRtl) more.2 (c.labels.invariant.tested known)).1;
      passed = c.labels.invariant.passed ∙ ap (list_all passes_bidi_rule) more.2 ∙ ap (λ b. b && list_all passes_bidi_rule (labels_of (chars others))) told.passes;
    }
