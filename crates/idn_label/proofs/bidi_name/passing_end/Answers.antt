use Rattle.std.proofs.Common.{◌&&◌, sym, ap, subst, ◌∙◌, arith}
use Rattle.std.specs.List.{AllByRecursion, list_all}
use Rattle.idna.specs.BidiRule.{passes_bidi_rule}
use Rattle.idn_label.specs.inner.BidiNames.{PassesIfRtl}
use Rattle.idn_label.proofs.LabelParts.{ends_after, ends_by_rule}
use Rattle.idn_label.proofs.Utf8Names.{labels_of-first}
use Rattle.idn_label.proofs.bidi_name.passing_end.Goals as goal
use Rattle.idn_label.proofs.bidi_name.passing_end.Goals.{then-told-name-via-then-told-name, then-told-name-via-else-told-name+then-name-told-eq46}

pub utf8_label_passes-requires-clause-utf8 : goal.utf8_label_passes-requires-clause-utf8
utf8_label_passes-requires-clause-utf8 c =
    (labels_of-first c.args.name.now c.args.start c.label_end-end.result c.requires.utf8 (ends_after c.args.name.now c.args.start _ _ c.told_end-told.ensures c.label_end-end.ensures)).0

pub utf8_label_passes-requires-clause-tested : goal.utf8_label_passes-requires-clause-tested
utf8_label_passes-requires-clause-tested c = λ known.
    let first = labels_of-first c.args.name.now c.args.start c.label_end-end.result c.requires.utf8 (ends_after c.args.name.now c.args.start _ _ c.told_end-told.ensures c.label_end-end.ensures) in
    (subst (AllByRecursion PassesIfRtl) first.2 (c.requires.tested known)).0

pub returns-then-utf8_label_passes-clause-passes : goal.returns-then-utf8_label_passes-clause-passes
returns-then-utf8_label_passes-clause-passes c = record {
  ends = ends_after c.args.name.now c.args.start _ _ c.told_end-told.ensures c.label_end-end.ensures;
  passes = sym c.utf8_label_passes.ensures ∙ c.if-utf8_label_passes.true;
}

pub returns-else-utf8_label_passes-clause-fails : goal.returns-else-utf8_label_passes-clause-fails
returns-else-utf8_label_passes-clause-fails c =
    let first = labels_of-first c.args.name.now c.args.start c.label_end-end.result c.requires.utf8 (ends_after c.args.name.now c.args.start _ _ c.told_end-told.ensures c.label_end-end.ensures) in
    let fails = sym c.utf8_label_passes.ensures ∙ c.if-utf8_label_passes.false in
    ap (list_all passes_bidi_rule) first.2 ∙ ap (λ b. b && list_all passes_bidi_rule first.1) fails

pub returns-then-told-name-clause-passes : goal.returns-then-told-name-clause-passes
returns-then-told-name-clause-passes c =
    ends_by_rule c.args.name.now c.args.start c.told_end-told.result c.told_end-told.ensures
    (λ before. elim c.then-told-name.branch [
      | then-told-name-via-then-told-name w ↦ absurd (omega (arith, before, w.if-told-name.true))
      | then-told-name-via-else-told-name+then-name-told-eq46 w ↦ w.if-name-told-eq46.true
    ])
