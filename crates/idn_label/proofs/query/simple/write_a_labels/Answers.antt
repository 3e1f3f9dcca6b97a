use Rattle.std.proofs.Common.{◌≡◌, ◌++◌, ◌∷◌, [], refl, sym, ◌∙◌, rules}
use Rattle.idn_label.proofs.SimplePoints.{cover_part}
use Rattle.idn_label.proofs.SimpleNames.{written_label, written_all, measured_all}
use Rattle.idn_label.proofs.query.simple.write_a_labels.Goals as goal

pub label_passes-requires : goal.label_passes-requires
label_passes-requires c = cover_part c.args.facts c.args.name.now c.labels.start c.label_end-end.result c.requires

pub returns-then-may_end-clause-written : goal.returns-then-may_end-clause-written
returns-then-may_end-clause-written c =
    written_all c.labels.invariant c.label_end-end.result _ c.push_a_label.new.query.items c.label_end-end.ensures c.if-end-name.true refl c.in_ok-push_a_label.ensures

pub returns-then-may_end-clause-lengths : goal.returns-then-may_end-clause-lengths
returns-then-may_end-clause-lengths c =
    measured_all c.labels.invariant c.label_end-end.result _ c.push_a_label.new.query.items c.label_end-end.ensures c.if-end-name.true refl c.in_ok-push_a_label.ensures
    (rw (← c.len-begin.ensures.value, ← c.len.ensures.value) (sym c.if-may_end.ensures))

pub labels-preserved : goal.labels-preserved
labels-preserved c =
    let stopped : c.try_push.new.self.items ≡ c.push_a_label.new.query.items ++ 0x2E ∷ [] = search rules in
    written_label c.labels.invariant c.label_end-end.result _ c.push_a_label.new.query.items c.try_push.new.self.items c.label_end-end.ensures c.if-end-name.false refl
    (c.label_passes.ensures c.if-not-label_passes.false)
    c.in_ok-push_a_label.ensures
    (rw (← c.len-begin.ensures.value, ← c.len-in-labels.ensures.value) (sym c.has_label_length.ensures ∙ c.if-not-has_label_length.false))
    stopped
