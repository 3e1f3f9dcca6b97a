use Rattle.std.proofs.Common.{◌≡◌, sym, ◌∙◌, rules}
use Rattle.unicode_normalization.specs.Forms.{nfc}
use Rattle.idn_class.specs.declared.facts.Fact.TheVariants.{MayCompose}
use Rattle.idn_class.proofs.FactLabels.{nfc-lacks}
use Rattle.idn_label.specs.Lookup.{deny_list}
use Rattle.idn_label.proofs.SimpleNames.{to_ascii-simple}
use Rattle.idn_label.proofs.query.simple.simple_query.Goals as goal
use Rattle.idn_label.proofs.query.simple.simple_query.Goals.{then-contains+in-Yes, else-contains}

pub returns-clause-answer : goal.returns-clause-answer
returns-clause-answer c std3 =
    let mapped = c.in_ok-facts.ensures.mapped in
    let a_labels = c.in_ok-write_a_labels.ensures in
    let name = c.map_name.new.mapped.items in
    let normalized : nfc name ≡ name =
    elim c.if-contains.branch [
      | then-contains+in-Yes w ↦ let is : nfc w.deref.result.now ≡ w.deref.result.now = search rules in rw (← w.deref.ensures.0) is
      | else-contains w ↦ rw mapped.items (nfc-lacks _ (sym (mapped.facts_of MayCompose) ∙ sym w.if-contains.ensures))
    ] in
    let is = c.deref-2.ensures.0 in
    to_ascii-simple (deny_list std3) c.args.name.now c.deref-2.result.now c.write_a_labels.new.query.items c.in_ok-facts.facts c.in_ok-facts.ensures.utf8
    (is ∙ mapped.items) (rw (is, mapped.items) mapped.passes) (rw (is, mapped.items) mapped.facts_of) (rw is normalized)
    a_labels.tested a_labels.short a_labels.written
