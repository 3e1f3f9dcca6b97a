use Rattle.std.proofs.Common.{◌≡◌, ℕ, List, [], ◌∷◌, false, true, not, sym, ap, ◌∙◌, subst}
use Rattle.std.proofs.lemmas.Bool.{and_from, and_left, and_right}
use Rattle.lgr_text.specs.Records.{variant}
use Rattle.lgr_text.specs.Repertoire.{is_reflexive, may_be}
use Rattle.lgr_table.specs.Entries.{variant_of, variants_of}
use Rattle.lgr_table.specs.Tables.{may_stand}
use Rattle.lgr_table.specs.inner.EntrySteps.{PushesVariants}
use Rattle.lgr_table.proofs.CalledLemmas.{pushes-none, pushes-one, variants-kept, variants-left}
use Rattle.idn_class.specs.declared.properties.Properties.{Properties}
use Rattle.lgr_table.proofs.mapped.push_variant.Goals as goal

asked_is : {p q : Properties} {a b : List ℕ} → p ≡ q → a ≡ b → may_be (may_stand q) b ≡ may_be (may_stand p) a
asked_is {p} {q} {a} {b} e f = sym (ap (λ x. may_be (may_stand x) a) e ∙ ap (may_be (may_stand q)) f)

pub returns-then-is_reflexive : goal.returns-then-is_reflexive
returns-then-is_reflexive c =
    let may = may_stand c.args.definitions.now.properties in
    let v = variant c.args.variant.now in
    let s = c.args.source.now in
    let same : not (is_reflexive s v) ≡ false = ap not (sym c.is_reflexive.ensures ∙ c.if-is_reflexive.true) in
    pushes-none c.args.definitions.now c.args.mapped.now.items _
    (variants-left may c.args.numbers.now s v (and_right (may_be may v.points) (not (is_reflexive s v)) same))

pub returns-then-not-kept : goal.returns-then-not-kept
returns-then-not-kept c =
    let may = may_stand c.args.definitions.now.properties in
    let v = variant c.args.variant.now in
    let s = c.args.source.now in
    let bad : may_be may v.points ≡ false = asked_is c.properties.ensures c.deref.ensures.value ∙ sym c.in_ok-kept.ensures ∙ c.if-not-kept.true in
    pushes-none c.args.definitions.now c.args.mapped.now.items _
    (variants-left may c.args.numbers.now s v (and_left (may_be may v.points) (not (is_reflexive s v)) bad))

pub returns : goal.returns
returns c =
    let d = c.args.definitions.now in
    let may = may_stand d.properties in
    let v = variant c.args.variant.now in
    let s = c.args.source.now in
    let other : not (is_reflexive s v) ≡ true = ap not (sym c.is_reflexive.ensures ∙ c.if-is_reflexive.false) in
    let good : may_be may v.points ≡ true = asked_is c.properties.ensures c.deref.ensures.value ∙ sym c.in_ok-kept.ensures ∙ c.if-not-kept.false in
    subst (λ l. PushesVariants d c.args.mapped.now.items l (variants_of may c.args.numbers.now s (v ∷ []))) (sym c.in_ok-push.ensures.items)
    (pushes-one d c.args.mapped.now.items c.in_ok-called.called (variant_of c.args.numbers.now v) _
    (variants-kept may c.args.numbers.now s v (and_from (may_be may v.points) (not (is_reflexive s v)) good other)) c.in_ok-called.ensures)
