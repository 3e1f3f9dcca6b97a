use Rattle.std.proofs.Common.{◌≡◌, ◌==◌, nat_lt, length, true, false, refl, sym, ap, ◌∙◌, arith}
use Rattle.std.proofs.lemmas.Bool.Decides.{nat_tests}
use Rattle.idn_punycode.proofs.UnitLemmas.{codes_length}
use Rattle.idn_label.specs.FirstFault.{has_hyphen_out_of_place}
use Rattle.idn_label.proofs.FaultLemmas.{first_fault-parts}
use Rattle.idn_label.proofs.LdhLemmas.{first_fault-ldh}
use Rattle.idn_label.proofs.first_fault.check_ldh.Goals as goal

pub returns-then-is_empty-clause-fault : goal.returns-then-is_empty-clause-fault
returns-then-is_empty-clause-fault g c properties =
    let label = g.U.Unit.codes c.args.label.now in
    let many = codes_length g.U.Unit.code g.U.Unit.codes g.met.U.Unit.codes_are c.args.label.now in
    let none : (length label == 0) ≡ true = ap (λ n. n == 0) many ∙ sym c.if-is_empty.ensures in
    rw (first_fault-parts properties label, none) refl

pub returns-then-has_hyphen_out_of_place-clause-fault : goal.returns-then-has_hyphen_out_of_place-clause-fault
returns-then-has_hyphen_out_of_place-clause-fault g c properties =
    let label = g.U.Unit.codes c.args.label.now in
    let many = codes_length g.U.Unit.code g.U.Unit.codes g.met.U.Unit.codes_are c.args.label.now in
    let some : (length label == 0) ≡ false = ap (λ n. n == 0) many ∙ sym c.if-is_empty.ensures in
    let hyphen : has_hyphen_out_of_place label ≡ true = sym c.if-has_hyphen_out_of_place.ensures in
    rw (first_fault-ldh properties label c.requires, some, hyphen) refl

pub returns-then-label-gt-MAX_LABEL_LEN-clause-fault : goal.returns-then-label-gt-MAX_LABEL_LEN-clause-fault
returns-then-label-gt-MAX_LABEL_LEN-clause-fault g c properties =
    let label = g.U.Unit.codes c.args.label.now in
    let many = codes_length g.U.Unit.code g.U.Unit.codes g.met.U.Unit.codes_are c.args.label.now in
    let some : (length label == 0) ≡ false = ap (λ n. n == 0) many ∙ sym c.if-is_empty.ensures in
    let hyphen : has_hyphen_out_of_place label ≡ false = sym c.if-has_hyphen_out_of_place.ensures in
    let long : nat_lt 63 (length label) ≡ true = grind (arith, nat_tests, many, c.if-label-gt-MAX_LABEL_LEN.true) in
    rw (first_fault-ldh properties label c.requires, some, hyphen, long) refl

pub returns-clause-registrable : goal.returns-clause-registrable
returns-clause-registrable g c properties =
    let label = g.U.Unit.codes c.args.label.now in
    let many = codes_length g.U.Unit.code g.U.Unit.codes g.met.U.Unit.codes_are c.args.label.now in
    let some : (length label == 0) ≡ false = ap (λ n. n == 0) many ∙ sym c.if-is_empty.ensures in
    let hyphen : has_hyphen_out_of_place label ≡ false = sym c.if-has_hyphen_out_of_place.ensures in
    let short : nat_lt 63 (length label) ≡ false = grind (arith, nat_tests, many, c.if-label-gt-MAX_LABEL_LEN.false) in
    rw (first_fault-ldh properties label c.requires, some, hyphen, short) refl
