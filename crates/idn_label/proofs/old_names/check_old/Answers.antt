use Rattle.std.proofs.Common.{◌≡◌, true, false, nat_lt, length, sym, ap, ◌∙◌, arith}
use Rattle.std.proofs.lemmas.Bool.Decides.{nat_tests}
use Rattle.idna.specs.Validity.{is_all_ascii}
use Rattle.idn_label.specs.OldNames.{stands_for}
use Rattle.idn_label.proofs.ALabels.{a_label_of-ascii}
use Rattle.idn_label.proofs.FaultLemmas.{ascii_long}
use Rattle.idn_label.proofs.OldNameLemmas.{old_fault-empty, old_fault-points, old_fault-long, old_fault-another, old_fault-none, old_lower, stands_for-name}
use Rattle.idn_label.proofs.old_names.check_old.Goals as goal

pub returns-then-is_empty-clause-fault : goal.returns-then-is_empty-clause-fault
returns-then-is_empty-clause-fault c = old_fault-empty c.args.label.now (sym c.if-is_empty.ensures)

pub returns-then-not-are_old_points-clause-fault : goal.returns-then-not-are_old_points-clause-fault
returns-then-not-are_old_points-clause-fault c = old_fault-points c.args.label.now (sym c.if-is_empty.ensures) (sym c.if-not-are_old_points.ensures)

pub returns-in-Some-clause-passes : goal.returns-in-Some-clause-passes
returns-in-Some-clause-passes c =
    old_fault-none c.args.label.now (sym c.if-is_empty.ensures) (sym c.if-not-are_old_points.ensures) c.in-Some.ensures.short
    (stands_for-name c.args.label.now c.requires (sym c.if-not-is_all_ascii.ensures))

pub returns-in-None-clause-fault : goal.returns-in-None-clause-fault
returns-in-None-clause-fault c = old_fault-long c.args.label.now (sym c.if-is_empty.ensures) (sym c.if-not-are_old_points.ensures) c.in-None.ensures.long

pub returns-then-label-gt-MAX_LABEL_LEN-clause-fault : goal.returns-then-label-gt-MAX_LABEL_LEN-clause-fault
returns-then-label-gt-MAX_LABEL_LEN-clause-fault c =
    let label = c.args.label.now in
    let long : nat_lt 63 (length label) ≡ true = grind (arith, nat_tests, c.if-label-gt-MAX_LABEL_LEN.true) in
    old_fault-long label (sym c.if-is_empty.ensures) (sym c.if-not-are_old_points.ensures) (ascii_long label (sym c.if-not-is_all_ascii.ensures) ∙ long)

pub names_another-requires-clause-lower : goal.names_another-requires-clause-lower
names_another-requires-clause-lower c = old_lower c.args.label.now (sym c.if-not-are_old_points.ensures) (sym c.if-not-is_all_ascii.ensures)

pub returns-then-names_another-clause-fault : goal.returns-then-names_another-clause-fault
returns-then-names_another-clause-fault c =
    let label = c.args.label.now in
    let within : nat_lt 63 (length label) ≡ false = grind (arith, nat_tests, c.if-label-gt-MAX_LABEL_LEN.false) in
    let ascii : is_all_ascii label ≡ true = sym c.if-not-is_all_ascii.ensures in
    old_fault-another label c.names_another.new.label (sym c.if-is_empty.ensures) (sym c.if-not-are_old_points.ensures) (ascii_long label ascii ∙ within) ascii
    c.if-names_another.ensures.another c.if-names_another.ensures.past_ascii

pub returns-clause-passes : goal.returns-clause-passes
returns-clause-passes c =
    let label = c.args.label.now in
    let within : nat_lt 63 (length label) ≡ false = grind (arith, nat_tests, c.if-label-gt-MAX_LABEL_LEN.false) in
    let ascii : is_all_ascii label ≡ true = sym c.if-not-is_all_ascii.ensures in
    old_fault-none label (sym c.if-is_empty.ensures) (sym c.if-not-are_old_points.ensures) (ascii_long label ascii ∙ within)
    (ap stands_for (a_label_of-ascii label ascii) ∙ c.if-names_another.ensures.itself)
