use Rattle.std.proofs.Common.{◌≡◌, ap, sym, subst, ◌∙◌, true, false}
use Rattle.valid_labels.specs.Testing.{IsAdmission}
use Rattle.idn2_cli.specs.inner.Ruling.{passes}
use Rattle.idn2_cli.proofs.DecisionLemmas.{not_admitted, others-ruling}
use Rattle.idn2_cli.proofs.modes.decided.Decisions.standing_of.Goals as goal

pub admission_by-requires-clause-ruling : goal.admission_by-requires-clause-ruling
admission_by-requires-clause-ruling c =
    let d = c.requires.decides in
    others-ruling c.args.self.now.table.now c.args.self.now.label.now c.args.self.now.listed c.args.self.now.others c.requires.made d.others

pub returns-then-is_valid_by-clause-standing : goal.returns-then-is_valid_by-clause-standing
returns-then-is_valid_by-clause-standing c = λ properties told.
    let d = c.requires.decides in
    let ruling = c.admission_by.ensures.same ∙ others-ruling c.args.self.now.table.now c.args.self.now.label.now c.args.self.now.listed c.args.self.now.others c.requires.made d.others in (
      (told.0 c.if-not-may_be_registered.false, sym (ap (λ r. passes r c.args.other.now) ruling) ∙ sym c.is_valid_by.ensures.passes ∙ c.if-is_valid_by.true),
      not_admitted c.args.self.now.table.now c.args.other.now c.in_ok-admission.admission c.in_ok-admission.ensures.admission c.in_default.not-Admitted,
    )

pub returns-else-is_valid_by-clause-standing : goal.returns-else-is_valid_by-clause-standing
returns-else-is_valid_by-clause-standing c = λ properties told.
    let d = c.requires.decides in
    let ruling = c.admission_by.ensures.same ∙ others-ruling c.args.self.now.table.now c.args.self.now.label.now c.args.self.now.listed c.args.self.now.others c.requires.made d.others in (
      λ good. not_admitted c.args.self.now.table.now c.args.other.now c.in_ok-admission.admission c.in_ok-admission.ensures.admission c.in_default.not-Admitted good.1,
      λ may. (let clash : false ≡ true = sym c.if-is_valid_by.false ∙ c.is_valid_by.ensures.passes ∙ ap (λ r. passes r c.args.other.now) ruling ∙ may.1 in cc),
    )

pub returns-in-Admitted-clause-standing : goal.returns-in-Admitted-clause-standing
returns-in-Admitted-clause-standing c = λ properties told.
    (told.0 c.if-not-may_be_registered.false, (subst (IsAdmission c.args.self.now.table.now c.args.other.now) c.in-Admitted.is c.in_ok-admission.ensures.admission).0)
