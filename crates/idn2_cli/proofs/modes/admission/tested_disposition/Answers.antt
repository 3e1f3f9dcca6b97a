use Rattle.std.proofs.Common.{inl, inr, refl}
use Rattle.idn2_cli.proofs.modes.admission.tested_disposition.Goals as goal

pub returns-in-Ok-NotCut-clause-refused : goal.returns-in-Ok-NotCut-clause-refused
returns-in-Ok-NotCut-clause-refused c = λ _. inl (rw c.in-Ok-NotCut.field-0-is at c.in-Ok-NotCut.ensures.admission, refl)

pub returns-in-Ok-NotAdmitted-clause-refused : goal.returns-in-Ok-NotAdmitted-clause-refused
returns-in-Ok-NotAdmitted-clause-refused c = λ _.
    let is = rw c.in-Ok-NotAdmitted.field-0-is at c.in-Ok-NotAdmitted.ensures.admission in
    inr (is.0, is.1, refl)

pub returns-in-Ok-Admitted-clause-admitted : goal.returns-in-Ok-Admitted-clause-admitted
returns-in-Ok-Admitted-clause-admitted c = rw c.in-Ok-Admitted.field-0-is at c.in-Ok-Admitted.ensures.admission
