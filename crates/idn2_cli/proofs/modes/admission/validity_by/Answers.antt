use Rattle.std.proofs.Common.{subst}
use Rattle.idn2_cli.specs.inner.Ruling.{KeepsShared}
use Rattle.idn2_cli.proofs.RulingLemmas.{validity-found}
use Rattle.idn2_cli.proofs.modes.admission.validity_by.Goals as goal

pub returns-in-Some-clause-validity : goal.returns-in-Some-clause-validity
returns-in-Some-clause-validity c =
    let kept = subst (λ t. KeepsShared t c.args.shared c.args.label.now) c.in-Some.is c.requires.kept in
    rw c.in-Some.is (validity-found c.in-Some.test.table c.args.label.now c.judge.result kept.0 c.judge.ensures.validity)
