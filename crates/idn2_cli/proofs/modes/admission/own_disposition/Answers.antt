use Rattle.idn2_cli.proofs.RulingLemmas.{emptied-kept}
use Rattle.idn2_cli.proofs.modes.admission.own_disposition.Goals as goal

pub tested_disposition-requires-clause-actions : goal.tested_disposition-requires-clause-actions
tested_disposition-requires-clause-actions c = (c.requires.tested c.in-Some.test c.in-Some.is).1

pub returns-in-Some-clause-begun : goal.returns-in-Some-clause-begun
returns-in-Some-clause-begun c = λ v is.
    emptied-kept c.in-Some.test c.tested_disposition.new.test v (c.requires.tested c.in-Some.test c.in-Some.is).0 (c.tested_disposition.ensures.kept is) c.tested_disposition.ensures.same
