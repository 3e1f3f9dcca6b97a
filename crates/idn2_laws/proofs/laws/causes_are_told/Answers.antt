use Rattle.std.proofs.Common.{refl}
use Rattle.idn2_laws.proofs.CauseExampleLemmas.{examples_of_causes}
use Rattle.idn2_refusals.proofs.CauseLemmas.{unexplained_body, bad_byte-at, outside-told}
use Rattle.idn2_laws.proofs.ToldAlikeLemmas.{told_alike}
use Rattle.idn2_laws.proofs.laws.causes_are_told.Goals as goal

pub returns-clause-laws : goal.returns-clause-laws
returns-clause-laws c = record { unexplained = unexplained_body; plain = λ number refusal. refl; byte = bad_byte-at; outside = outside-told }

pub returns-clause-alike : goal.returns-clause-alike
returns-clause-alike c = told_alike

pub returns-clause-examples : goal.returns-clause-examples
returns-clause-examples c = examples_of_causes
