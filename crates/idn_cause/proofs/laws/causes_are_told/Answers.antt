use Rattle.idn_cause.proofs.CauseLaws.{cause-is, fault-has_cause}
use Rattle.idn_cause.proofs.CausePlaces.{barred-kind}
use Rattle.idn_cause.proofs.ExampleLemmas.{HaveCauses-causes}
use Rattle.idn_cause.proofs.laws.causes_are_told.Goals as goal

pub returns : goal.returns
returns c = record { exactly = cause-is; kind = barred-kind; always = fault-has_cause; examples = HaveCauses-causes }
