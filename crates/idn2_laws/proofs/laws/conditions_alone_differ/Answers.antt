use Rattle.idn2_laws.proofs.DifferenceLaws.{conditions-alone-differ}
use Rattle.idn2_laws.proofs.laws.conditions_alone_differ.Goals as goal

pub returns : goal.returns
returns c = conditions-alone-differ
