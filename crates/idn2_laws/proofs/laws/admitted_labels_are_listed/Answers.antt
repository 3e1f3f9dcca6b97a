use Rattle.idn2_laws.proofs.ListingLaws.{admitted-listed}
use Rattle.idn2_laws.proofs.laws.admitted_labels_are_listed.Goals as goal

pub returns : goal.returns
returns c = admitted-listed
