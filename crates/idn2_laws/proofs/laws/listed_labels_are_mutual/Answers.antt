use Rattle.idn2_laws.proofs.ListingLaws.{listed-mutual}
use Rattle.idn2_laws.proofs.laws.listed_labels_are_mutual.Goals as goal

pub returns : goal.returns
returns c = listed-mutual
