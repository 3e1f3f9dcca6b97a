use Rattle.idn2_laws.proofs.ListingLaws.{not-valid-told}
use Rattle.idn2_laws.proofs.laws.not_valid_is_never_told.Goals as goal

pub returns : goal.returns
returns c = not-valid-told
