use Rattle.variant_list.proofs.MutualLaws.{variants_are_mutual}
use Rattle.variant_list.proofs.laws.variants_are_mutual.Goals as goal

pub returns : goal.returns
returns c = variants_are_mutual
