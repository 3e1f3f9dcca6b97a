use Rattle.variant_list.proofs.NearLaws.{AreNear-arising, AreNear-turned}
use Rattle.variant_list.proofs.laws.arising_labels_are_near.Goals as goal

pub returns : goal.returns
returns c = record { arising = AreNear-arising; both_ways = AreNear-turned }
