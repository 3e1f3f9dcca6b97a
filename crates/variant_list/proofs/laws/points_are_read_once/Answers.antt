use Rattle.variant_list.proofs.ReadOnceLemmas.{points_are_read_once}
use Rattle.variant_list.proofs.laws.points_are_read_once.Goals as goal

pub returns : goal.returns
returns c = points_are_read_once
