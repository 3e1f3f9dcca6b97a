use Rattle.std.proofs.Common.{length}
use Rattle.lgr_text.proofs.orders.+are_up_to_end.Given as goal

abbrev pub decreases-are_up_to_end : goal.decreases-are_up_to_end
decreases-are_up_to_end l = length l.roles.now
