use Rattle.std.proofs.Common.{length}
use Rattle.lgr_text.proofs.part_items.+choice_of_sets.Given as goal

abbrev pub decreases-choice_of_sets : goal.decreases-choice_of_sets
decreases-choice_of_sets l = length l.spans.now
