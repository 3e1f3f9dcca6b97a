use Rattle.std.proofs.Common.{◌+◌, ◌*◌, length, map}
use Rattle.lgr_text.specs.declared.classes.ClassPlace.TheVariants.{InSet}
use Rattle.lgr_text.specs.Classes.{class_of}
use Rattle.lgr_text.specs.Elements.{Content}
use Rattle.lgr_text.specs.Records.{class}
use Rattle.lgr_text.specs.inner.Reading.{AreOf}
use Rattle.lgr_text.proofs.LoopLemmas.{Left}
use Rattle.lgr_text.proofs.classes.+classes.Given as goal

abbrev pub decreases-read_class : goal.decreases-read_class
decreases-read_class l = 3 * l.levels

abbrev pub decreases-sets_in : goal.decreases-sets_in
decreases-sets_in l = 3 * l.levels + 2

abbrev pub decreases-read_sets : goal.decreases-read_sets
decreases-read_sets l = 3 * l.levels + 1

-- what is read of the elements that are left follows what was read before
abbrev pub invariant-read_sets-loop-sets : goal.invariant-read_sets-loop-sets
invariant-read_sets-loop-sets l = (c : Content) → AreOf l.fn.elements c → Left (class_of l.levels InSet) (map class l.sets.items) l.elements c

abbrev pub decreases-read_sets-loop-sets : goal.decreases-read_sets-loop-sets
decreases-read_sets-loop-sets l = length l.elements.tokens.now
