use Rattle.std.proofs.Common.{◌+◌, ◌*◌, length, map}
use Rattle.lgr_text.specs.Elements.{Content}
use Rattle.lgr_text.specs.Orders.{item}
use Rattle.lgr_text.specs.Parts.{item_of}
use Rattle.lgr_text.specs.inner.Reading.{AreOf}
use Rattle.lgr_text.proofs.LoopLemmas.{Left}
use Rattle.lgr_text.proofs.parts.+parts.Given as goal

abbrev pub decreases-read_items : goal.decreases-read_items
decreases-read_items l = 3 * l.levels + 2

abbrev pub decreases-read_item : goal.decreases-read_item
decreases-read_item l = 3 * l.levels + 1

abbrev pub decreases-read_part : goal.decreases-read_part
decreases-read_part l = 3 * l.levels

-- what is read of the elements that are left follows what was read before
abbrev pub invariant-read_items-loop-items : goal.invariant-read_items-loop-items
invariant-read_items-loop-items l = (c : Content) → AreOf l.fn.elements c → Left (item_of l.levels) (map item l.items.items) l.elements c

abbrev pub decreases-read_items-loop-items : goal.decreases-read_items-loop-items
decreases-read_items-loop-items l = length l.elements.tokens.now
