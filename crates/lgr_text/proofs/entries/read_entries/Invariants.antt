use Rattle.std.proofs.Common.{map, length}
use Rattle.lgr_text.specs.Elements.{Content}
use Rattle.lgr_text.specs.Entries.{entry_of}
use Rattle.lgr_text.specs.Records.{entry}
use Rattle.lgr_text.specs.inner.Reading.{AreOf}
use Rattle.lgr_text.proofs.LoopLemmas.{Left}
use Rattle.lgr_text.proofs.entries.read_entries.Given as goal

-- what is read of the elements that are left follows what was read before
abbrev pub invariant-loop-entries : goal.invariant-loop-entries
invariant-loop-entries l = (c : Content) → AreOf l.fn.elements c → Left entry_of (map entry l.entries.items) l.elements c

abbrev pub decreases-loop-entries : goal.decreases-loop-entries
decreases-loop-entries l = length l.elements.tokens.now
