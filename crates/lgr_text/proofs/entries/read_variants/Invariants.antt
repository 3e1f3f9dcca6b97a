use Rattle.std.proofs.Common.{map, length}
use Rattle.lgr_text.specs.Elements.{Content}
use Rattle.lgr_text.specs.Entries.{variant_of}
use Rattle.lgr_text.specs.Records.{variant}
use Rattle.lgr_text.specs.inner.Reading.{AreOf}
use Rattle.lgr_text.proofs.LoopLemmas.{Left}
use Rattle.lgr_text.proofs.entries.read_variants.Given as goal

-- what is read of the elements that are left follows what was read before
abbrev pub invariant-loop-variants : goal.invariant-loop-variants
invariant-loop-variants l = (c : Content) → AreOf l.fn.elements c → Left variant_of (map variant l.variants.items) l.elements c

abbrev pub decreases-loop-variants : goal.decreases-loop-variants
decreases-loop-variants l = length l.elements.tokens.now
