use Rattle.std.proofs.Common.{length}
use Rattle.lgr_text.specs.Elements.{Content}
use Rattle.lgr_text.specs.Facts.{is_reference}
use Rattle.lgr_text.specs.inner.Reading.{AreOf}
use Rattle.lgr_text.proofs.LoopLemmas.{AllLeft}
use Rattle.lgr_text.proofs.facts.check_references.Given as goal

-- each of the elements before is a reference
abbrev pub invariant-loop-element : goal.invariant-loop-element
invariant-loop-element l = (c : Content) → AreOf l.fn.elements c → AllLeft is_reference l.elements c

abbrev pub decreases-loop-element : goal.decreases-loop-element
decreases-loop-element l = length l.elements.tokens.now
