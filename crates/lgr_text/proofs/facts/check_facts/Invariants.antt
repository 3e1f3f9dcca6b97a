use Rattle.std.proofs.Common.{length}
use Rattle.lgr_text.specs.Elements.{Content}
use Rattle.lgr_text.specs.Facts.{is_fact}
use Rattle.lgr_text.specs.inner.Reading.{AreOf}
use Rattle.lgr_text.proofs.LoopLemmas.{AllLeft}
use Rattle.lgr_text.proofs.facts.check_facts.Given as goal

-- each of the elements before says something
abbrev pub invariant-loop-element : goal.invariant-loop-element
invariant-loop-element l = (c : Content) → AreOf l.fn.elements c → AllLeft is_fact l.elements c

abbrev pub decreases-loop-element : goal.decreases-loop-element
decreases-loop-element l = length l.elements.tokens.now
