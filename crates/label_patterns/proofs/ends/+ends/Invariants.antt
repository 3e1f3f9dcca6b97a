use Rattle.std.proofs.Common.{◌-◌, ◌^◌, ◌≤◌, ℕ}
use Rattle.label_patterns.specs.Places.{Has, AreEnds}
use Rattle.label_patterns.specs.Matches.{Matches}
use Rattle.label_patterns.specs.Trees.{pattern}
use Rattle.label_patterns.proofs.RoundLemmas.{AreReached, AreParts}
use Rattle.label_patterns.proofs.ends.+ends.Given as goal

-- all that was found is reached by rounds, and the starts are found; what is more is reached in one round
abbrev pub invariant-loop-more : goal.invariant-loop-more
invariant-loop-more l = record {
  starts : (p : ℕ) → Has l.starts p → Has l.found p;
  reached : AreReached (Matches l.seen (pattern l.part.value)) l.starts l.found;
  ends : (ends : ℕ) × AreEnds (Matches l.seen (pattern l.part.value)) l.found ends × AreParts l.found ends l.more;
  more : l.found ≤ l.more;
}

abbrev pub decreases-loop-more : goal.decreases-loop-more
decreases-loop-more l = 2 ^ 64 - l.found
