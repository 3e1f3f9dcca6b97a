use Rattle.std.proofs.Common.{◌-◌, ◌^◌, ◌≤◌, ℕ}
use Rattle.label_patterns.specs.Places.{Has, AreStarts}
use Rattle.label_patterns.specs.Matches.{Matches}
use Rattle.label_patterns.specs.Trees.{pattern}
use Rattle.label_patterns.proofs.RoundLemmas.{AreLeft, AreParts}
use Rattle.label_patterns.proofs.starts.+starts.Given as goal

-- all that was found is reached by rounds, and the stops are found; what is more is reached in one round
abbrev pub invariant-loop-more : goal.invariant-loop-more
invariant-loop-more l = record {
  stops : (p : ℕ) → Has l.stops p → Has l.found p;
  reached : AreLeft (Matches l.seen (pattern l.part.value)) l.stops l.found;
  ends : (ends : ℕ) × AreStarts (Matches l.seen (pattern l.part.value)) l.found ends × AreParts l.found ends l.more;
  more : l.found ≤ l.more;
}

abbrev pub decreases-loop-more : goal.decreases-loop-more
decreases-loop-more l = 2 ^ 64 - l.found
