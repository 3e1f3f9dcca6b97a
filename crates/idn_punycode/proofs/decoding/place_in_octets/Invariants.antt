use Rattle.std.proofs.Common.{◌≤◌, length}
use Rattle.idn_punycode.proofs.DelimiterSteps.{Ends}
use Rattle.idn_punycode.proofs.decoding.place_in_octets.Given as goal

abbrev pub invariant-loop-after : goal.invariant-loop-after
invariant-loop-after l = (l.after ≤ length l.code) × Ends l.code l.after

abbrev pub decreases-loop-after : goal.decreases-loop-after
decreases-loop-after l = l.after

abbrev pub invariant-loop-after-2 : goal.invariant-loop-after-2
invariant-loop-after-2 l = (l.after ≤ length l.code) × Ends l.code l.after

abbrev pub decreases-loop-after-2 : goal.decreases-loop-after-2
decreases-loop-after-2 l = l.after
