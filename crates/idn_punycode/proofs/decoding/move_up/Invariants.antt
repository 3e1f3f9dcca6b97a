use Rattle.std.proofs.Common.{◌≡◌, ℕ, ◌+◌, ◌-◌, ◌*◌, ◌/◌, ◌<◌, ◌≤◌, length, get_or}
use Rattle.idn_punycode.proofs.decoding.move_up.Given as goal

-- the chunks that are left stand where they stood, and those after them one place further up
abbrev pub invariant-loop-chunks : goal.invariant-loop-chunks
invariant-loop-chunks l =
    (length l.points ≡ length l.fn.points) × (l.chunks ≤ (l.len - l.from) / 8 + 1)
    × ((k : ℕ) → k ≤ l.from + 8 * l.chunks → get_or l.points k 0 ≡ get_or l.fn.points k 0)
    × ((k : ℕ) → l.from + 8 * l.chunks ≤ k → k < l.from + 8 * ((l.len - l.from) / 8 + 1) → get_or l.points (k + 1) 0 ≡ get_or l.fn.points k 0)

abbrev pub decreases-loop-chunks : goal.decreases-loop-chunks
decreases-loop-chunks l = l.chunks
