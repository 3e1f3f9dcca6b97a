use Rattle.std.proofs.Common.{◌≡◌, ◌+◌, ◌≤◌, length, take}
use Rattle.idn_class.specs.Facts.{AreFactsOf}
use Rattle.idn_punycode.proofs.DecodingSteps.{Decodes}
use Rattle.idn_punycode.proofs.decoding.decode_into.Given as goal

abbrev pub invariant-loop-rest : goal.invariant-loop-rest
invariant-loop-rest g l =
    Decodes (g.U.Unit.codes l.code) (take l.len l.points) l.code_point l.place l.bias (g.U.Unit.codes l.rest)
    × (l.place ≤ l.len) × (l.len + length l.rest ≤ length l.code) × (l.code_point ≤ 0x10_FFFF) × (length l.points ≡ 72)
    × AreFactsOf l.facts (take l.len l.points)

abbrev pub decreases-loop-rest : goal.decreases-loop-rest
decreases-loop-rest g l = length l.rest
