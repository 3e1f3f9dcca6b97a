use Rattle.std.proofs.Common.{arith}
use Rattle.std.proofs.lemmas.Bool.{ltb-true}
use Rattle.std.proofs.lemmas.Nat.Bits.{bit_at_above}
use Rattle.label_patterns.proofs.places.has.Goals as goal

pub returns-else-place-lt64 : goal.returns-else-place-lt64
returns-else-place-lt64 c = (
  λ h. absurd (omega (arith, ltb-true c.args.place 64 h, c.if-place-lt64.false)),
  λ h. absurd (let z = bit_at_above c.args.places 64 c.args.place c.ranges.places.fits c.if-place-lt64.false in omega (arith, z, h)),
)
