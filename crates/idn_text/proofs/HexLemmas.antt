-- The size of a number that hexadecimal digits write.
use Rattle.std.proofs.Common.{◌≡◌, ℕ, ◌+◌, ◌*◌, ◌^◌, ◌<◌, ◌≤◌, arith}
use Rattle.std.proofs.lemmas.Nat.{pow-add}
use Rattle.std.proofs.Math.Nat.{pow-le-pow_right}

-- with a further digit
pub hex_more : (i value d : ℕ) → value < 16 ^ i → d < 16 → value * 16 + d < 16 ^ (i + 1)
hex_more i value d l k = let e : 16 ^ (i + 1) ≡ 16 ^ i * 16 = pow-add 16 i 1 in omega (arith, e)

-- five digits leave room for a sixth in 32 bits
pub hex_fits : (i value : ℕ) → value < 16 ^ i → i < 6 → value < 1048576
hex_fits i value l k = let e : 16 ^ i ≤ 16 ^ 5 = pow-le-pow_right {n = 16} (omega arith) {i = i} {j = 5} (omega arith) in omega (arith, e)
