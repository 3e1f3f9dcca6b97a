use Rattle.std.proofs.Common.{◌<◌, ◌*◌, ◌^◌, ◌%◌, arith}
use Rattle.std.proofs.lemmas.Nat.{pow_below}
use Rattle.label_patterns.proofs.PlaceLemmas.{Has-below}
use Rattle.label_patterns.proofs.places.point_places.Goals as goal

pub returns : goal.returns
returns c p =
    let below : 2 ^ c.args.len < 2 ^ 64 = pow_below c.args.len 64 (omega (arith, c.requires)) in
    Has-below c.args.len (1 * 2 ^ c.args.len % 18446744073709551616) p (omega (arith, below))
