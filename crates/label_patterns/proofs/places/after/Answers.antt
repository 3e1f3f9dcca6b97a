use Rattle.std.proofs.Common.{◌≡◌, ◌*◌, ◌%◌, ◌<◌, bit_and, sym, subst, arith}
use Rattle.std.proofs.lemmas.Nat.{and_le_r}
use Rattle.label_patterns.specs.Places.{Has}
use Rattle.label_patterns.proofs.PlaceLemmas.{Has-and, Has-both, twice-up, twice-down, without-last}
use Rattle.label_patterns.proofs.places.after.Goals as goal

pub returns : goal.returns
returns c j =
    let s = c.args.starts in
    let m = c.args.members in
    let small = and_le_r s m in
    let below : m < 9223372036854775808 = without-last m c.ranges.members.fits c.requires in
    let whole : bit_and s m * 2 % 18446744073709551616 ≡ bit_and s m * 2 = omega (arith, small, below) in (
      λ h.
          let found = twice-down (bit_and s m) j (subst (λ n. Has n j) whole h) in
          let both = Has-and s m found.0 found.1 in
          (found.0, both.0, (both.1, found.2)),
      λ h. subst (λ n. Has n j) (sym whole) (subst (Has (bit_and s m * 2)) (sym h.2.1) (twice-up (bit_and s m) h.0 (Has-both s m h.0 h.1 h.2.0))),
    )
