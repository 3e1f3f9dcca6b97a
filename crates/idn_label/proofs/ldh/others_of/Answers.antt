use Rattle.std.proofs.Common.{ℕ, leb, cond, not, bit_and, refl}
use Rattle.std.proofs.lemmas.Simd.{zip2_of_maps, splat_is_map, zip2_splat}
use Rattle.idn_label.specs.Steps.{is_ldh_point}
use Rattle.idn_label.proofs.LaneLemmas.{masked}
use Rattle.idn_label.proofs.ldh.others_of.Goals as goal

pub returns : goal.returns
returns c =
    let v = c.args.octets in
    let long = c.fits-octets.0 in
    masked (λ c. not (is_ldh_point c)) _ v
    (zip2_of_maps bit_and _ _ v
    (zip2_of_maps bit_and _ _ v
    (zip2_of_maps (λ a b. cond (leb a b) 255 0) _ _ v (splat_is_map v 16 26 long) (zip2_splat {Y = ℕ} _ v 16 97 long))
    (zip2_of_maps (λ a b. cond (leb a b) 255 0) _ _ v (splat_is_map v 16 10 long) (zip2_splat {Y = ℕ} _ v 16 48 long)))
    (zip2_of_maps (λ a b. cond (leb a b) 255 0) _ _ v (splat_is_map v 16 1 long) (zip2_splat {Y = ℕ} _ v 16 45 long)))
    long c.fits-octets.1 refl
