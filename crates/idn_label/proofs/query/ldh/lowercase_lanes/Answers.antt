use Rattle.std.proofs.Common.{ℕ, leb, eqb, cond, not, bit_and, bit_or, refl, sym, ap, ◌∙◌}
use Rattle.std.specs.Char.{to_ascii_lowercase}
use Rattle.std.proofs.lemmas.Simd.{zip2_of_maps, splat_is_map, zip2_splat, map-map}
use Rattle.std.specs.Simd.Lanes.{mask_l}
use Rattle.idna.specs.Labels.{is_full_stop}
use Rattle.idn_label.specs.LdhNames.{is_name_point}
use Rattle.idn_label.proofs.LaneLemmas.{same_lanes, masked}
use Rattle.idn_label.proofs.query.ldh.lowercase_lanes.Goals as goal

pub returns-clause-others : goal.returns-clause-others
returns-clause-others c =
    let v = c.args.octets in
    let long = c.fits-octets.0 in
    let with_bit = zip2_splat {Y = ℕ} _ v 16 32 long in
    masked (λ c. not (is_name_point (to_ascii_lowercase c))) _ v
    (zip2_of_maps bit_and _ _ v
    (zip2_of_maps (λ a b. cond (leb a b) 255 0) _ _ v (splat_is_map v 16 26 long) (zip2_of_maps _ _ _ v with_bit (splat_is_map v 16 97 long)))
    (zip2_of_maps bit_or _ _ v
    (zip2_of_maps (λ a b. cond (leb a b) 255 0) _ _ v (splat_is_map v 16 13 long) (zip2_splat {Y = ℕ} _ v 16 45 long))
    (zip2_splat {Y = ℕ} _ v 16 47 long)))
    long c.fits-octets.1 refl

pub returns-clause-stops : goal.returns-clause-stops
returns-clause-stops c =
    let v = c.args.octets in
    let long = c.fits-octets.0 in
    masked (λ x. is_full_stop (to_ascii_lowercase x)) _ v (zip2_splat {Y = ℕ} (λ a b. cond (eqb a b) 255 0) v 16 46 long) long c.fits-octets.1 refl
    ∙ ap mask_l (sym (map-map is_full_stop to_ascii_lowercase v))

pub returns-clause-lower : goal.returns-clause-lower
returns-clause-lower c none =
    let v = c.args.octets in
    zip2_splat {Y = ℕ} bit_or v 16 32 c.fits-octets.0
    ∙ same_lanes (λ c. not (is_name_point (to_ascii_lowercase c))) (λ x. bit_or x 32) to_ascii_lowercase v c.fits-octets.1 (sym (returns-clause-others c) ∙ none) refl
