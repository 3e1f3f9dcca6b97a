use Rattle.std.proofs.Common.{ℕ, not, leb, cond, bit_and, ◌≤◌, length, refl, arith}
use Rattle.std.proofs.lemmas.Simd.{zip2_splat, zip2_of_maps, splat_is_map}
use Rattle.xml_text.specs.Names.{is_name_byte}
use Rattle.xml_text.proofs.BlockLemmas.{computed}
use Rattle.xml_text.proofs.run.names_end.Goals as goal

pub returns : goal.returns
returns c =
    let v = c.args.block in
    let long = c.fits-block.0 in
    let few : length v ≤ 64 = omega arith in
    let most = λ (a b : ℕ). cond (leb a b) 255 0 in
    let letters = zip2_of_maps most _ _ v (splat_is_map v 16 26 long) (zip2_of_maps _ _ _ v (zip2_splat {Y = ℕ} _ v 16 32 long) (splat_is_map v 16 97 long)) in
    let digits = zip2_of_maps most _ _ v (splat_is_map v 16 11 long) (zip2_splat {Y = ℕ} _ v 16 48 long) in
    let dashes = zip2_of_maps most _ _ v (splat_is_map v 16 2 long) (zip2_splat {Y = ℕ} _ v 16 45 long) in
    computed _ (λ b. not (is_name_byte b)) v few c.fits-block.1 (zip2_of_maps bit_and _ _ v (zip2_of_maps bit_and _ _ v (zip2_of_maps bit_and _ _ v letters digits) dashes) (zip2_splat {Y = ℕ} _ v 16 95 long)) refl
