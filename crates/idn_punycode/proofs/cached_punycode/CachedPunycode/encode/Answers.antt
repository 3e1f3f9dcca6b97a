use Rattle.std.proofs.Common.{◌≡◌, ◌++◌, codes, List, ℕ, length, sym, ap, ◌∙◌, subst, arith}
use Rattle.std.proofs.lemmas.Result.{on_ok_weaker, on_err_weaker}
use Rattle.idna.specs.Punycode.{encode}
use Rattle.idn_punycode.specs.inner.Keys.{HasKeys, HasPlaces}
use Rattle.idn_punycode.specs.inner.Digits.{AreWritable, all_digits}
use Rattle.idn_punycode.proofs.OrderSteps.{HasKeys-few}
use Rattle.idn_punycode.proofs.ProgressSteps.{all_digits-whole, AreWritable-keys}
use Rattle.idn_punycode.proofs.cached_punycode.CachedPunycode.encode.Goals as goal

-- the parts are those of a label without a code point of ASCII
parts_of : {label keys : List ℕ} {places marks : ℕ} → HasKeys label keys (length label) → HasPlaces label places (length label) → marks ≡ places → marks ≡ 0 → HasKeys label keys (length label) × HasPlaces label 0 (length label)
parts_of {label} h marked is none = (h, subst (λ n. HasPlaces label n (length label)) (sym is ∙ none) marked)

pub write-requires-clause-few : goal.write-requires-clause-few
write-requires-clause-few c =
    let parts = parts_of c.lengthen.ensures.keys c.lengthen.ensures.places c.places.ensures c.if-places-eq0.true in
    omega (arith, HasKeys-few parts.0 (omega (arith, c.requires.few)), ap length c.keys.ensures, c.requires.few)

pub write-requires-clause-writable : goal.write-requires-clause-writable
write-requires-clause-writable c =
    let parts = parts_of c.lengthen.ensures.keys c.lengthen.ensures.places c.places.ensures c.if-places-eq0.true in
    subst AreWritable (sym c.keys.ensures) (AreWritable-keys c.requires.few parts.0 parts.1)

pub returns-then-places-eq0-clause-ok : goal.returns-then-places-eq0-clause-ok
returns-then-places-eq0-clause-ok c =
    let parts = parts_of c.lengthen.ensures.keys c.lengthen.ensures.places c.places.ensures c.if-places-eq0.true in
    let code : all_digits c.keys.result.now ≡ encode c.args.label.now = ap all_digits c.keys.ensures ∙ all_digits-whole c.requires.few parts.0 parts.1 in
    on_ok_weaker c.write.result (λ is. is ∙ ap (λ xs. codes "xn--" ++ xs) code) c.write.ensures.ok

pub returns-then-places-eq0-clause-short : goal.returns-then-places-eq0-clause-short
returns-then-places-eq0-clause-short c =
    let parts = parts_of c.lengthen.ensures.keys c.lengthen.ensures.places c.places.ensures c.if-places-eq0.true in
    let code : all_digits c.keys.result.now ≡ encode c.args.label.now = ap all_digits c.keys.ensures ∙ all_digits-whole c.requires.few parts.0 parts.1 in
    on_ok_weaker c.write.result (λ short. omega (arith, short, ap length code)) c.write.ensures.short

pub returns-then-places-eq0-clause-too_long : goal.returns-then-places-eq0-clause-too_long
returns-then-places-eq0-clause-too_long c =
    let parts = parts_of c.lengthen.ensures.keys c.lengthen.ensures.places c.places.ensures c.if-places-eq0.true in
    let code : all_digits c.keys.result.now ≡ encode c.args.label.now = ap all_digits c.keys.ensures ∙ all_digits-whole c.requires.few parts.0 parts.1 in
    on_err_weaker c.write.result (λ long. omega (arith, long, ap length code)) c.write.ensures.too_long
