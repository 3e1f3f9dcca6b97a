use Rattle.std.proofs.Common.{◌≡◌, length, sym, ◌∙◌, arith}
use Rattle.std.specs.Cmp.Lexicographic.{bytes_decides}
use Rattle.std.proofs.lemmas.List.{get_or_default, same_lists}
use Rattle.idn_cause.proofs.a_label.is_same.Goals as goal

pub returns : goal.returns
returns c =
    let octets = c.as_bytes-octets.result.now in
    let given = c.args.given.now in
    let long : length octets ≡ length given = omega (arith, c.if-octets-given.false) in
    let past = c.loop-place-test.false in
    let same : octets ≡ given = same_lists octets given long (λ k d low.
    get_or_default octets k d 0 low ∙ c.loop-place.invariant k (omega arith) ∙ get_or_default given k 0 d (omega (arith, long))) in
    sym ((bytes_decides _ _).1 (sym (c.as_bytes-octets.ensures.value ∙ c.as_str.ensures.value) ∙ same))
