use Rattle.std.proofs.Common.{◌≡◌, ◌<◌, ◌∷◌, [], ◌++◌, get_or, length, refl, sym, ap, ap₂, ◌∙◌, arith}
use Rattle.std.proofs.lemmas.List.{take_more}
use Rattle.idn_punycode.proofs.cached_digits.CachedDigits.shared_len.Goals as goal

pub loop-at-init : goal.loop-at-init
loop-at-init c = record {
  few = omega (arith, c.min-len.ensures, ap length c.keys-own.ensures.value);
  same = refl;
  within = omega arith;
}

pub loop-at-preserved : goal.loop-at-preserved
loop-at-preserved c =
    let i = c.loop-at.invariant in
    let at = c.loop-at.at in
    let own = c.args.self.now.keys in
    let others = c.args.keys.now in
    let in_others : at < length others = omega (arith, c.min-len.ensures, c.loop-at-test.true) in
    let here : at < length own = omega (arith, i.few, c.loop-at-test.true) in
    let key_is : get_or own at 0 ≡ get_or c.keys-own.result.now at 0 = ap (λ ks. get_or ks at 0) (sym c.keys-own.ensures.value) in
    record {
      same = take_more own at 0 here ∙ ap₂ (λ xs x. xs ++ x ∷ []) i.same (key_is ∙ c.if-own-at.true) ∙ sym (take_more others at 0 in_others);
      few = i.few;
      within = omega (arith, here);
    }
