use Rattle.std.proofs.Common.{◌≡◌, ◌<◌, ◌+◌, ◌-◌, [], ◌∷◌, List, ℕ, get_or, length, take, refl, sym, ap, ap₂, ◌∙◌, arith}
use Rattle.std.proofs.lemmas.List.{take_all}
use Rattle.idn_punycode.specs.declared.encoding.Progress.{Progress}
use Rattle.idn_punycode.specs.inner.Digits.{after_all}
use Rattle.idn_punycode.specs.inner.Progress.{after, after_basic}
use Rattle.idn_punycode.proofs.ProgressSteps.{after_keys-none, after_all-turn, after_all-handled}
use Rattle.idn_punycode.proofs.cached_digits.CachedDigits.after_cached.Goals as goal

-- a list without elements
none_of : (xs : List ℕ) → length xs ≡ 0 → [] ≡ xs
none_of [] none = refl
none_of (x ∷ xs) none = absurd (omega (arith, none))

pub returns-then-len-eq0 : goal.returns-then-len-eq0
returns-then-len-eq0 c =
    let keys = c.args.self.now.keys in
    let none : [] ≡ keys = none_of keys (omega (arith, c.if-len-eq0.true, ap length c.keys-own.ensures.value)) in
    c.after_basic.ensures ∙ sym (after_keys-none 0 (after_basic 0)) ∙ ap after_all none

pub returns : goal.returns
returns c =
    let keys = c.args.self.now.keys in
    let own = c.keys-own.result.now in
    let n = length own - 1 in
    let inside = take c.self.inside.len c.self.inside.keys in
    let view : inside ≡ keys = ap (λ w. w.keys) c.self.view_is in
    let whole : length own ≡ length keys = ap length c.keys-own.ensures.value in
    let last : n < length keys = omega (arith, whole, c.if-len-eq0.false) in
    let p = after_all (take n keys) in
    let turn = after_all-turn n keys last in
    let end : take (n + 1) keys ≡ keys = take_all (n + 1) keys (omega (arith, whole)) in
    let handled : n ≡ p.handled = sym (after_all-handled n keys (omega (arith, last))) in
    let key : get_or own n 0 ≡ get_or keys n 0 = ap (λ ks. get_or ks n 0) c.keys-own.ensures.value in
    let bias = c.self.invariant.2 n 0 (omega (arith, last, ap length view)) ∙ ap (λ ks. (after_all (take (n + 1) ks)).bias) view ∙ ap (λ (q : Progress). q.bias) turn in
    c.after.ensures
    ∙ ap (λ h. after h (get_or own n 0) (get_or c.self.inside.biases n 0)) handled
    ∙ ap₂ (λ k b. after p.handled k b) key bias
    ∙ sym turn
    ∙ ap after_all end
