use Rattle.std.proofs.Common.{◌≡◌, ◌<◌, ◌≤◌, ◌+◌, ◌-◌, ◌++◌, [], codes, List, ℕ, get_or, length, length-take, take, sym, ap, subst, ◌∙◌, arith}
use Rattle.std.proofs.lemmas.List.{take-take}
use Rattle.std.proofs.lemmas.Str.{IsAscii-take}
use Rattle.std.specs.Str.{IsAscii}
use Rattle.idn_punycode.specs.inner.Digits.{AreOfKeys, all_digits, bias_after, end_after}
use Rattle.idn_punycode.specs.inner.Progress.{after_basic}
use Rattle.idn_punycode.proofs.ProgressSteps.{AreOfKeys-take, digits_of_keys-none, take-digits}
use Rattle.idn_punycode.proofs.cached_digits.CachedDigits.keep.Goals as goal

-- what a text that has the digits of all keys has before the end of the first ones
begun : (count end : ℕ) (keys text ends : List ℕ) → 0 < count → count ≤ length keys → text ≡ codes "xn--" ++ all_digits keys → AreOfKeys end_after keys ends → end ≡ get_or ends (count - 1) 0 → take end text ≡ codes "xn--" ++ all_digits (take count keys)
begun count end keys text ends some within digits are is =
    let last : (count - 1) + 1 ≡ count = omega (arith, some) in
    ap (λ n. take n text) (is ∙ are (count - 1) 0 (omega (arith, within, some)) ∙ ap (λ n. end_after (take n keys)) last)
    ∙ ap (take (end_after (take count keys))) digits
    ∙ ap (λ xs. codes "xn--" ++ xs) (take-digits count keys)

pub returns-then-count-eq0-clause-text : goal.returns-then-count-eq0-clause-text
returns-then-count-eq0-clause-text c =
    let keys = c.args.self.now.keys in
    let none : take c.args.count keys ≡ [] = ap (λ n. take n keys) c.if-count-eq0.true in
    c.push_str.ensures.bytes
    ∙ ap (λ xs. xs ++ codes "xn--") c.clear.ensures
    ∙ ap (λ xs. codes "xn--" ++ xs) (sym (ap all_digits none ∙ digits_of_keys-none 0 (after_basic 0)))

pub returns-else-count-eq0-clause-text : goal.returns-else-count-eq0-clause-text
returns-else-count-eq0-clause-text c =
    let count = c.args.count in
    let keys = take c.self.inside.len c.self.inside.keys in
    let keys_are = ap (λ w. w.keys) c.self.view_is in
    let within : count ≤ length keys = omega (arith, ap length keys_are, c.requires) in
    let some : 0 < count = omega (arith, c.if-count-eq0.false) in
    let written = c.self.invariant.1 (omega (arith, within, some)) in
    c.truncate.ensures
    ∙ begun count _ keys c.self.inside.text.bytes c.self.inside.ends some within written.0 c.self.invariant.3 c.from.ensures
    ∙ ap (λ ks. codes "xn--" ++ all_digits (take count ks)) keys_are

pub invariant_of-self-else-count-eq0 : goal.invariant_of-self-else-count-eq0
invariant_of-self-else-count-eq0 c =
    let count = c.args.count in
    let all : List ℕ = c.self.inside.keys in
    let len = c.self.inside.len in
    let keys = take len all in
    let within : count ≤ length keys = omega (arith, ap (λ w. length w.keys) c.self.view_is, c.requires) in
    let fits : count ≤ len = omega (arith, within, length-take len all) in
    let some : 0 < count = omega (arith, c.if-count-eq0.false) in
    let written = c.self.invariant.1 (omega (arith, within, some)) in
    let text = c.self.inside.text.bytes in
    let is : take count keys ≡ take count all = take-take count len all fits in (
      omega (arith, fits, c.self.invariant.0),
      λ _. (
        c.truncate.ensures ∙ begun count _ keys text c.self.inside.ends some within written.0 c.self.invariant.3 c.from.ensures ∙ ap (λ ks. codes "xn--" ++ all_digits ks) is,
        subst IsAscii (sym c.truncate.ensures) (IsAscii-take text c.from.result written.1),
        omega (arith, written.2, ap length c.truncate.ensures, length-take c.from.result text),
      ),
      subst (λ ks. AreOfKeys bias_after ks c.self.inside.biases) is (AreOfKeys-take bias_after keys c.self.inside.biases count c.self.invariant.2),
      subst (λ ks. AreOfKeys end_after ks c.self.inside.ends) is (AreOfKeys-take end_after keys c.self.inside.ends count c.self.invariant.3),
    )
