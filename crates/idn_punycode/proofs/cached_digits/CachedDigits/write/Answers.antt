use Rattle.std.proofs.Common.{rules, ◌≡◌, ◌<◌, ◌+◌, ◌∷◌, [], ◌++◌, codes, get_or, length, take, sym, ap, ap₂, ◌∙◌, subst, arith}
use Rattle.std.proofs.lemmas.List.{take_more, take_more_set, length-set}
use Rattle.idn_punycode.specs.inner.Digits.{AreOfKeys, all_digits, after_all, bias_after, end_after}
use Rattle.idn_punycode.specs.inner.Progress.{after_key, digits_of_key}
use Rattle.idn_punycode.proofs.ResultLemmas.{OnErr-always}
use Rattle.idn_punycode.proofs.ProgressSteps.{AreOfKeys-more, all_digits-turn, after_all-turn, end_after-le}
use Rattle.idn_punycode.proofs.cached_digits.CachedDigits.write.Goals as goal

pub loop-at-init : goal.loop-at-init
loop-at-init c =
    let kept = c.shared_len-kept.result in
    let keys = c.args.keys.now in
    let view : take kept c.args.self.now.keys ≡ take kept keys = c.shared_len-kept.ensures.same in
    let inside = c.self.inside in
    let inv = c.self.invariant in
    let is : take inside.len inside.keys ≡ take kept keys = ap (λ w. w.keys) c.self.view_is ∙ c.keep.ensures.keys ∙ view in
    record {
      progress = c.after_cached-progress.ensures ∙ ap after_all (c.keep.ensures.keys ∙ view);
      text = ap (λ w. w.text) c.self.view_is ∙ c.keep.ensures.text ∙ ap (λ ks. codes "xn--" ++ all_digits ks) view;
      short = omega (arith, ap (λ w. length w.text) c.self.view_is, c.keep.ensures.short);
      copied = search rules;
      biases = subst (λ ks. AreOfKeys bias_after ks inside.biases) is inv.2;
      ends = subst (λ ks. AreOfKeys end_after ks inside.ends) is inv.3;
      none = search rules;
      keys_size = search rules;
      biases_size = search rules;
      ends_size = search rules;
    }

pub returns-in_err-progress-clause-too_long : goal.returns-in_err-progress-clause-too_long
returns-in_err-progress-clause-too_long c =
    let i = c.loop-at.invariant in
    let keys = c.args.keys.now in
    let at = c.loop-at.at in
    let key = get_or keys at 0 in
    let code : c.loop-at.text.bytes ++ digits_of_key c.loop-at.progress key ≡ codes "xn--" ++ all_digits (take (at + 1) keys) =
    ap₂ (λ xs p. xs ++ digits_of_key p key) i.text i.progress ∙ ap (λ xs. codes "xn--" ++ xs) (sym (all_digits-turn at keys c.loop-at-test.true)) in
    OnErr-always c.from_residual.result
    (omega (arith, c.in_err-progress.ensures.full, ap length code, end_after-le (at + 1) keys))

pub loop-at-preserved : goal.loop-at-preserved
loop-at-preserved c =
    let i = c.loop-at.invariant in
    let keys = c.args.keys.now in
    let at = c.loop-at.at in
    let lt : at < length keys = c.loop-at-test.true in
    let key = get_or keys at 0 in
    let inside = c.loop-at.self-inside in
    let after : c.in_ok-progress.progress ≡ after_all (take (at + 1) keys) =
    c.in_ok-progress.ensures.after ∙ ap (λ p. after_key 0 p key) i.progress ∙ sym (after_all-turn at keys lt) in
    let text : c.write_key.new.text.bytes ≡ codes "xn--" ++ all_digits (take (at + 1) keys) =
    c.in_ok-progress.ensures.ok ∙ ap₂ (λ xs p. xs ++ digits_of_key p key) i.text i.progress ∙ ap (λ xs. codes "xn--" ++ xs) (sym (all_digits-turn at keys lt)) in
    record {
      progress = after;
      text = text;
      short = c.in_ok-progress.ensures.short;
      copied =
          take_more_set inside.keys at key (omega (arith, i.keys_size, lt, c.requires.few))
          ∙ ap (λ xs. xs ++ key ∷ []) i.copied
          ∙ sym (take_more keys at 0 lt);
      biases = AreOfKeys-more bias_after keys inside.biases at _ i.biases lt (omega (arith, i.biases_size, lt, c.requires.few)) (c.bias.ensures ∙ ap (λ p. p.bias) after);
      ends = AreOfKeys-more end_after keys inside.ends at _ i.ends lt (omega (arith, i.ends_size, lt, c.requires.few)) (omega (arith, c.len.ensures.value, ap length text, c.in_ok-progress.ensures.short));
      none = i.none;
      keys_size = length-set inside.keys at key ∙ i.keys_size;
      biases_size = length-set inside.biases at _ ∙ i.biases_size;
      ends_size = length-set inside.ends at _ ∙ i.ends_size;
    }
