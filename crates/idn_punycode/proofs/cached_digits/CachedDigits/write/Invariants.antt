use Rattle.std.proofs.Common.{◌≡◌, ◌≤◌, ◌++◌, codes, length, take}
use Rattle.idn_punycode.specs.inner.Digits.{AreOfKeys, all_digits, after_all, bias_after, end_after}
use Rattle.idn_punycode.proofs.cached_digits.CachedDigits.write.Given as goal

-- the keys before the place are written, and nothing is kept yet
abbrev pub invariant-loop-at : goal.invariant-loop-at
invariant-loop-at l = record {
  progress : l.progress ≡ after_all (take l.at l.keys);
  text : l.text.bytes ≡ codes "xn--" ++ all_digits (take l.at l.keys);
  short : length l.text.bytes ≤ 63;
  copied : take l.at l.self-inside.keys ≡ take l.at l.keys;
  biases : AreOfKeys bias_after (take l.at l.keys) l.self-inside.biases;
  ends : AreOfKeys end_after (take l.at l.keys) l.self-inside.ends;
  none : l.self-inside.len ≡ 0;
  keys_size : length l.self-inside.keys ≡ 63;
  biases_size : length l.self-inside.biases ≡ 63;
  ends_size : length l.self-inside.ends ≡ 63;
}
