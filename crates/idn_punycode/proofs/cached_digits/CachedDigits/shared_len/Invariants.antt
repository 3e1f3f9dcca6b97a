use Rattle.std.proofs.Common.{◌≡◌, ◌≤◌, ◌-◌, length, take}
use Rattle.idn_punycode.proofs.cached_digits.CachedDigits.shared_len.Given as goal

abbrev pub invariant-loop-at : goal.invariant-loop-at
invariant-loop-at l = record {
  same : take l.at l.self.keys ≡ take l.at l.keys;
  few : l.len ≤ length l.self.keys;
  within : l.at ≤ length l.self.keys;
}

abbrev pub decreases-loop-at : goal.decreases-loop-at
decreases-loop-at l = l.len - l.at
