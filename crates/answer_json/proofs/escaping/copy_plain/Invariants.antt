use Rattle.std.proofs.Common.{◌≡◌, ◌≤◌, ◌-◌, take, length}
use Rattle.answer_json.specs.inner.Texts.{is_plain}
use Rattle.answer_json.proofs.escaping.copy_plain.Given as goal

-- the first bytes are copied, and known to stand as they are or not
abbrev pub invariant-loop-at : goal.invariant-loop-at
invariant-loop-at l = record {
  plain : l.plain ≡ is_plain (take l.at l.text);
  copied : take l.at l.copy ≡ take l.at l.text;
  within : l.at ≤ length l.text;
}

abbrev pub decreases-loop-at : goal.decreases-loop-at
decreases-loop-at l = l.last - l.at
