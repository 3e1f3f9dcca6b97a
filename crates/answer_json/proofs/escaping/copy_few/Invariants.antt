use Rattle.std.proofs.Common.{◌≡◌, take}
use Rattle.answer_json.specs.inner.Texts.{is_plain}
use Rattle.answer_json.proofs.escaping.copy_few.Given as goal

abbrev pub invariant-loop-at : goal.invariant-loop-at
invariant-loop-at l = record {
  plain : l.plain ≡ is_plain (take l.at l.text);
  copied : take l.at l.copy ≡ take l.at l.text;
}
