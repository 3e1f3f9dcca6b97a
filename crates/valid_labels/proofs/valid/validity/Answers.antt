use Rattle.valid_labels.proofs.AdmissionLemmas.{disposed-valid}
use Rattle.valid_labels.proofs.DeadPrefixPlaces.{valid-not-dead}
use Rattle.valid_labels.proofs.valid.validity.Goals as goal

pub returns-then-is_disposed : goal.returns-then-is_disposed
returns-then-is_disposed c =
    let same = disposed-valid c.args.segments.now c.args.label.now c.recall_soundness.ensures.asks in
    let valid = same.0 (c.is_disposed.ensures.0 c.if-is_disposed.true) in
    (valid, valid-not-dead c.args.segments.now c.args.label.now c.recall_soundness.ensures.sound valid)
