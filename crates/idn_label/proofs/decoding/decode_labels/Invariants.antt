use Rattle.std.proofs.Common.{◌≡◌, ◌≤◌, ◌-◌, drop, length}
use Rattle.idn_label.specs.Decode.{decoded_name}
use Rattle.idn_label.proofs.DecodeLemmas.{appended}
use Rattle.idn_label.proofs.decoding.decode_labels.Given as goal

abbrev pub invariant-labels : goal.invariant-labels
invariant-labels l = (decoded_name l.properties l.name ≡ appended l.decoded.items (decoded_name l.properties (drop l.start l.name))) × (l.start ≤ length l.name)
    × (length l.decoded.items ≤ l.start)

abbrev pub decreases-labels : goal.decreases-labels
decreases-labels l = length l.name - l.start
