use Rattle.std.proofs.Common.{◌≡◌, ◌≤◌, ◌-◌, ◌*◌, false, length, take, drop, chars, All}
use Rattle.std.specs.Str.{IsUtf8}
use Rattle.idna.specs.Labels.{labels_of}
use Rattle.idn_class.specs.Facts.{contains}
use Rattle.idn_class.specs.declared.facts.Fact.TheVariants.{RightToLeft}
use Rattle.idn_label.specs.Decode.{decoded_name}
use Rattle.idn_label.specs.inner.DecodedNames.{KeepsLeftToRight, decoded_utf8}
use Rattle.idn_label.specs.Memory.{DecodesWithoutMemory}
use Rattle.idn_label.specs.Steps.{in_utf8}
use Rattle.idn_label.proofs.DecodeLemmas.{appended}
use Rattle.idn_label.proofs.decoding.decode_utf8_labels.Given as goal

-- what is left of the name, decoded after the text so far, is the whole name decoded, and if it gets no R, AL or AN by that, nor
-- does the whole name
abbrev pub invariant-labels : goal.invariant-labels
invariant-labels l = record {
  text : decoded_utf8 l.properties l.name ≡ appended (take l.len l.room) (in_utf8 (decoded_name l.properties (chars (drop l.start l.name))));
  keeps : contains l.facts RightToLeft ≡ false → KeepsLeftToRight l.properties (labels_of (chars (drop l.start l.name))) → KeepsLeftToRight l.properties (labels_of (chars l.name));
  utf8 : IsUtf8 (drop l.start l.name);
  begun : l.start ≤ length l.name;
  short : l.len ≤ 4 * l.start;
  room : length l.room ≡ length l.initial.room;
  no_memory : All DecodesWithoutMemory (labels_of l.name) → All DecodesWithoutMemory (labels_of (drop l.start l.name));
}

abbrev pub decreases-labels : goal.decreases-labels
decreases-labels l = length l.name - l.start
