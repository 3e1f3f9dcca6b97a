use Rattle.std.proofs.Common.{◌≡◌, ◌≤◌, ◌+◌, false, take}
use Rattle.xml_text.specs.LineEnds.{line_after, line_feeds, return_after}
use Rattle.xml_text.proofs.lines.line_after.Given as goal

-- the line after the bytes so far
abbrev pub invariant-loop-byte : goal.invariant-loop-byte
invariant-loop-byte l = record {
  is : l.line ≡ line_after 1 (line_feeds (take l.byte-index l.text));
  after : l.is_after_return ≡ return_after false (take l.byte-index l.text);
  few : l.line ≤ l.byte-index + 1;
}
