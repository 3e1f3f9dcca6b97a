use Rattle.std.proofs.Common.{◌≡◌, ◌≤◌, [], length, take, ◌-◌, ◌^◌}
use Rattle.idn_text.specs.Lines.{HasNoFeed}
use Rattle.idn_text.specs.inner.TakenLines.{TakesLine}
use Rattle.idn_text.proofs.buffered_reader.BufferedReader.take_line.Given as goal

-- nothing was taken, each read call gave bytes and none failed, and those that were searched have no line feed
abbrev pub invariant-reads : goal.invariant-reads
invariant-reads g l = record {
  takes : TakesLine l.initial.self l.self [] [] 0;
  no_fault : l.self.reader.faults ≡ l.initial.self.reader.faults;
  within : l.searched ≤ length l.self.held;
  no_feed : HasNoFeed (take l.searched l.self.held);
}

abbrev pub decreases-reads : goal.decreases-reads
decreases-reads g l = 2 ^ 40 - l.self.reads
