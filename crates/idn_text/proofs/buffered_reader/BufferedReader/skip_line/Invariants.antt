use Rattle.std.proofs.Common.{◌≡◌, ℕ, List, [], None, ◌-◌, ◌^◌}
use Rattle.idn_text.specs.inner.TakenLines.{TakesLine}
use Rattle.idn_text.proofs.buffered_reader.BufferedReader.skip_line.Given as goal

-- bytes without a line feed were taken, each read call gave some and none failed, and nothing is held
abbrev pub invariant-reads : goal.invariant-reads
invariant-reads g l = record {
  rest : List ℕ;
  takes : TakesLine l.initial.self l.self rest [] 0;
  no_fault : l.self.reader.faults ≡ l.initial.self.reader.faults;
  held : l.self.held ≡ [];
  too_long : l.self.line ≡ None;
}

abbrev pub decreases-reads : goal.decreases-reads
decreases-reads g l = 2 ^ 40 - l.self.reads
