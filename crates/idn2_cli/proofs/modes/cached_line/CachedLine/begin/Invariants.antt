use Rattle.std.proofs.Common.{◌≡◌, ◌-◌, length, take}
use Rattle.idn_text.specs.Points.{utf8_of}
use Rattle.idn2_cli.specs.inner.CachedLines.{IsBegun}
use Rattle.idn2_cli.proofs.modes.cached_line.CachedLine.begin.Given as goal

-- the line of the code points so far
abbrev pub invariant-loop-self : goal.invariant-loop-self
invariant-loop-self l = record {
  begun : IsBegun l.label l.self;
  line : l.self.line ≡ utf8_of (take l.self.count l.label);
}

abbrev pub decreases-loop-self : goal.decreases-loop-self
decreases-loop-self l = length l.label - l.self.count
