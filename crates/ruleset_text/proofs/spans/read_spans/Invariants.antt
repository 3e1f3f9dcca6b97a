use Rattle.std.proofs.Common.{◌≡◌, None, length}
use Rattle.std.specs.Option.{option_or}
use Rattle.ruleset_text.specs.DefinitionReading.{spans_step, spans_ended, spans_read}
use Rattle.ruleset_text.specs.inner.Rising.{IsRising}
use Rattle.ruleset_text.specs.LineFaults.{first_bad}
use Rattle.ruleset_text.specs.LineStops.{read_from}
use Rattle.ruleset_text.specs.Spans.{state}
use Rattle.ruleset_text.proofs.spans.read_spans.Given as goal

-- what is read is what the spans so far lead to, which rise, over the lexemes that are left; the code point that is told is one of those
-- before, or else of those that are left
abbrev pub invariant-loop-place : goal.invariant-loop-place
invariant-loop-place l = record {
  read : read_from spans_step spans_ended l.end (state l.spans.items l.held) l.lexemes ≡ spans_read l.end l.fn.lexemes;
  rising : IsRising l.spans.items l.held;
  limit : l.faults.limit ≡ None;
  name : l.faults.name ≡ None;
  class : option_or l.faults.class (first_bad l.properties l.lexemes) ≡ first_bad l.properties l.fn.lexemes;
}

abbrev pub decreases-loop-place : goal.decreases-loop-place
decreases-loop-place l = length l.lexemes
