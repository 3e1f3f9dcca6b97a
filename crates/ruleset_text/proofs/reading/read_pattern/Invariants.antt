use Rattle.std.proofs.Common.{◌≡◌, ◌+◌, ◌≤◌, length}
use Rattle.std.specs.Option.{option_or}
use Rattle.ruleset_text.specs.DefinitionReading.{pattern_step, pattern_read}
use Rattle.ruleset_text.specs.LineFaults.{first_bad, first_unknown}
use Rattle.ruleset_text.specs.LineStops.{read_from}
use Rattle.ruleset_text.specs.PatternSigns.{ended_in, start}
use Rattle.ruleset_text.specs.Pieces.{state}
use Rattle.ruleset_text.specs.inner.PatternSteps.{left_after, limit_from}
use Rattle.ruleset_text.proofs.reading.read_pattern.Given as goal

-- what is read is what the state leads to, over the lexemes that are left; no more groups are open than lexemes were read; what is told
-- is told of those before, or else of those that are left
abbrev pub invariant-loop-place : goal.invariant-loop-place
invariant-loop-place l = record {
  read : read_from (pattern_step l.is_rule l.earlier.sets.now) (ended_in l.is_rule) l.end (state l.pieces.items l.signs) l.lexemes ≡ pattern_read l.is_rule l.earlier.sets.now l.end l.fn.lexemes;
  few : l.signs.groups + length l.lexemes ≤ length l.fn.lexemes;
  left : left_after l.earlier.sets.now l.atoms_left l.lexemes ≡ left_after l.earlier.sets.now l.earlier.atoms_left l.fn.lexemes;
  limit : option_or l.faults.limit (limit_from l.is_rule l.earlier.sets.now (state l.pieces.items l.signs) l.atoms_left l.lexemes)
      ≡ limit_from l.is_rule l.earlier.sets.now start l.earlier.atoms_left l.fn.lexemes;
  name : option_or l.faults.name (first_unknown l.earlier.sets.now l.lexemes) ≡ first_unknown l.earlier.sets.now l.fn.lexemes;
  class : option_or l.faults.class (first_bad l.earlier.properties l.lexemes) ≡ first_bad l.earlier.properties l.fn.lexemes;
}

abbrev pub decreases-loop-place : goal.decreases-loop-place
decreases-loop-place l = length l.lexemes
