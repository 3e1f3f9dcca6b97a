use Rattle.std.proofs.Common.{◌≡◌, length}
use Rattle.std.specs.Option.{option_or}
use Rattle.ruleset_text.specs.ActionForms.{stage}
use Rattle.ruleset_text.specs.ActionSteps.{Begin, ended, step}
use Rattle.ruleset_text.specs.DefinitionReading.{action_read}
use Rattle.ruleset_text.specs.LineStops.{read_from}
use Rattle.ruleset_text.specs.inner.ActionNoted.{unknown_from}
use Rattle.ruleset_text.specs.inner.DefinitionSteps.{known}
use Rattle.ruleset_text.proofs.action_reading.read_action.Given as goal

-- what is read is what the stage leads to, over the lexemes that are left; the name that is told is one of those before, or else of those
-- that are left
abbrev pub invariant-loop-place : goal.invariant-loop-place
invariant-loop-place l = record {
  read : read_from step ended l.end (stage l.stage) l.lexemes ≡ action_read l.end l.fn.lexemes;
  unknown : option_or l.unknown (unknown_from (known l.earlier) (stage l.stage) l.lexemes) ≡ unknown_from (known l.earlier) Begin l.fn.lexemes;
}

abbrev pub decreases-loop-place : goal.decreases-loop-place
decreases-loop-place l = length l.lexemes
