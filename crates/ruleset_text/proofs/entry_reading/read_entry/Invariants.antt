use Rattle.std.proofs.Common.{◌≡◌, Some, length}
use Rattle.ruleset_text.specs.EntryForms.{notes}
use Rattle.ruleset_text.specs.EntrySteps.{state, start, step_in, ended, entry_read}
use Rattle.ruleset_text.specs.LineStops.{read_from}
use Rattle.ruleset_text.specs.PlacedLexemes.{placed_lexemes}
use Rattle.ruleset_text.specs.inner.EntryNoted.{noted_from, nothing_noted}
use Rattle.ruleset_text.proofs.entry_reading.read_entry.Given as goal

-- what the lexemes that are left lead to from the state is what all lead to, and so is what is noted
abbrev pub invariant-loop-place : goal.invariant-loop-place
invariant-loop-place l = record {
  read : read_from (step_in l.parts) ended (length l.line) (state l.state) l.lexemes ≡ entry_read l.parts l.line;
  noted : noted_from l.definitions (notes l.notes) (Some (state l.state)) l.lexemes ≡ noted_from l.definitions nothing_noted (Some start) (placed_lexemes l.line);
}

abbrev pub decreases-loop-place : goal.decreases-loop-place
decreases-loop-place l = length l.lexemes
