-- Which lines are an entry or a range with no other parts than these, and where another line stops being one.
use Rattle.std.specs.Prelude.{ℕ, IsTrue, List, length}
use Rattle.ruleset_text.specs.declared.entry_parts.EntryParts.{EntryParts}
use Rattle.ruleset_text.specs.declared.fault.FaultPlace.{FaultPlace}
use Rattle.ruleset_text.specs.Entries.{EntryForm}
use Rattle.ruleset_text.specs.EntryParts.{has_parts}
use Rattle.ruleset_text.specs.EntryText.{IsForm}
use Rattle.ruleset_text.specs.EntryWords.{AreWords, entry_words, IsEntryLine}
use Rattle.ruleset_text.specs.LineStops.{IsLineStop}
use Rattle.ruleset_text.specs.PlacedLexemes.{placed_lexemes}

-- the line spells this one
abbrev pub IsEntryOf : EntryParts → List ℕ → EntryForm → Type 0
IsEntryOf parts line form = IsEntryLine form line × IsTrue (has_parts parts form)

-- the lexemes spell one
abbrev pub AreEntry : EntryParts → List (List ℕ) → Type 0
AreEntry parts ws =
    (form : EntryForm) × IsForm form.mapped form.last × IsTrue (has_parts parts form)
    × AreWords (entry_words form.mapped form.last) ws

-- the line stops being one there
abbrev pub IsEntryStop : EntryParts → List ℕ → FaultPlace → Type 0
IsEntryStop parts line place = IsLineStop (AreEntry parts) (placed_lexemes line) (length line) place
