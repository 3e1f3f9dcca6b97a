-- What a step of reading an entry notes of its lexeme.
use Rattle.std.specs.Prelude.{ℕ, ◌++◌, Option, Some, None, List, [], ◌∷◌, length, Bool, if◌then◌else◌}
use Rattle.std.specs.Option.{option_map, option_or}
use Rattle.ruleset_text.specs.declared.entry_notes.LinePoint.{LinePoint}
use Rattle.ruleset_text.specs.declared.entry_reading.Phase.{Phase}
use Rattle.ruleset_text.specs.declared.entry_reading.Phase.TheVariants as phase
use Rattle.ruleset_text.specs.declared.fault.FaultPlace.{FaultPlace}
use Rattle.ruleset_text.specs.Definitions.{Definitions, type_names}
use Rattle.ruleset_text.specs.EntryFaults.{Notes, begin_places, past_place, unknown_place}
use Rattle.ruleset_text.specs.EntrySteps.{State, step}
use Rattle.ruleset_text.specs.EntryWords.{Word, Point, TypeName, Rule, point_of}
use Rattle.ruleset_text.specs.LineFaults.{bad_place}
use Rattle.ruleset_text.specs.PlacedLexemes.{Placed}

abbrev pub nothing_noted : Notes
nothing_noted = record { begins = []; faults = record { limit = None; name = None; class = None } }

-- notes, and those of what follows: of each kind the first fault stays
abbrev pub and_notes : Notes → Notes → Notes
and_notes n m = record {
  begins = n.begins ++ m.begins;
  faults = record {
    limit = option_or n.faults.limit m.faults.limit;
    name = option_or n.faults.name m.faults.name;
    class = option_or n.faults.class m.faults.class;
  };
}

-- those of a code point, and of the name of a type or of a rule
abbrev pub point_notes : Definitions → LinePoint → Notes
point_notes d p = record {
  begins = begin_places (p ∷ []);
  faults = record { limit = past_place p; name = None; class = bad_place d.properties p.place (Some p.point) };
}

abbrev pub unless_defined : Bool → FaultPlace → Option FaultPlace
unless_defined is_defined at = if is_defined then None else Some at

abbrev pub name_notes : Option FaultPlace → Notes
name_notes place = record { begins = []; faults = record { limit = None; name = place; class = None } }

-- those of a word, where so many sequences stand before, and so many code points of the sequence
abbrev pub word_notes : Definitions → ℕ → ℕ → Word → Placed → Notes
word_notes d s i (Point c) w = point_notes d (record { place = w.place; point = c; sequence = s; index = i })
word_notes d s i word w = name_notes (unknown_place d word w)

-- the names of which one stands next, where a name does
abbrev pub names_next : Definitions → Phase → List (List ℕ)
names_next d phase.As = type_names d
names_next d p = d.rule_names

-- the code point or the name that a lexeme is, if it is one
abbrev pub noted_word : Phase → List ℕ → Option Word
noted_word phase.Begin w = option_map Point (point_of w)
noted_word phase.Mark w = option_map Point (point_of w)
noted_word phase.Hyphen w = option_map Point (point_of w)
noted_word phase.Range w = option_map Point (point_of w)
noted_word phase.As w = Some (TypeName w)
noted_word phase.When w = Some (Rule w)
noted_word phase.Unless w = Some (Rule w)
noted_word p w = None

abbrev pub with_word : Definitions → ℕ → ℕ → Option Word → Placed → Notes → Notes
with_word d s i None w n = n
with_word d s i (Some word) w n = and_notes n (word_notes d s i word w)

-- the notes with a code point more, if the lexeme is one
abbrev pub point_noted : Definitions → State → Placed → Notes → Notes
point_noted d s w n = with_word d (length s.done) (length s.current.points) (option_map Point (point_of w.lexeme)) w n

-- the notes with a lexeme more, which is read at a state
abbrev pub noted : Definitions → State → Placed → Notes → Notes
noted d s w n = with_word d (length s.done) (length s.current.points) (noted_word s.phase w.lexeme) w n

-- those after all lexemes
abbrev pub noted_from : Definitions → Notes → Option State → List Placed → Notes
noted_from d n s [] = n
noted_from d n None (w ∷ ws) = n
noted_from d n (Some s) (w ∷ ws) = noted_from d (noted d s w n) (step s w.lexeme) ws
