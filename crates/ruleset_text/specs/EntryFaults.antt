-- Faults of an entry or of a range that its form alone doesn't show, and where its line has them. Places are bytes of
-- the line, counted from 0.
use Rattle.std.specs.Prelude.{ℕ, ◌+◌, ◌==◌, Option, Some, None, List, [], ◌∷◌, map, filter, slice_get, if◌then◌else◌}
use Rattle.std.specs.Option.{option_map}
use Rattle.ruleset_text.specs.declared.entry_notes.LinePoint.{LinePoint}
use Rattle.ruleset_text.specs.declared.fault.FaultPlace.{FaultPlace}
use Rattle.ruleset_text.specs.declared.fault.FaultPlace.TheVariants.{InRange, NinthPoint, SeventeenthVariant, Source}
use Rattle.ruleset_text.specs.declared.fault.FaultPlace.TheVariants.{Variant}
use Rattle.ruleset_text.specs.declared.fault.LineFaults.{LineFaults}
use Rattle.ruleset_text.specs.Definitions.{Definitions, type_names}
use Rattle.ruleset_text.specs.Entries.{EntryForm}
use Rattle.ruleset_text.specs.EntryWords.{Word, Point, TypeName, Rule, Bar, Colon, entry_words}
use Rattle.ruleset_text.specs.LineFaults.{bad_place, first_told, unknown_in}
use Rattle.ruleset_text.specs.PlacedLexemes.{Placed, placed_lexemes}

-- ---- the words of a line, and its code points

-- a word, and the lexeme that is it
pub record PlacedWord : Type 0 where
  pub word : Word
  pub at : Placed

abbrev pub placed_words : List Word → List Placed → List PlacedWord
placed_words [] ws = []
placed_words (word ∷ words) [] = []
placed_words (word ∷ words) (w ∷ ws) = record { word = word; at = w } ∷ placed_words words ws

-- those of a line that spells this
abbrev pub line_words : EntryForm → List ℕ → List PlacedWord
line_words form line = placed_words (entry_words form.mapped form.last) (placed_lexemes line)

-- what follows a word, where so many sequences stand before, and so many code points of the sequence
abbrev pub with_point : ℕ → ℕ → Word → Placed → (ℕ → ℕ → List LinePoint) → List LinePoint
with_point s i (Point c) w rest = record { place = w.place; point = c; sequence = s; index = i } ∷ rest s (i + 1)
with_point s i Bar w rest = rest (s + 1) 0
with_point s i Colon w rest = rest (s + 1) 0
with_point s i word w rest = rest s i

abbrev pub points_from : ℕ → ℕ → List PlacedWord → List LinePoint
points_from s i [] = []
points_from s i (x ∷ xs) = with_point s i x.word x.at (λ t j. points_from t j xs)

abbrev pub line_points : EntryForm → List ℕ → List LinePoint
line_points form line = points_from 0 0 (line_words form line)

-- ---- its faults

-- the ninth code point of a sequence; the first of the seventeenth variant
abbrev pub past_place : LinePoint → Option FaultPlace
past_place p =
    if p.index == 8 then Some (NinthPoint p.place p.point) else
    if p.sequence == 17 then Some (SeventeenthVariant p.place p.point) else None

-- a type or a rule that isn't defined
abbrev pub unknown_place : Definitions → Word → Placed → Option FaultPlace
unknown_place d (TypeName name) w = unknown_in (type_names d) name w
unknown_place d (Rule name) w = unknown_in d.rule_names name w
unknown_place d word w = None

-- of each kind the first: what goes past a limit, a name, a code point that no label has
abbrev pub faults_of : Definitions → List PlacedWord → List LinePoint → LineFaults
faults_of d words points = record {
  limit = first_told past_place points;
  name = first_told (λ x. unknown_place d x.word x.at) words;
  class = first_told (λ p. bad_place d.properties p.place (Some p.point)) points;
}

-- ---- what is noted of a line while it is read

-- where the source and each variant begin: the places of their first code points; and the faults
pub record Notes : Type 0 where
  pub begins : List ℕ
  pub faults : LineFaults

abbrev pub begin_places : List LinePoint → List ℕ
begin_places points = map (λ p. p.place) (filter (λ p. p.index == 0) points)

-- the variant of this number, if it is given one; the source; and a range, if it is given one of its code points
abbrev pub variant_place : List ℕ → Option ℕ → Option FaultPlace
variant_place begins None = None
variant_place begins (Some number) = option_map Variant (slice_get begins number)

abbrev pub source_place : List ℕ → Option FaultPlace
source_place begins = option_map Source (slice_get begins 0)

abbrev pub range_place : List ℕ → Option ℕ → Option FaultPlace
range_place begins None = None
range_place begins (Some c) = option_map (λ place. InRange place c) (slice_get begins 0)

-- of an entry or of a range that a line spells, after these definitions
abbrev pub notes_of : Definitions → EntryForm → List ℕ → Notes
notes_of d form line =
    record {
      begins = begin_places (line_points form line);
      faults = faults_of d (line_words form line) (line_points form line);
    }
