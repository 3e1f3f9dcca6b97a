-- The repertoire of a ruleset: the sequences that its entries have (RFC 7940, section 5), less those that no label may
-- have.
use Rattle.std.specs.Prelude.{ℕ, ◌+◌, ◌-◌, Bool, List, [], ◌∷◌, bytes_eq, filter, is_some, map}
use Rattle.std.specs.List.{flat_map, list_all, list_any, range_with_len}
use Rattle.lgr_text.specs.Records.{Entry, Range, Ruleset, Sequence, Source, Variant}

-- a range is an entry for each code point in it
abbrev pub sources : Source → List (List ℕ)
sources (Sequence points) = points ∷ []
sources (Range span) = map (λ c. c ∷ []) (range_with_len span.first (span.last + 1 - span.first))

-- each code point is one that labels may have
abbrev pub may_be : (ℕ → Bool) → List ℕ → Bool
may_be may points = list_all may points

abbrev pub kept_sources : (ℕ → Bool) → Entry → List (List ℕ)
kept_sources may e = filter (may_be may) (sources e.source)

-- an entry with one of its sources
pub record Piece : Type 0 where
  pub entry : Entry
  pub source : List ℕ

abbrev pub piece_with : Entry → List ℕ → Piece
piece_with e source = record { entry = e; source = source }

abbrev pub pieces : (ℕ → Bool) → Ruleset → List Piece
pieces may r = flat_map (λ e. map (piece_with e) (kept_sources may e)) r.entries

-- a variant that is its source is reflexive: its type is that of the source (section 5.3.4)
abbrev pub is_reflexive : List ℕ → Variant → Bool
is_reflexive source v = bytes_eq v.points source

-- some variant has a type
abbrev pub has_types : List Entry → Bool
has_types entries = list_any (λ e. list_any (λ v. is_some v.type_name) e.variants) entries
