-- What the cells of a board say of the readings of a label: a column for each length of what is spelled, a cell in it
-- for each place of the label.
use Rattle.std.specs.Prelude.{◌≡◌, ℕ, ◌+◌, ◌*◌, ◌<◌, ◌≤◌, ◌↔◌, List, [], ◌∷◌, ◌++◌, length, take, slice_index}
use Rattle.std.specs.Prelude.{slice_index_or, Contains}
use Rattle.std.specs.Int.{bit_at}
use Rattle.reading_kinds.specs.Readings.{Substitution, substitutions_at, SubstitutionsSpell, HasKind}
use Rattle.reading_kinds.specs.declared.board.Size.{Size}
use Rattle.reading_kinds.specs.declared.board.Words.{Words}

-- the words of each cell, place by place, one for each column; of each column, which cells are reached
pub record Cells : Type 0 where
  pub size : Size
  pub words : List Words
  pub reached : List ℕ

-- the words of the cell of a place in a column
abbrev pub words_at : Cells → ℕ → ℕ → Words
words_at cells column place =
    slice_index_or cells.words (place * cells.size.columns + column) (record { has = 0; lacks = 0 })

-- what a cell tells: that it is reached, or that this kind is there, or is missing
pub data Mark : Type 0 where
  Reached : Mark
  Has : ℕ → Mark
  Lacks : ℕ → Mark

abbrev pub InWords : Words → Mark → Type 0
InWords words Reached = Unit {0}
InWords words (Has k) = (k < 64) × (bit_at words.has k ≡ 1)
InWords words (Lacks k) = (k < 64) × (bit_at words.lacks k ≡ 1)

-- the cell of a place in a column tells it; the words count only where the cell is reached
pub record Tells (cells : Cells) (column place : ℕ) (m : Mark) : Type 0 where
  pub column_in_range : column < cells.size.columns
  pub place_in_range : place < 64
  pub reached : bit_at (slice_index cells.reached column) place ≡ 1
  pub words : InWords (words_at cells column place) m

-- ---- beginnings of readings

-- these substitutions, the last one first, cut the label up to the place, and put p in the place of what they cover
abbrev pub LeadsTo : List (List Substitution) → ℕ → List ℕ → List Substitution → Type 0
LeadsTo substitutions place p [] = (place ≡ 0) × (p ≡ [])
LeadsTo substitutions place p (u ∷ before) =
    (a : ℕ) × (q : List ℕ) × Contains (substitutions_at substitutions a) u × (place ≡ a + u.covers)
    × (p ≡ q ++ u.points) × LeadsTo substitutions a q before

abbrev pub Shows : List Substitution → Mark → Type 0
Shows cut Reached = Unit {0}
Shows cut (Has k) = (k < 64) × HasKind cut k
Shows cut (Lacks k) = (k < 64) × ¬ HasKind cut k

abbrev pub SomeLeads : List (List Substitution) → ℕ → List ℕ → Mark → Type 0
SomeLeads substitutions place p m = (cut : List Substitution) × LeadsTo substitutions place p cut × Shows cut m

-- a column tells exactly what beginnings show
abbrev pub IsRightAt : List (List Substitution) → List ℕ → Cells → ℕ → Type 0
IsRightAt substitutions w cells column =
    (p : ℕ) (m : Mark) → Tells cells column p m ↔ SomeLeads substitutions p (take column w) m

-- so do the columns up to this one
abbrev pub IsRight : List (List Substitution) → List ℕ → Cells → ℕ → Type 0
IsRight substitutions w cells column = (c : ℕ) → c ≤ column → IsRightAt substitutions w cells c

-- there is a column for each label of at most 63 code points that they spell
abbrev pub HasColumns : List (List Substitution) → ℕ → Type 0
HasColumns substitutions columns =
    (v : List ℕ) → SubstitutionsSpell substitutions v → length v ≤ 63 → length v < columns
