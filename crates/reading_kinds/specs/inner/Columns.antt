-- A step from the columns of a board to the next one.
use Rattle.std.specs.Prelude.{◌≡◌, ◌≢◌, ℕ, ◌+◌, ◌-◌, ◌<◌, ◌≤◌, ◌⊎◌, ◌↔◌, List, length, take, drop}
use Rattle.std.specs.Int.{bit_at}
use Rattle.reading_kinds.specs.Readings.{Substitution}
use Rattle.reading_kinds.specs.declared.board.Words.{Words}
use Rattle.reading_kinds.specs.inner.Cells.{Cells, Mark, InWords, Tells, SomeLeads}
use Rattle.reading_kinds.specs.inner.Cells.Mark.{Reached, Has, Lacks}

-- old with nothing in this column
abbrev pub Clears : Cells → Cells → ℕ → Type 0
Clears old new column = (c p : ℕ) (m : Mark) → Tells new c p m ↔ ((c ≢ column) × Tells old c p m)

-- old with these words added to a cell
abbrev pub Adds : Cells → Cells → ℕ → ℕ → Words → Type 0
Adds old new column place words =
    (c p : ℕ) (m : Mark) → Tells new c p m ↔ (Tells old c p m ⊎ ((c ≡ column) × (p ≡ place) × InWords words m))

-- a column tells nothing that no beginning shows
abbrev pub IsSoundAt : List (List Substitution) → List ℕ → Cells → ℕ → Type 0
IsSoundAt substitutions w cells column =
    (p : ℕ) (m : Mark) → Tells cells column p m → SomeLeads substitutions p (take column w) m

-- new has in this column what old has, and perhaps more; the other columns are the same
pub record Grows (old new : Cells) (column : ℕ) : Type 0 where
  pub others : (c : ℕ) → c ≢ column → (p : ℕ) (m : Mark) → Tells new c p m ↔ Tells old c p m
  pub more : (p : ℕ) (m : Mark) → Tells old column p m → Tells new column p m
  pub size : new.size ≡ old.size

-- what a cell tells after a substitution from this cell
abbrev pub TellsAfter : Cells → ℕ → ℕ → ℕ → Mark → Type 0
TellsAfter cells column place kinds Reached = Unit {0}
TellsAfter cells column place kinds (Has k) = (k < 64) × ((bit_at kinds k ≡ 1) ⊎ Tells cells column place (Has k))
TellsAfter cells column place kinds (Lacks k) = (bit_at kinds k ≢ 1) × Tells cells column place (Lacks k)

-- the points stand in w where the column ends
abbrev pub EndsWith : List ℕ → ℕ → List ℕ → Type 0
EndsWith w column points = (length points ≤ column) × (take (length points) (drop (column - length points) w) ≡ points)

-- the substitution at this place has been taken into the column
abbrev pub HasTaken : List ℕ → Cells → ℕ → ℕ → Substitution → Type 0
HasTaken w cells column place u =
    EndsWith w column u.points → Tells cells (column - length u.points) place Reached → (m : Mark)
    → TellsAfter cells (column - length u.points) place u.kinds m → Tells cells column (place + u.covers) m

-- old with what a substitution adds to a cell
abbrev pub AddsAfter : Cells → Cells → ℕ → ℕ → ℕ → ℕ → ℕ → Type 0
AddsAfter old new from_column from_place kinds column place =
    (c p : ℕ) (m : Mark) → Tells new c p m ↔ (Tells old c p m
    ⊎ ((c ≡ column) × (p ≡ place) × TellsAfter old from_column from_place kinds m))
