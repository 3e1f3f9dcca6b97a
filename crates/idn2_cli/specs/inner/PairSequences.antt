-- The sequences of the pairs that are written.
use Rattle.std.specs.Prelude.{ℕ, List, length, ◌≡◌, ◌<◌, slice_index_or, Vec}
use Rattle.std.specs.declared.alloc.Global.{Global}
use Rattle.variant_table.specs.WellFormed.{IsSequence}

-- both sequences of each pair are sequences of a table
abbrev pub HoldSequences : List (Vec ℕ Global × Vec ℕ Global) → Type 0
HoldSequences pairs =
    (i : ℕ) (pair : Vec ℕ Global × Vec ℕ Global) → i < length pairs → pair ≡ slice_index_or pairs i pair →
    IsSequence pair.0.items × IsSequence pair.1.items
