-- Steps from place to place of a label: sources that stand there and of which something is asked.
use Rattle.std.specs.Prelude.{◌≡◌, ◌↔◌, ℕ, ◌+◌, ◌<◌, ◌≤◌, List, length, Contains}
use Rattle.std.specs.List.{slice_range}
use Rattle.label_patterns.specs.Places.{Has}
use Rattle.variant_table.specs.Entries.{Entry}
use Rattle.valid_labels.specs.declared.cutting.SingleSteps.{SingleSteps}

-- a source stands from i to j, and what is asked of its entry is so
abbrev pub SourceIs : (Entry → ℕ → ℕ → Type 0) → List Entry → List ℕ → ℕ → ℕ → Type 0
SourceIs asks entries label i j =
    (e : Entry) × Contains entries e × (i ≤ j) × (j ≤ length label) × (slice_range label i j ≡ e.source) × asks e i j

-- the known places are in a label of n code points; from the leading ones one code point leads on,
-- and nothing else does
abbrev pub AreSteps : (ℕ → ℕ → Type 0) → ℕ → SingleSteps → Type 0
AreSteps R n steps = (i : ℕ) → Has steps.known i → (i < n) × ((j : ℕ) → R i j ↔ ((j ≡ i + 1) × Has steps.leading i))
