-- Eligible labels (RFC 7940, section 8.1): they are cut from start to end by sources, each of them the longest that
-- stands where the one before it ended. There is no way back.
use Rattle.std.specs.Prelude.{◌≡◌, ℕ, ◌+◌, ◌≤◌, List, length, Contains}
use Rattle.label_patterns.specs.Conditions.{ConditionHolds}
use Rattle.label_patterns.specs.Matches.{Rounds}
use Rattle.variant_table.specs.Entries.{Entry, TableValue}
use Rattle.variant_table.specs.Places.{BeginsAt}
use Rattle.variant_table.specs.Segmentations.{seen_under}

-- an entry stands at a place of a label: its source is there, and its condition holds there, in this label
pub record Stands (table : TableValue) (label : List ℕ) (place : ℕ) (e : Entry) : Type 0 where
  pub of_table : Contains table.entries e
  pub begins : BeginsAt label place e
  pub holds : ConditionHolds table.definitions.rules (seen_under table label) e.condition place
      (place + length e.source)

-- no entry that stands there has a longer source
pub record IsLongest (table : TableValue) (label : List ℕ) (place : ℕ) (e : Entry) : Type 0 where
  pub stands : Stands table label place e
  pub longest : (f : Entry) → Stands table label place f → length f.source ≤ length e.source

-- the longest source that stands at i ends at j
abbrev pub LongestLeads : TableValue → List ℕ → ℕ → ℕ → Type 0
LongestLeads table label i j = (e : Entry) × IsLongest table label i e × (j ≡ i + length e.source)

-- the longest-first cut leads from the start of the label to this place
abbrev pub CutLeadsTo : TableValue → List ℕ → ℕ → Type 0
CutLeadsTo table label place = Rounds (LongestLeads table label) 0 place

-- it leads to the end
abbrev pub IsEligible : TableValue → List ℕ → Type 0
IsEligible table label = CutLeadsTo table label (length label)

-- it leads to this place, and no further
pub record IsCutEnd (table : TableValue) (label : List ℕ) (place : ℕ) : Type 0 where
  pub reached : CutLeadsTo table label place
  pub last : (j : ℕ) → ¬ LongestLeads table label place j
