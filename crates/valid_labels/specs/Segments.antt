-- The sources of a table as segments of a label, in any cut (RFC 7940, section 5.2).
use Rattle.std.specs.Prelude.{◌≡◌, ℕ, ◌≤◌, List, length, Option, Contains}
use Rattle.std.specs.List.{slice_range}
use Rattle.label_patterns.specs.declared.condition.Condition.{Condition}
use Rattle.label_patterns.specs.Matches.{Rounds}
use Rattle.label_patterns.specs.Conditions.{ConditionHolds}
use Rattle.label_patterns.specs.Barring.{IsBarred}
use Rattle.variant_table.specs.Entries.{Entry, TableValue}
use Rattle.variant_table.specs.Segmentations.{seen_under}

-- a segment of the table: a source with its condition
abbrev pub IsSegment : TableValue → List ℕ → Option Condition → Type 0
IsSegment table points condition =
    (e : Entry) × Contains table.entries e × (e.source ≡ points) × (e.condition ≡ condition)

-- the part of the label from i to j is a segment with this condition
abbrev pub SegmentIs : TableValue → List ℕ → Option Condition → ℕ → ℕ → Type 0
SegmentIs table label condition i j = (i ≤ j) × (j ≤ length label) × IsSegment table (slice_range label i j) condition

-- a segment stands there whose condition holds
abbrev pub SegmentStands : TableValue → List ℕ → ℕ → ℕ → Type 0
SegmentStands table label i j =
    (c : Option Condition) × SegmentIs table label c i j
    × ConditionHolds table.definitions.rules (seen_under table label) c i j

-- a segment stands there whose condition isn't barred
abbrev pub SegmentMayStand : TableValue → List ℕ → ℕ → ℕ → Type 0
SegmentMayStand table label i j =
    (c : Option Condition) × SegmentIs table label c i j
    × (¬ IsBarred table.definitions.rules (seen_under table label) c i)

-- the label can be cut up to this place, in any way, into segments whose conditions aren't barred
abbrev pub MayReach : TableValue → List ℕ → ℕ → Type 0
MayReach table label place = Rounds (SegmentMayStand table label) 0 place
