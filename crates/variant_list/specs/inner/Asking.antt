-- How the conditions of a table are asked of a label.
use Rattle.std.specs.Prelude.{◌≡◌, ℕ, List, Option, Some, None, All}
use Rattle.label_patterns.specs.Matches.{Seen}
use Rattle.variant_table.specs.Entries.{TableValue, whole}
use Rattle.variant_table.specs.Segmentations.{seen_under}

-- the label as the rules of the table see it, or none, where neither a source nor a variant has a condition
abbrev pub CanAsk : TableValue → List ℕ → Option Seen → Type 0
CanAsk table label None = All (λ e. All (λ r. r.condition ≡ None) (whole e)) table.entries
CanAsk table label (Some seen) = seen ≡ seen_under table label
