-- The disposition of a label that is asked about (RFC 7940, sections 7 and 8): each source stays as it is, so each
-- segmentation of the label is a reading of it.
use Rattle.std.specs.Prelude.{◌≡◌, ℕ, List, map, Option, Contains}
use Rattle.variant_dispositions.specs.declared.disposition.Disposition.{Disposition}
use Rattle.variant_dispositions.specs.declared.variant.VariantDisposition.{VariantDisposition}
use Rattle.variant_dispositions.specs.Actions.{disposition}
use Rattle.variant_dispositions.specs.Kinds.{Kind, kind_of_source}
use Rattle.variant_table.specs.Entries.{Entry, TableValue}
use Rattle.variant_table.specs.Segmentations.{IsSegmentation}
use Rattle.valid_labels.specs.Actions.{actions_of, matches_rule}
use Rattle.valid_labels.specs.Readings.{told_by}
use Rattle.valid_labels.specs.Staying.{staying_of}

-- what a segmentation records: of each source its reflexive type, or that it has none (5.3.4)
abbrev pub kinds_of : List Entry → List Kind
kinds_of segmentation = map (λ e. kind_of_source e.type) segmentation

-- clear: all segmentations record the same (8.4)
abbrev pub IsClearItself : TableValue → List ℕ → Type 0
IsClearItself table label = (one other : List Entry) → IsSegmentation table one label → IsSegmentation table other label
    → (kind : Kind) → Contains (kinds_of one) kind → Contains (kinds_of other) kind

-- the disposition of the label, if it records these kinds (8.3)
abbrev pub disposition_by : TableValue → List ℕ → List Kind → Disposition
disposition_by table label kinds = disposition (matches_rule table label) (actions_of table.definitions) kinds

-- a disposition that some segmentation gives
abbrev pub IsOwnDisposition : TableValue → List ℕ → Disposition → Type 0
IsOwnDisposition table label d =
    (segmentation : List Entry) × IsSegmentation table segmentation label
    × (disposition_by table label (kinds_of segmentation) ≡ d)

-- ---- the same as it computes: what is told of the label; nothing where it has no segmentation

abbrev pub told_itself : TableValue → List ℕ → Option VariantDisposition
told_itself table label =
    told_by (matches_rule table label) (actions_of table.definitions) (staying_of table label) label
