-- What a listing does with a label that another label spells: whether it is listed, and with which disposition (RFC
-- 7940, sections 7 and 8).
use Rattle.std.specs.Prelude.{◌≡◌, ◌⊎◌, ℕ, false, true, Bool, ◌||◌, not, bytes_eq, if◌then◌else◌}
use Rattle.std.specs.Prelude.{List, [], ◌∷◌, Option, Some, None, Contains}
use Rattle.std.specs.List.{AllByRecursion, list_any}
use Rattle.reading_kinds.specs.Readings.{Substitution}
use Rattle.variant_dispositions.specs.declared.disposition.Disposition.{Disposition as Outcome}
use Rattle.variant_dispositions.specs.declared.disposition.Disposition.TheVariants as outcomes
use Rattle.variant_dispositions.specs.declared.variant.VariantDisposition.{VariantDisposition}
use Rattle.variant_dispositions.specs.declared.variant.VariantDisposition.TheVariants.{Clear, Unclear}
use Rattle.variant_dispositions.specs.Actions.{is_allocatable}
use Rattle.variant_dispositions.specs.Kinds.{Kind, recorded}
use Rattle.variant_dispositions.specs.Kinds.Kind.{Unmapped, Typed}
use Rattle.variant_table.specs.declared.version.Version.{Version}
use Rattle.variant_table.specs.declared.version.Version.TheVariants.{One, Two, Three}
use Rattle.variant_table.specs.Entries.{TableValue, has_types}
use Rattle.valid_labels.specs.Actions.{actions_of, matches_rule}
use Rattle.valid_labels.specs.Dispositions.{disposition_by}
use Rattle.valid_labels.specs.Readings.{has_kind, readings_of, told_by}
use Rattle.valid_labels.specs.Staying.{staying_of}
use Rattle.valid_labels.specs.Tests.{is_invalid as is_invalid_outcome}
use Rattle.variant_list.specs.Readings.{Mapping, IsReadingOf, kinds_of}
use Rattle.variant_list.specs.Readings.Mapping.{Stays, Maps}
use Rattle.variant_list.specs.Substitutions.{substitutions_of}
use Rattle.answer_json.specs.declared.block.Disposition.{Disposition}
use Rattle.answer_json.specs.declared.block.Disposition.TheVariants as told_as

-- ---- by what has to be

abbrev pub IsStaying : Mapping → Type 0
IsStaying (Stays e) = Unit {0}
IsStaying (Maps e v) = ⊥

-- a reading by which v stands in the listing of the label. The label itself stands there by those alone in which each
-- source stays (8.1.1)
pub record IsReadingFor (table : TableValue) (label v : List ℕ) (reading : List Mapping) : Type 0 where
  pub reads : IsReadingOf table label v reading
  pub stays : v ≡ label → AllByRecursion IsStaying reading

-- clear: all of these readings record the same kinds (8.4). A ruleset in which nothing has a type has nothing to be
-- unclear about
abbrev pub IsClear : TableValue → (label v : List ℕ) → Type 0
IsClear table label v =
    (has_types table.entries ≡ false)
    ⊎ ((one other : List Mapping) → IsReadingFor table label v one → IsReadingFor table label v other
    → (kind : Kind) → Contains (kinds_of one) kind → Contains (kinds_of other) kind)

-- this is the disposition of v by some reading: that of the first action which v and what is recorded trigger (8.3)
abbrev pub HasOutcome : TableValue → (label v : List ℕ) → Outcome → Type 0
HasOutcome table label v d =
    (reading : List Mapping) × IsReadingFor table label v reading × (disposition_by table v (kinds_of reading) ≡ d)

-- v is left out of the listing of the label: it is invalid, which only a ruleset says of labels
pub record IsLeftOut (table : TableValue) (label v : List ℕ) : Type 0 where
  pub of_ruleset : table.version ≡ Three
  pub clear : IsClear table label v
  pub invalid : HasOutcome table label v outcomes.Invalid

-- the holder of the label may have v. In a table of version 2 each reading stands for itself: one without a blocked
-- variant is enough (the type blocked is number 1)
abbrev pub IsAllocatableIn : Version → TableValue → (label v : List ℕ) → Type 0
IsAllocatableIn Three table label v = IsClear table label v
    × ((d : Outcome) × HasOutcome table label v d × (is_allocatable d ≡ true))
IsAllocatableIn earlier table label v =
    (v ≡ label) ⊎ ((reading : List Mapping) × IsReadingOf table label v reading
    × ¬ Contains (kinds_of reading) (Typed 1))

abbrev pub IsAllocatable : TableValue → (label v : List ℕ) → Type 0
IsAllocatable table = IsAllocatableIn table.version table

-- a disposition that says whether this holds
abbrev pub IsAllocation : Type 0 → Option Disposition → Type 0
IsAllocation allocatable field = (allocatable × (field ≡ Some told_as.Allocatable))
    ⊎ ((¬ allocatable) × (field ≡ Some told_as.Blocked))

-- none in version 1; that a variant is unclear, in a ruleset
abbrev pub IsFieldOf : Version → (clear allocatable : Type 0) → Option Disposition → Type 0
IsFieldOf One clear allocatable field = field ≡ None
IsFieldOf Two clear allocatable field = IsAllocation allocatable field
IsFieldOf Three clear allocatable field = (clear × IsAllocation allocatable field)
    ⊎ ((¬ clear) × (field ≡ Some told_as.Unclear))

-- the disposition of v in the listing of the label
abbrev pub IsDisposition : TableValue → (label v : List ℕ) → Option Disposition → Type 0
IsDisposition table label v field = IsFieldOf table.version (IsClear table label v) (IsAllocatable table label v) field

-- ---- the same as it computes

-- the substitutions by which v arises from the label; the label itself arises only by those in which each source stays
abbrev pub substitutions_for : TableValue → (label v : List ℕ) → List (List Substitution)
substitutions_for table label v = if bytes_eq v label then staying_of table label else substitutions_of table label

-- what is told of v under a ruleset; nothing where it has no reading
abbrev pub told : TableValue → (label v : List ℕ) → Option VariantDisposition
told table label v =
    if has_types table.entries
    then told_by (matches_rule table v) (actions_of table.definitions) (substitutions_for table label v) v
    else Some (Clear (disposition_by table v (Unmapped ∷ [])))

-- in a table of version 2 the holder of the label may have v
abbrev pub lacks_blocked : List Substitution → Bool
lacks_blocked reading = not (has_kind (recorded reading) (Typed 1))

abbrev pub is_allocatable_in_some : TableValue → (label v : List ℕ) → Bool
is_allocatable_in_some table label v =
    bytes_eq v label
    || (not (has_types table.entries) || list_any lacks_blocked (readings_of (substitutions_of table label) v))

-- what is told, as a listing does it: left out, or with this disposition
abbrev pub is_invalid : Option VariantDisposition → Bool
is_invalid None = false
is_invalid (Some Unclear) = false
is_invalid (Some (Clear outcome)) = is_invalid_outcome outcome

abbrev pub allocation : Bool → Disposition
allocation allocatable = if allocatable then told_as.Allocatable else told_as.Blocked

abbrev pub allocation_of : Option VariantDisposition → Disposition
allocation_of None = told_as.Blocked
allocation_of (Some Unclear) = told_as.Unclear
allocation_of (Some (Clear outcome)) = allocation (is_allocatable outcome)

abbrev pub is_left_out_in : Version → TableValue → (label v : List ℕ) → Bool
is_left_out_in Three table label v = is_invalid (told table label v)
is_left_out_in earlier table label v = false

abbrev pub is_left_out : TableValue → (label v : List ℕ) → Bool
is_left_out table = is_left_out_in table.version table

abbrev pub disposition_in : Version → TableValue → (label v : List ℕ) → Option Disposition
disposition_in One table label v = None
disposition_in Two table label v = Some (allocation (is_allocatable_in_some table label v))
disposition_in Three table label v = Some (allocation_of (told table label v))

-- the disposition of v in the listing of the label
abbrev pub disposition : TableValue → (label v : List ℕ) → Option Disposition
disposition table = disposition_in table.version table

-- what is said of it: that it is unclear only where causes are told, and else that it is blocked
abbrev pub shown : (wanted : Bool) → Option Disposition → Option Disposition
shown wanted None = None
shown wanted (Some told_as.Allocatable) = Some told_as.Allocatable
shown wanted (Some told_as.Blocked) = Some told_as.Blocked
shown wanted (Some told_as.Unclear) = Some (if wanted then told_as.Unclear else told_as.Blocked)
