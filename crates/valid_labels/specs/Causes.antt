-- Why a label that is made of sources may not be asked about (RFC 7940, sections 7 and 8).
use Rattle.std.specs.Prelude.{◌≡◌, ℕ, suc, zero, ◌+◌, ◌<◌, ◌≤◌, nat_eq, Bool, true, false, Option, Some, None, List, []}
use Rattle.std.specs.Prelude.{◌∷◌, length, map, slice_get, find, if◌then◌else◌, Contains}
use Rattle.std.specs.Option.{option_map}
use Rattle.label_patterns.specs.declared.condition.Condition.{Condition}
use Rattle.label_patterns.specs.Matches.{Seen}
use Rattle.label_patterns.specs.Tests.{occurs_in}
use Rattle.ruleset_text.specs.Definitions.{Demand}
use Rattle.variant_dispositions.specs.declared.action.Action.{Action}
use Rattle.variant_dispositions.specs.declared.action.TypeTrigger.{TypeTrigger}
use Rattle.variant_dispositions.specs.declared.action.TypeTrigger.TheVariants.{Any, All, Only}
use Rattle.variant_dispositions.specs.declared.disposition.Disposition.TheVariants.{Invalid}
use Rattle.variant_dispositions.specs.declared.variant.VariantDisposition.{VariantDisposition}
use Rattle.variant_dispositions.specs.declared.variant.VariantDisposition.TheVariants.{Clear, Unclear as Apart}
use Rattle.variant_dispositions.specs.Actions.{is_of, is_triggered}
use Rattle.variant_dispositions.specs.Kinds.{Kind, kind_of_source}
use Rattle.variant_dispositions.specs.Kinds.Kind.{Typed}
use Rattle.variant_table.specs.Entries.{Entry, TableValue}
use Rattle.variant_table.specs.Places.{BeginsAt, entries_at}
use Rattle.variant_table.specs.Segmentations.{IsSegmentation, seen_under}
use Rattle.valid_labels.specs.declared.cause.ActionCause.{ActionCause}
use Rattle.valid_labels.specs.declared.cause.ActionCause.TheVariants.{Rule, Source, Other}
use Rattle.valid_labels.specs.declared.invalid.CutSource.{CutSource}
use Rattle.valid_labels.specs.declared.cause.ValidityCause.{ValidityCause}
use Rattle.valid_labels.specs.declared.cause.ValidityCause.TheVariants.{NotEligible, Broken, Unclear}
use Rattle.valid_labels.specs.declared.cause.ValidityCause.TheVariants.{Action as ByAction, DefaultAction}
use Rattle.valid_labels.specs.Actions.{actions_of, matches_rule}
use Rattle.valid_labels.specs.Dispositions.{IsClearItself, kinds_of, told_itself}
use Rattle.valid_labels.specs.Eligible.{Stands, IsCutEnd, IsEligible, IsLongest, CutLeadsTo}
use Rattle.valid_labels.specs.Demands.{IsMet, MeetsDemands}
use Rattle.valid_labels.specs.Tests.{cut_end, is_invalid, is_wanted, longest_at}

-- ---- the longest-first cut and demands

-- a source of the table is at the place, whether it may stand there or not
abbrev pub IsAt : TableValue → List ℕ → ℕ → Entry → Type 0
IsAt table label place e = Contains table.entries e × BeginsAt label place e

-- sources are at the place, and the longest one is this
pub record IsLongestAt (table : TableValue) (label : List ℕ) (place : ℕ) (e : Entry) : Type 0 where
  pub at : IsAt table label place e
  pub longest : (f : Entry) → IsAt table label place f → length f.source ≤ length e.source

-- the conditions of all sources at the place fail, and this is that of the longest one; or no source is there
abbrev pub IsStoppedBy : TableValue → List ℕ → ℕ → Option Condition → Type 0
IsStoppedBy table label place (Some condition) =
    ((f : Entry) → ¬ Stands table label place f) × ((e : Entry) × IsLongestAt table label place e
    × (e.condition ≡ Some condition))
IsStoppedBy table label place None = (e : Entry) → ¬ IsAt table label place e

-- the demand of this number is the first one that the label breaks
pub record IsFirstBroken (seen : Seen) (demands : List Demand) (n : ℕ) (d : Demand) : Type 0 where
  pub at : slice_get demands n ≡ Some d
  pub broken : ¬ IsMet seen d
  pub first : (m : ℕ) (e : Demand) → m < n → slice_get demands m ≡ Some e → IsMet seen e

-- ---- actions

-- the label has a segmentation by whose kinds it triggers the action
abbrev pub Triggers : TableValue → List ℕ → Action → Type 0
Triggers table label a =
    (segmentation : List Entry) × IsSegmentation table segmentation label
    × (is_triggered (matches_rule table label) (kinds_of segmentation) a ≡ true)

-- the action of this number is the first one that the label triggers
pub record IsFirstTriggered (table : TableValue) (label : List ℕ) (n : ℕ) (a : Action) : Type 0 where
  pub at : slice_get (actions_of table.definitions) n ≡ Some a
  pub triggered : Triggers table label a
  pub first : (m : ℕ) (b : Action) → m < n → slice_get (actions_of table.definitions) m ≡ Some b
      → ¬ Triggers table label b

-- a source of the longest-first cut is at the place, and its type, of this number, is one of these
pub record IsTypedAt (table : TableValue) (label : List ℕ) (types place number : ℕ) : Type 0 where
  pub entry : Entry
  pub reached : CutLeadsTo table label place
  pub longest : IsLongest table label place entry
  pub typed : entry.type ≡ Some number
  pub asked : is_of types (Typed number) ≡ true

-- it is the first one
pub record IsFirstTyped (table : TableValue) (label : List ℕ) (types place number : ℕ) : Type 0 where
  pub here : IsTypedAt table label types place number
  pub first : (p n : ℕ) → p < place → ¬ IsTypedAt table label types p n

-- what is told of an action: its condition, if it has one; else the first source that has one of the types of which it
-- asks for any
abbrev pub IsActionCause : TableValue → List ℕ → Action → ActionCause → Type 0
IsActionCause table label a (Rule condition) = a.condition ≡ Some condition
IsActionCause table label a (Source place number) =
    (a.condition ≡ None) × ((types : ℕ) × (a.types ≡ Some (Any types)) × IsFirstTyped table label types place number)
IsActionCause table label a Other = (a.condition ≡ None) × ((types : ℕ) → ¬ (a.types ≡ Some (Any types)))

-- ---- the cause

-- the label is eligible and meets the demands, so that its disposition counts
pub record IsDisposed (table : TableValue) (label : List ℕ) : Type 0 where
  pub eligible : IsEligible table label
  pub met : MeetsDemands table label

-- in this order: the place within the label at which its longest-first cut ends; the first demand that it breaks; that
-- it is unclear; the first action that it triggers, which makes it invalid; or it triggers none, and the first default
-- action makes it invalid, for this source of the type invalid, number 0
abbrev pub IsCause : TableValue → List ℕ → ValidityCause → Type 0
IsCause table label (NotEligible place condition) =
    IsCutEnd table label place × (place < length label) × IsStoppedBy table label place condition
IsCause table label (Broken n kind) =
    IsEligible table label × ((d : Demand) × IsFirstBroken (seen_under table label) table.definitions.demands n d
    × (d.kind ≡ kind))
IsCause table label Unclear = IsDisposed table label × (¬ IsClearItself table label)
IsCause table label (ByAction n cause) =
    IsDisposed table label × IsClearItself table label
    × ((a : Action) × IsFirstTriggered table label n a × (a.disposition ≡ Invalid) × IsActionCause table label a cause)
IsCause table label (DefaultAction place) =
    IsDisposed table label × IsClearItself table label
    × ((a : Action) → Contains (actions_of table.definitions) a → ¬ Triggers table label a)
    × IsFirstTyped table label 4 place 0

-- ---- the same as it computes

-- the condition of the last of these entries, or the one that was found before
abbrev pub last_condition : Option Condition → List Entry → Option Condition
last_condition found [] = found
last_condition found (e ∷ entries) = last_condition e.condition entries

-- that of the longest source at the place
abbrev pub stopped_by : TableValue → List ℕ → ℕ → Option Condition
stopped_by table label place = last_condition None (entries_at table.entries label place)

-- the first demand that is broken; the first one has this number
abbrev pub broken_from : Seen → ℕ → List Demand → Option ValidityCause
broken_from seen n [] = None
broken_from seen n (d ∷ demands) =
    if is_wanted d.kind (occurs_in seen d.pattern) then broken_from seen (suc n) demands else Some (Broken n d.kind)

-- at most so many sources of the longest-first cut, from the place on
abbrev pub with_source : ℕ → (ℕ → List CutSource) → Option Entry → List CutSource
with_source place later None = []
with_source place later (Some e) = record { place = place; reflexive_type = e.type } ∷ later (place + length e.source)

abbrev pub cut_from : TableValue → List ℕ → ℕ → ℕ → List CutSource
cut_from table label zero place = []
cut_from table label (suc n) place = with_source place (cut_from table label n) (longest_at table label place)

abbrev pub longest_cut : TableValue → List ℕ → List CutSource
longest_cut table label = cut_from table label (length label) 0

-- what they record
abbrev pub cut_kinds : List CutSource → List Kind
cut_kinds sources = map (λ s. kind_of_source s.reflexive_type) sources

-- a source has one of these types
abbrev pub is_typed : ℕ → Option ℕ → Bool
is_typed types None = false
is_typed types (Some number) = is_of types (Typed number)

abbrev pub first_typed : ℕ → List CutSource → Option CutSource
first_typed types sources = find (λ s. is_typed types s.reflexive_type) sources

-- what is told of an action, by the sources of the cut
abbrev pub type_cause : ℕ → Option ℕ → ActionCause
type_cause place None = Other
type_cause place (Some number) = Source place number

abbrev pub source_cause : Option CutSource → ActionCause
source_cause None = Other
source_cause (Some s) = type_cause s.place s.reflexive_type

abbrev pub types_cause : List CutSource → Option TypeTrigger → ActionCause
types_cause sources None = Other
types_cause sources (Some (Any types)) = source_cause (first_typed types sources)
types_cause sources (Some (All types)) = Other
types_cause sources (Some (Only types)) = Other

abbrev pub action_cause : List CutSource → Option TypeTrigger → Option Condition → ActionCause
action_cause sources types None = types_cause sources types
action_cause sources types (Some condition) = Rule condition

-- the cause by the first of these actions that is triggered, the first one of which has this number;
-- else by the first default action
abbrev pub invalid_from : (Action → Bool) → List CutSource → ℕ → List Action → Option ValidityCause
invalid_from triggered sources n [] = option_map (λ s. DefaultAction s.place) (first_typed 4 sources)
invalid_from triggered sources n (a ∷ actions) =
    if triggered a then Some (ByAction n (action_cause sources a.types a.condition))
    else invalid_from triggered sources (suc n) actions

abbrev pub invalid_by : TableValue → List ℕ → List CutSource → Option ValidityCause
invalid_by table label sources =
    invalid_from (is_triggered (matches_rule table label) (cut_kinds sources)) sources 0 (actions_of table.definitions)

-- by what is told of the label itself
abbrev pub cause_told : TableValue → List ℕ → Option VariantDisposition → Option ValidityCause
cause_told table label None = None
cause_told table label (Some Apart) = Some Unclear
cause_told table label (Some (Clear d)) =
    if is_invalid d then invalid_by table label (longest_cut table label) else None

-- the one that was found, or another one
abbrev pub or_else : Option ValidityCause → Option ValidityCause → Option ValidityCause
or_else None other = other
or_else (Some cause) other = Some cause

-- the cause, where the longest-first cut ends at this place
abbrev pub cause_at : TableValue → List ℕ → ℕ → Option ValidityCause
cause_at table label place =
    if nat_eq place (length label) then or_else (broken_from (seen_under table label) 0 table.definitions.demands)
    (cause_told table label (told_itself table label)) else Some (NotEligible place (stopped_by table label place))

abbrev pub cause_of : TableValue → List ℕ → Option ValidityCause
cause_of table label = cause_at table label (cut_end table label)
