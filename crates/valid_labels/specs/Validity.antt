-- Which labels are valid under a table (RFC 7940, sections 7 and 8).
use Rattle.std.specs.Prelude.{◌≡◌, ◌≢◌, ◌⊎◌, ℕ, ◌+◌, ◌<◌, ◌≤◌, List, [], length, take, Option, None, All, Contains}
use Rattle.std.specs.List.{AllByRecursion}
use Rattle.label_patterns.specs.declared.condition.Condition.{Condition}
use Rattle.label_patterns.specs.Laws.{IgnoresEnd}
use Rattle.label_patterns.specs.Rules.{Occurs}
use Rattle.ruleset_text.specs.declared.definition.DemandKind.TheVariants.{Never}
use Rattle.ruleset_text.specs.Actions.{NamedAction}
use Rattle.ruleset_text.specs.Definitions.{Demand}
use Rattle.ruleset_text.specs.WellFormed.{AreDefinitions}
use Rattle.variant_dispositions.specs.declared.disposition.Disposition.TheVariants.{Invalid}
use Rattle.variant_table.specs.declared.version.Version.TheVariants.{Three}
use Rattle.variant_table.specs.Entries.{TableValue, sequences_in}
use Rattle.variant_table.specs.WellFormed.{IsNamed, IsWellFormed}
use Rattle.variant_table.specs.Segmentations.{seen_under, IsMadeOfSources, HasNoConditions}
use Rattle.valid_labels.specs.Segments.{IsSegment, MayReach}
use Rattle.valid_labels.specs.Eligible.{IsEligible}
use Rattle.valid_labels.specs.Demands.{MeetsDemands}
use Rattle.valid_labels.specs.Dispositions.{IsClearItself, IsOwnDisposition}

-- well-formed entries, whose types and rules are defined, and definitions without a fault
pub record IsSound (table : TableValue) : Type 0 where
  pub entries : IsWellFormed table.entries
  pub named : All (IsNamed table.definitions) table.entries
  pub definitions : AreDefinitions table.definitions

-- the action asks for types, and for no rule
abbrev pub AsksTypesAlone : NamedAction → Type 0
AsksTypesAlone a = (a.condition ≡ None) × (a.trigger ≢ None)

-- no source has a condition or a type, there is no demand, and each action asks for types alone: nothing is asked of a
-- label but how it is cut
pub record AsksCutsAlone (table : TableValue) : Type 0 where
  pub conditions : HasNoConditions table
  pub demands : table.definitions.demands ≡ []
  pub types : AllByRecursion (λ e. e.type ≡ None) table.entries
  pub actions : AllByRecursion AsksTypesAlone table.definitions.actions

-- a table of version 1 or 2, which asks nothing else: a label may be cut in any way
pub record AllowsAnyCut (table : TableValue) : Type 0 where
  pub earlier : table.version ≢ Three
  pub cuts_alone : AsksCutsAlone table

-- a label that may be asked about: it is eligible, meets the demands, is clear, and isn't invalid. Under a table of
-- version 1 or 2 it is only to be made of sources
pub record IsAdmitted (table : TableValue) (label : List ℕ) : Type 0 where
  pub cut : (AllowsAnyCut table × IsMadeOfSources table label) ⊎ IsEligible table label
  pub met : MeetsDemands table label
  pub clear : IsClearItself table label
  pub not_invalid : ¬ IsOwnDisposition table label Invalid

-- a valid label, be it asked about or a variant: it is eligible, and meets the demands.
-- Under a table of version 1 or 2 each label is valid
pub record IsValid (table : TableValue) (label : List ℕ) : Type 0 where
  pub cut : AllowsAnyCut table ⊎ IsEligible table label
  pub met : MeetsDemands table label

-- each source is one code point
abbrev pub HasSourcesOfPoints : TableValue → Type 0
HasSourcesOfPoints table = AllByRecursion (λ e. length e.source ≡ 1) table.entries

-- each variant is made of sources
abbrev pub HasVariantsOfSources : TableValue → Type 0
HasVariantsOfSources table =
    AllByRecursion (λ e. AllByRecursion (IsMadeOfSources table) (sequences_in e.variants)) table.entries

-- the table asks nothing of its labels, not even how they are cut: it is of version 1 or 2, or each source is one code
-- point and each variant is made of sources
pub record AsksNothing (table : TableValue) : Type 0 where
  pub cuts_alone : AsksCutsAlone table
  pub cuts : (table.version ≢ Three) ⊎ (HasSourcesOfPoints table × HasVariantsOfSources table)

-- a part of the label matches a pattern that no label may match, and that doesn't ask for the end of the label
abbrev pub IsRefused : TableValue → List ℕ → Type 0
IsRefused table label =
    (d : Demand) × Contains table.definitions.demands d × (d.kind ≡ Never) × IgnoresEnd d.pattern
    × Occurs (seen_under table label) d.pattern

-- no segment that begins at a place up to which the label may be cut ends after the label
abbrev pub LeadsNowhere : TableValue → List ℕ → Type 0
LeadsNowhere table label =
    (place : ℕ) (points : List ℕ) (c : Option Condition) → MayReach table label place → IsSegment table points c
    → place + length points ≤ length label

-- a dead label, of one code point or more: neither it nor any label that begins with it is valid
pub record IsDeadUnder (table : TableValue) (label : List ℕ) : Type 0 where
  pub asks : ¬ AllowsAnyCut table
  pub some : 0 < length label
  pub dead : IsRefused table label ⊎ LeadsNowhere table label

-- the first n code points of the label are dead, and no fewer are
pub record IsShortestDeadUnder (table : TableValue) (label : List ℕ) (n : ℕ) : Type 0 where
  pub within : n ≤ length label
  pub dead : IsDeadUnder table (take n label)
  pub first : (k : ℕ) → k < n → ¬ IsDeadUnder table (take k label)

-- no beginning of the label is dead, nor is the whole
abbrev pub HasNoDeadPrefixUnder : TableValue → List ℕ → Type 0
HasNoDeadPrefixUnder table label = (k : ℕ) → k ≤ length label → ¬ IsDeadUnder table (take k label)
