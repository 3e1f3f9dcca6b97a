-- Laws of the labels that are listed.
use Rattle.std.specs.Prelude.{◌≡◌, ◌≢◌, ◌↔◌, ◌⊎◌, ℕ, true, List, [], ◌∷◌, ◌++◌, Some, None, Ok, Err}
use Rattle.std.specs.Prelude.{Contains}
use Rattle.std.specs.List.{AllByRecursion, slice_get}
use Rattle.idn_class.specs.declared.properties.Properties.{Properties}
use Rattle.idn_text.specs.Lines.{Numbered, raw_lines}
use Rattle.idn_text.specs.declared.refusal.Refusal.{Refusal}
use Rattle.idn_text.specs.declared.refusal.Refusal.TheVariants.{NotValid}
use Rattle.idn_label.specs.FirstFault.{IsRegistrable}
use Rattle.ruleset_text.specs.declared.action.TriggerKind.TheVariants.{Any}
use Rattle.ruleset_text.specs.Actions.{NamedAction}
use Rattle.ruleset_text.specs.Definitions.{type_number}
use Rattle.variant_dispositions.specs.declared.disposition.Disposition.{Disposition as Outcome}
use Rattle.variant_dispositions.specs.declared.disposition.Disposition.TheVariants.{Invalid}
use Rattle.variant_dispositions.specs.Actions.{is_allocatable}
use Rattle.variant_table.specs.declared.version.Notation.TheVariants.{Table, Ruleset}
use Rattle.variant_table.specs.declared.version.Version.TheVariants.{Two, Three}
use Rattle.variant_table.specs.Entries.{Entry, TableValue, Variant}
use Rattle.variant_table.specs.Gaps.{gaps_of}
use Rattle.variant_table.specs.Texts.{IsTextOf}
use Rattle.variant_table.specs.Versions.{is_version_line}
use Rattle.variant_table.specs.WellFormed.{IsTable, IsWellFormed}
use Rattle.valid_labels.specs.Dispositions.{IsOwnDisposition}
use Rattle.valid_labels.specs.Laws.{AdmitsSources}
use Rattle.valid_labels.specs.Validity.{AsksNothing, HasVariantsOfSources, IsAdmitted, IsSound, IsValid}
use Rattle.variant_list.specs.Laws.{IsOfPoints}
use Rattle.variant_list.specs.Spelling.{Spells}
use Rattle.variant_list.specs.Labels.{IsListOf}
use Rattle.variant_list.specs.MutualLaws.{IsMutual}
use Rattle.variant_list.specs.RulesetLaws.{as_ruleset}
use Rattle.idn2_options.specs.declared.command_line.mode.Mode.TheVariants.{PrintTable}
use Rattle.idn2_options.specs.Settings.{Settings}
use Rattle.idn2_refusals.specs.Requests.{requested_label}
use Rattle.idn2_answers.specs.Dispositions.{IsAllocatable, allocation, disposition}
use Rattle.idn2_answers.specs.Listings.{IsListed}
use Rattle.idn2_answers.specs.Answers.{IsJumpAnswer, IsListing, IsRefusedAs}
use Rattle.idn2_answers.specs.Transcript.{statements, status_of}

-- a label that may be registered and that the table admits; its listing begins after the empty text
pub record IsAsked (o : Settings) (table : TableValue) (label : List ℕ) : Type 0 where
  pub registrable : IsRegistrable o.properties label
  pub admitted : IsAdmitted table label
  pub whole : o.after ≡ []

-- such a label is among its own variants, under a ruleset with the disposition that its own sources give, which is the
-- only one; and in versions 1 and 2 it may be allocated
pub record AdmittedAreListed : Type 0 where
  pub listed : (o : Settings) (table : TableValue) (label : List ℕ) → IsAsked o table label →
      IsListed o table label label
  pub disposed : (table : TableValue) (label : List ℕ) (d : Outcome) → IsSound table → label ≢ [] →
      table.version ≡ Three → IsAdmitted table label → IsOwnDisposition table label d →
      disposition table label label ≡ Some (allocation (is_allocatable d))
  pub allocatable : (table : TableValue) (label : List ℕ) → table.version ≢ Three → IsAllocatable table label label

-- a variant of some entry has the type of this number; a source has it
abbrev pub HasVariantOf : TableValue → ℕ → Type 0
HasVariantOf table number = (e : Entry) × Contains table.entries e
    × ((v : Variant) × Contains e.variants v × (v.type ≡ Some number))

abbrev pub HasSourceOf : TableValue → ℕ → Type 0
HasSourceOf table number = (e : Entry) × Contains table.entries e × (e.type ≡ Some number)

-- the action asks by a rule alone, or by 'any' alone for types that no variant has
abbrev pub AsksOfSources : TableValue → NamedAction → Type 0
AsksOfSources table a =
    (a.trigger ≡ None)
    ⊎ ((a.condition ≡ None) × ((types : List (List ℕ)) × (a.trigger ≡ Some (record { kind = Any; types = types }))
    × ((name : List ℕ) → Contains types name → ¬ HasVariantOf table (type_number table.definitions name))))

-- sources alone refuse: each action that makes invalid stands before all others, and asks so. The first default action
-- counts as one, if something has the type invalid, number 0
pub record RefusesBySources (table : TableValue) : Type 0 where
  pub first : List NamedAction
  pub later : List NamedAction
  pub split : table.definitions.actions ≡ first ++ later
  pub alone : AllByRecursion (λ a. (a.disposition ≡ Invalid) × AsksOfSources table a) first
  pub others : AllByRecursion (λ a. a.disposition ≢ Invalid) later
  pub variants : ¬ HasVariantOf table 0
  pub default : HasSourceOf table 0 → later ≡ []

-- where the table has no gap, each source and variant is one code point, no variant has a condition and sources alone
-- refuse, of two such labels one is a variant of the other exactly where they have the same variants, and exactly where
-- the least one is the same: vs are the variants of the label, and ws those of the other one
abbrev pub ListedAreMutual : Type 0
ListedAreMutual =
    (o : Settings) (table : TableValue) (label other : List ℕ) (vs ws : List (List ℕ)) →
    IsTable table → IsMutual table → RefusesBySources table → IsAsked o table label → IsAsked o table other →
    IsListOf (IsListed o table label) vs → IsListOf (IsListed o table other) ws →
    (Contains vs other ↔ (vs ≡ ws)) × (Contains vs other ↔ (slice_get vs 0 ≡ slice_get ws 0))

-- a table of version 2 each of whose sources and variants is one code point, and each of whose variants is a source
pub record IsSingle (table : TableValue) : Type 0 where
  pub of_table : IsTable table
  pub version : table.version ≡ Two
  pub points : IsOfPoints table
  pub sources : HasVariantsOfSources table

-- a text of version 2 spells the ruleset of the same entries once its first line says so (first and second are these
-- lines). Where each source and variant is one code point and each variant is a source, a run says the same over the
-- table and over that ruleset, in each mode but the printing, and with the same status: the same listings, gaps,
-- refusals and causes; and the same labels are refused, none of them as not valid, and the same are allocatable
pub record RulesetsSayTheSame : Type 0 where
  pub read : (properties : Properties) (text other first second : List ℕ) (lines : List (List ℕ)) (table : TableValue) →
      table.version ≡ Two → raw_lines text ≡ first ∷ lines → raw_lines other ≡ second ∷ lines
      → is_version_line Table first ≡ true → is_version_line Ruleset second ≡ true →
      IsTextOf properties Table text table → IsTextOf properties Ruleset other (as_ruleset table)
  pub said : (o : Settings) (table : TableValue) (lines : List Numbered) → o.mode ≢ PrintTable → IsSingle table →
      statements o (Ok table) lines ≡ statements o (Ok (as_ruleset table)) lines
  pub status : (o : Settings) (table : TableValue) (lines : List Numbered) → IsSingle table →
      status_of o (Ok table) lines ≡ status_of o (Ok (as_ruleset table)) lines
  pub gaps : (table : TableValue) → gaps_of table.entries ≡ gaps_of (as_ruleset table).entries
  pub allocatable : (table : TableValue) (label v : List ℕ) → IsSingle table → v ≢ [] → Spells table label v →
      IsAllocatable table label v ↔ IsAllocatable (as_ruleset table) label v
  pub refused : (table : TableValue) (label : List ℕ) (refusal : Refusal) → IsSingle table → label ≢ [] →
      IsRefusedAs table label refusal ↔ IsRefusedAs (as_ruleset table) label refusal
  pub valid : (table : TableValue) (label : List ℕ) → IsTable table → table.version ≡ Two → label ≢ [] →
      ¬ IsRefusedAs table label NotValid

-- where the table asks nothing of a label that is made of sources, 41 is never answered to a label of one code point or
-- more, nor to a request with one
pub record NotValidIsNeverTold : Type 0 where
  pub listing : (o : Settings) (table : TableValue) (label : List ℕ) → IsWellFormed table.entries →
      AdmitsSources table → label ≢ [] → ¬ IsListing o table label (Err NotValid)
  pub jump : (o : Settings) (table : TableValue) (request : List ℕ) → IsWellFormed table.entries →
      AdmitsSources table → requested_label request ≢ [] → ¬ IsJumpAnswer o table request (Err NotValid)

-- under a table that asks nothing what a label spells is valid
abbrev pub SpelledAreValid : Type 0
SpelledAreValid =
    (table : TableValue) (label v : List ℕ) → IsSound table → AsksNothing table → Spells table label v → IsValid table v
