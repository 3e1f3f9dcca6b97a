-- What is told of a ruleset that has no table: what is wrong with it, and the line of the element that has it. Lines
-- are those that its elements have in memory, beside what they say. Of each code point it is known whether a table may
-- hold it.
use Rattle.std.specs.Prelude.{◌≡◌, ◌≢◌, ◌⊎◌, ◌↔◌, ℕ, ◌<◌, ◌≤◌, Bool, true, IsTrue, List, [], ◌∷◌, ◌++◌, Option, Some, None}
use Rattle.std.specs.Prelude.{AllPairs, Contains, filter, length, map, slice_index, slice_index_or, take}
use Rattle.std.specs.List.{flat_map}
use Rattle.label_patterns.specs.Sets.{is_in}
use Rattle.label_patterns.specs.Rules.{is_context_rule}
use Rattle.label_patterns.specs.declared.span.Span.{Span}
use Rattle.lgr_text.specs.ClassMembers.{class_fault, has, set_named}
use Rattle.lgr_text.specs.DefinitionOrder.{IsOrder, IsOrderFault}
use Rattle.lgr_text.specs.Known.{Known}
use Rattle.lgr_text.specs.PartMatches.{MatchesAsPart, has_anchor, part_fault, rule_named}
use Rattle.lgr_text.specs.inner.Branches.{HaveBranches}
use Rattle.lgr_text.specs.Records.{Class, IsClass, IsRule, Meaning, OfRule, Part, entry, file, meaning, source, variant}
use Rattle.lgr_text.specs.declared.order_error.OrderError.TheVariants as order
use Rattle.lgr_text.specs.declared.records.Action.{Action}
use Rattle.lgr_text.specs.declared.records.Condition.{Condition}
use Rattle.lgr_text.specs.declared.records.Definition.{Definition}
use Rattle.lgr_text.specs.declared.records.Entry.{Entry}
use Rattle.lgr_text.specs.declared.records.Ruleset.{Ruleset}
use Rattle.lgr_text.specs.declared.records.Variant.{Variant}
use Rattle.lgr_text.specs.declared.rule_error.RuleFault.{RuleFault}
use Rattle.lgr_text.specs.declared.rule_error.RuleFault.TheVariants as rule
use Rattle.lgr_text.specs.Repertoire.{is_reflexive, may_be, sources}
use Rattle.lgr_text.specs.Meanings.{IsKept}
use Rattle.lgr_table.specs.Entries.{HasOneType, all_entries, entry_with, needs_type}
use Rattle.lgr_text.specs.Names.{IsRuleOf}
use Rattle.lgr_table.specs.Numbers.{Numbering, types_of, types_with}
use Rattle.lgr_table.specs.Tables.{Defines}
use Rattle.lgr_table.specs.declared.fault.TableError.{TableError}
use Rattle.lgr_table.specs.declared.fault.TableError.TheVariants.{Fault, Memory}
use Rattle.lgr_table.specs.declared.fault.TableFault.{TableFault}
use Rattle.lgr_table.specs.declared.fault.TableFault.TheVariants as told
use Rattle.ruleset_text.specs.ActionSteps.{disposition_of}
use Rattle.ruleset_text.specs.Entries.{Mapped}
use Rattle.ruleset_text.specs.Names.{number_of}
use Rattle.variant_table.specs.Conditions.{is_over_limit}
use Rattle.variant_table.specs.Entries as tables
use Rattle.variant_table.specs.Entries.{TableValue}
use Rattle.variant_table.specs.Forms.{entry_of}
use Rattle.variant_table.specs.WellFormed.{IsTable}

-- ---- definitions (RFC 7940, sections 6.2 to 6.4)

-- the class of this name is known by its code points
pub record IsKnownClass (known : Known) (name : List ℕ) (class : Class) : Type 0 where
  pub found : number_of known.set_names name < length known.sets
  pub members : (c : ℕ) → c ≤ 0x10FFFF → is_in (set_named known name) c ≡ has known class c

-- the rule of this name is known by a pattern, which matches what the rule does, and has the anchor if the rule has it
pub record IsKnownRule (known : Known) (sets : List (List Span)) (name : List ℕ) (rule : Part) : Type 0 where
  pub found : number_of known.rule_names name < length known.rules
  pub matches : MatchesAsPart known sets (rule_named known name) rule
  pub anchor : is_context_rule (rule_named known name) ≡ has_anchor known rule

abbrev pub IsKnown : Known → List (List Span) → List ℕ → Meaning → Type 0
IsKnown known sets name (IsClass class) = IsKnownClass known name class
IsKnown known sets name (IsRule rule) = IsKnownRule known sets name rule

-- such definitions are known, among the entries of the ruleset, and the code points of those that a table may hold. The
-- anchor stands in each branch of a pattern, or in none
pub record Knows (may : ℕ → Bool) (r : Ruleset) (Such : Definition → Type 0) (known : Known) : Type 0 where
  pub entries : known.entries ≡ map entry r.entries.items
  pub points : (c : ℕ) → IsTrue (is_in known.points c) ↔ IsKept may known.entries c
  pub sets : List (List Span)
  pub each : (d : Definition) → Such d → IsKnown known sets d.name (meaning d.meaning)
  pub branches : HaveBranches known.rules

-- its number stands in the order
abbrev pub HasPlace : List Definition → List ℕ → Definition → Type 0
HasPlace ds numbers d = (p : ℕ) × (p < length numbers) × (slice_index_or ds (slice_index numbers p) d ≡ d)

-- the definition has a place in an order of all, in which each comes after those that it names; what comes before it is
-- known
pub record ComesNext (may : ℕ → Bool) (r : Ruleset) (d : Definition) (known : Known) : Type 0 where
  pub numbers : List ℕ
  pub ordered : IsOrder r.definitions.items numbers
  pub place : ℕ
  pub within : place < length numbers
  pub here : slice_index_or r.definitions.items (slice_index numbers place) d ≡ d
  pub knows : Knows may r (HasPlace r.definitions.items (take place numbers)) known

abbrev pub meaning_fault : Known → Meaning → Option RuleFault
meaning_fault known (IsClass class) = class_fault known class
meaning_fault known (IsRule rule) = part_fault known rule

-- a definition on this line has this fault, by the tags of the entries and by what the definitions before it say
pub record HasWrongDefinition (may : ℕ → Bool) (r : Ruleset) (fault : RuleFault) (line : ℕ) : Type 0 where
  pub definition : Definition
  pub here : line ≡ definition.line
  pub known : Known
  pub next : ComesNext may r definition known
  pub wrong : meaning_fault known (meaning definition.meaning) ≡ Some fault

-- the definition has such a place, and no fault by what comes before it
pub record IsFaultless (may : ℕ → Bool) (r : Ruleset) (d : Definition) : Type 0 where
  pub known : Known
  pub next : ComesNext may r d known
  pub faultless : meaning_fault known (meaning d.meaning) ≡ None

abbrev pub AreFaultless : (ℕ → Bool) → Ruleset → Type 0
AreFaultless may r = (d : Definition) → Contains r.definitions.items d → IsFaultless may r d

-- ---- conditions

abbrev pub given : Option Condition → List Condition
given None = []
given (Some c) = c ∷ []

-- those of an entry and of its variants
abbrev pub conditions_in : Entry → List Condition
conditions_in e = given e.condition ++ flat_map (λ v. given v.condition) e.variants.items

-- those of entries, of variants (RFC 7940, section 5.2) and of actions (section 7.1)
abbrev pub conditions : Ruleset → List Condition
conditions r = flat_map conditions_in r.entries.items ++ flat_map (λ a. given a.condition) r.actions.items

-- one on this line asks for a rule that isn't defined
pub record AsksForNoRule (r : Ruleset) (line : ℕ) : Type 0 where
  pub condition : Condition
  pub among : Contains (conditions r) condition
  pub here : line ≡ condition.rule.line
  pub undefined : IsRuleOf (file r) condition.rule.name → ⊥

-- one of an action asks for a rule that has the anchor; on this line stands the action, or the rule's name
pub record AsksForAnchor (may : ℕ → Bool) (r : Ruleset) (line : ℕ) : Type 0 where
  pub action : Action
  pub among : Contains r.actions.items action
  pub condition : Condition
  pub asks : Contains (given action.condition) condition
  pub here : (line ≡ action.line) ⊎ (line ≡ condition.rule.line)
  pub known : Known
  pub knows : Knows may r (Contains r.definitions.items) known
  pub anchored : has_anchor known (OfRule condition.rule.name) ≡ true

-- an action on this line has none of the five dispositions (section 7.3)
pub record HasOtherDisposition (r : Ruleset) (line : ℕ) : Type 0 where
  pub action : Action
  pub among : Contains r.actions.items action
  pub here : line ≡ action.line
  pub other : disposition_of action.disposition ≡ None

-- ---- sources and variants

-- the sources of entries, each code point of a range by itself
abbrev pub all_sources : List Entry → List (List ℕ)
all_sources entries = flat_map (λ e. sources (source e.source)) entries

-- the sources of the entry on this line and of those before it aren't all different
pub record HasSourceTwice (r : Ruleset) (line : ℕ) : Type 0 where
  pub before : List Entry
  pub this : Entry
  pub after : List Entry
  pub all : r.entries.items ≡ before ++ this ∷ after
  pub here : line ≡ this.line
  pub twice : AllPairs (λ a b. a ≢ b) (all_sources (before ++ this ∷ [])) → ⊥

-- each variant has a condition, and they aren't the same
abbrev pub DoDiffer : Option Condition → Option Condition → Type 0
DoDiffer (Some c) (Some d) = (c.kind ≡ d.kind) → (c.rule.name ≡ d.rule.name) → ⊥
DoDiffer c d = ⊥

-- the same code points, and no conditions by which the two differ (section 5.3.5)
pub record IsSameVariant (v w : Variant) : Type 0 where
  pub points : v.points.items ≡ w.points.items
  pub alike : DoDiffer v.condition w.condition → ⊥

-- the variant of this number stands before it
pub record StandsEarlier (variants : List Variant) (number : ℕ) : Type 0 where
  pub within : number < length variants
  pub again : Variant
  pub there : slice_index_or variants number again ≡ again
  pub earlier : ℕ
  pub before : earlier < number
  pub first : Variant
  pub first_there : slice_index_or variants earlier first ≡ first
  pub same : IsSameVariant first again

-- the variant on this line stands before it in its entry
pub record HasVariantTwice (r : Ruleset) (line : ℕ) : Type 0 where
  pub entry : Entry
  pub among : Contains r.entries.items entry
  pub number : ℕ
  pub twice : StandsEarlier entry.variants.items number
  pub here : line ≡ twice.again.line

-- a variant of the entry on this line has no code point (section 5.3.3)
pub record IsNull (e : Entry) (line : ℕ) : Type 0 where
  pub variant : Variant
  pub among : Contains e.variants.items variant
  pub none : variant.points.items ≡ []
  pub here : line ≡ e.line

-- the variant on this line is the source (section 5.3.4), which has another such variant, or one with a condition
pub record IsReflexiveAgain (e : Entry) (source : List ℕ) (line : ℕ) : Type 0 where
  pub itself : Variant
  pub among : Contains e.variants.items itself
  pub reflexive : is_reflexive source (variant itself) ≡ true
  pub here : line ≡ itself.line
  pub other : HasOneType (entry e) source → ⊥

-- the entry has a variant on this line, or stands there with one, that no table says with a source that it keeps
pub record HasVariantOfNoTable (may : ℕ → Bool) (r : Ruleset) (line : ℕ) : Type 0 where
  pub this : Entry
  pub among : Contains r.entries.items this
  pub source_ : List ℕ
  pub own : Contains (sources (source this.source)) source_
  pub kept : may_be may source_ ≡ true
  pub odd : IsNull this line ⊎ IsReflexiveAgain this source_ line

-- ---- limits

-- how many types a ruleset may have beside the predefined ones
abbrev pub max_types : ℕ
max_types = 57

-- more have these names, or are that of having none, if there is to be one
pub record AreTooManyTypes (untyped : Bool) (names : List (List ℕ)) : Type 0 where
  pub types : List (Option (List ℕ))
  pub many : max_types < length types
  pub own : (name : List ℕ) → Contains types (Some name) → Contains names name
  pub none : Contains types None → IsTrue untyped
  pub each_type : AllPairs (λ a b. a ≢ b) (types_with types)

abbrev pub HasTooManyTypes : (ℕ → Bool) → Ruleset → Type 0
HasTooManyTypes may r = AreTooManyTypes (needs_type may (file r).entries) (types_of (file r))

-- a rule stands on this line
pub record HasRuleOn (r : Ruleset) (line : ℕ) : Type 0 where
  pub definition : Definition
  pub among : Contains r.definitions.items definition
  pub here : line ≡ definition.line
  pub part : Part
  pub is : meaning definition.meaning ≡ IsRule part

-- an action does, or the name of the rule that it asks for
pub record HasActionOn (r : Ruleset) (line : ℕ) : Type 0 where
  pub action : Action
  pub among : Contains r.actions.items action
  pub here : (line ≡ action.line) ⊎ Contains (map (λ c. c.rule.line) (given action.condition)) line

-- the entry of one of these sources goes past a limit of a table that has these definitions, and these entries and those
-- of the sources before it: of its entries, of its canonical text, or of the entry by itself
pub record LackRoom (may : ℕ → Bool) (n : Numbering) (e : Entry) (all : List (List ℕ)) (t : TableValue) : Type 0 where
  pub before : List (List ℕ)
  pub source_ : List ℕ
  pub after : List (List ℕ)
  pub are : all ≡ before ++ source_ ∷ after
  pub mapped : List Mapped
  pub is : entry_of t.definitions mapped ≡ entry_with may n (entry e) source_
  pub over : is_over_limit t.version t.definitions
      (t.entries ++ map (entry_with may n (entry e)) (filter (may_be may) before)) (mapped ∷ []) ≡ true

-- so does that of the entry on this line, where a table has what the ruleset defines, and the entries before it
pub record HasEntryTooMany (may : ℕ → Bool) (r : Ruleset) (line : ℕ) : Type 0 where
  pub before : List Entry
  pub this : Entry
  pub after : List Entry
  pub all : r.entries.items ≡ before ++ this ∷ after
  pub here : line ≡ this.line
  pub numbers : Numbering
  pub table : TableValue
  pub is_table : IsTable table
  pub defines : Defines may (file r) numbers table
  pub entries : List tables.Entry
  pub are : entries ≡ all_entries may numbers (map entry before)
  pub lack : LackRoom may numbers this (sources (source this.source)) (record table { entries = entries })

-- ---- by what is told

-- on this line a class or a rule is named that isn't defined; or a definition stands there that is part of itself, or
-- names one that is; or one that names a tag which no entry has; or a condition asks for a rule that isn't defined
abbrev pub NamesNothing : (ℕ → Bool) → Ruleset → ℕ → Type 0
NamesNothing may r line =
    IsOrderFault r.definitions.items (order.Undefined line)
    ⊎ (IsOrderFault r.definitions.items (order.Circular line)
    ⊎ (HasWrongDefinition may r rule.Undefined line ⊎ AsksForNoRule r line))

-- there a definition has a property that isn't known, or an anchor where no pattern has one; or an action asks for the
-- anchor, or has a disposition of its own; or an entry has a variant that no table says
abbrev pub IsNotSupported : (ℕ → Bool) → Ruleset → ℕ → Type 0
IsNotSupported may r line =
    HasWrongDefinition may r rule.NotSupported line
    ⊎ (AsksForAnchor may r line ⊎ (HasOtherDisposition r line ⊎ HasVariantOfNoTable may r line))

-- there is the first of too many definitions; or there are too many types; or an entry is too much for a table, or a
-- rule or an action, of which isn't said what they go past
abbrev pub IsTooMuch : (ℕ → Bool) → Ruleset → ℕ → Type 0
IsTooMuch may r line =
    IsOrderFault r.definitions.items (order.Limit line)
    ⊎ (HasTooManyTypes may r ⊎ (HasEntryTooMany may r line ⊎ (HasRuleOn r line ⊎ HasActionOn r line)))

-- 'Syntax' is a start or an end of labels that stands where it may not (section 6.3.8). No ruleset has a code point that
-- no label has: what has one is left out
abbrev pub HasFault : (ℕ → Bool) → Ruleset → TableFault → ℕ → Type 0
HasFault may r told.Syntax line = HasWrongDefinition may r rule.Misplaced line
HasFault may r told.SameSource line = HasSourceTwice r line
HasFault may r told.SameVariant line = HasVariantTwice r line
HasFault may r told.BadClass line = ⊥
HasFault may r told.Limit line = IsTooMuch may r line
HasFault may r told.NoSuchName line = NamesNothing may r line
HasFault may r told.SameName line = IsOrderFault r.definitions.items (order.Repeated line)
HasFault may r told.NotSupported line = IsNotSupported may r line

-- memory was refused, or the ruleset has the fault that is told
abbrev pub IsFaultOfTable : (ℕ → Bool) → Ruleset → TableError → Type 0
IsFaultOfTable may r (Fault kind line) = HasFault may r kind line
IsFaultOfTable may r Memory = Unit {0}
