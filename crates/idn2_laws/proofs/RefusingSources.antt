-- Where sources alone refuse, what a listing of a label that may be asked about leaves out depends on nothing but a rule.
use Rattle.std.proofs.Common.{◌≡◌, ◌≢◌, ◌⊎◌, ◌↔◌, inl, inr, ◌&&◌, ◌||◌, ℕ, ◌+◌, ◌^◌, Bool, true, false, List, [], ◌∷◌, ◌++◌, length, map, Option, Some, None, refl, sym, ap, subst, ◌∙◌, if◌then◌else◌, arith}
use Rattle.std.specs.Prelude.{filter, option_map, unwrap_or}
use Rattle.std.specs.Int.{bit_at}
use Rattle.std.specs.List.{AllByRecursion, Contains, find, list_all, list_any}
use Rattle.std.specs.Option.{is_none, option_or}
use Rattle.std.proofs.lemmas.Bool.{cases_eq, false_from_ne_true}
use Rattle.std.proofs.lemmas.Bool.Decides.{Decides-eqb}
use Rattle.std.proofs.lemmas.List.{map-append}
use Rattle.std.proofs.lemmas.List.Folds.{find-append}
use Rattle.std.proofs.lemmas.Option.{same_Some}
use Rattle.std.proofs.lemmas.Nat.Bits.{bit_at-pow_other, bit_at-zero, bit_at_or}
use Rattle.ruleset_text.specs.Actions.{NamedAction, NamedTrigger}
use Rattle.ruleset_text.specs.Definitions.{Definitions, type_number}
use Rattle.ruleset_text.specs.declared.named_condition.NamedCondition.{NamedCondition}
use Rattle.ruleset_text.specs.declared.action.TriggerKind.TheVariants.{Any as AnyOf}
use Rattle.variant_dispositions.specs.declared.action.Action.{Action}
use Rattle.variant_dispositions.specs.declared.action.TypeTrigger.TheVariants as trigger
use Rattle.variant_dispositions.specs.declared.disposition.Disposition.{Disposition as Outcome}
use Rattle.variant_dispositions.specs.declared.disposition.Disposition.TheVariants.{Invalid, Blocked, Allocatable, Activated, Valid}
use Rattle.variant_dispositions.specs.Actions.{by_types, default_disposition, has_types, is_of, is_predefined, is_triggered, meets}
use Rattle.variant_dispositions.specs.Kinds.{Kind, bit_of, is_mapped, kind_of_source, kind_of_variant}
use Rattle.variant_dispositions.specs.Kinds.Kind.{Unmapped, Untyped, Typed}
use Rattle.variant_dispositions.proofs.MemberLemmas.{Contains-map, any-told}
use Rattle.reading_kinds.proofs.ListMembers.{Contains-filter}
use Rattle.variant_table.specs.declared.version.Version.TheVariants.{Three}
use Rattle.variant_table.specs.Entries.{Entry, TableValue}
use Rattle.variant_table.specs.Forms.{numbered}
use Rattle.variant_table.specs.Segmentations.{IsSegmentation}
use Rattle.variant_table.specs.WellFormed.{IsTable}
use Rattle.variant_table.proofs.MemberLemmas.{Contains-cases, Contains-head, Contains-later, Contains-none}
use Rattle.valid_labels.specs.Actions.{action_of, actions_of, matches_rule, trigger_of, with_type, with_types}
use Rattle.valid_labels.specs.Dispositions.{disposition_by}
use Rattle.valid_labels.specs.Dispositions as own
use Rattle.valid_labels.specs.Validity.{IsAdmitted}
use Rattle.variant_list.specs.MutualLaws.{IsMutual}
use Rattle.variant_list.specs.Readings.{Mapping, entry_of, kind_of, kinds_of, IsClearVariant, MayAllBeMade, MayBeMade}
use Rattle.variant_list.specs.Readings.Mapping.{Stays, Maps}
use Rattle.variant_list.specs.Spelling.{Spells}
use Rattle.variant_list.proofs.ReadOnceLemmas.{points_are_read_once}
use Rattle.idn2_answers.specs.Dispositions.{IsLeftOut, IsReadingFor}
use Rattle.idn2_answers.proofs.AdmittedLabels.{sound_table}
use Rattle.idn2_answers.proofs.DispositionTests.{some-outcome}
use Rattle.idn2_laws.specs.ListingLaws.{AsksOfSources, HasSourceOf, HasVariantOf, RefusesBySources}

-- ---- the first of some actions

-- it is found where some action is triggered, and else there is none
abbrev IsFirst : (Action → Bool) → List Action → Bool → Type 0
IsFirst p actions true = (a : Action) × Contains actions a × (find p actions ≡ Some a)
IsFirst p actions false = find p actions ≡ None

first-is : (p : Action → Bool) (actions : List Action) → IsFirst p actions (list_any p actions)
first-is p [] = refl
first-is p (a ∷ actions) = by_test (p a) refl (first-is p actions)
  where
    by_later : (b : Bool) → p a ≡ false → IsFirst p actions b → IsFirst p (a ∷ actions) b
    by_later true not h = (h.0, Contains-later a actions h.0 h.1, ap (λ t. if t then Some a else find p actions) not ∙ h.2)
    by_later false not h = ap (λ t. if t then Some a else find p actions) not ∙ h

    by_test : (t : Bool) → p a ≡ t → IsFirst p actions (list_any p actions) → IsFirst p (a ∷ actions) (list_any p (a ∷ actions))
    by_test true is later = subst (IsFirst p (a ∷ actions)) (sym (ap (λ t. t || list_any p actions) is)) (a, Contains-head a actions, ap (λ t. if t then Some a else find p actions) is)
    by_test false is later = subst (IsFirst p (a ∷ actions)) (sym (ap (λ t. t || list_any p actions) is)) (by_later (list_any p actions) is later)

-- ---- the types of an action

-- a bit of a word of types is that of one of them
type-bit : (d : Definitions) (word number : ℕ) (names : List (List ℕ)) → bit_at (with_types d word names) (number + 2) ≡ 1
    → (bit_at word (number + 2) ≡ 1) ⊎ ((name : List ℕ) × Contains names name × (type_number d name ≡ number))
type-bit d word number [] h = inl h
type-bit d word number (name ∷ names) h = elim (type-bit d (with_type d word name) number names h) [
  | inl before ↦ elim (cases_eq (type_number d name) number) [
    | inl same ↦ inr (name, Contains-head name names, same)
    | inr other ↦
        let bit : ℕ = bit_of (kind_of_variant (Some (type_number d name))) in
        let apart : number + 2 ≢ bit = λ e. other (omega (arith, e)) in
        let none = bit_at-pow_other bit (number + 2) apart in
        let both = bit_at_or word (2 ^ bit) (number + 2) in
        inl (omega (arith, before, none, both))
  ]
  | inr later ↦ inr (later.0, Contains-later name names later.0 later.1, later.2)
]

is-type : (types number : ℕ) → is_of types (Typed number) ≡ true → bit_at types (number + 2) ≡ 1
is-type types number h = (Decides-eqb (bit_at types (number + 2)) 1).0 h

of-types : (d : Definitions) (number : ℕ) (names : List (List ℕ)) → is_of (with_types d 0 names) (Typed number) ≡ true → (name : List ℕ) × Contains names name × (type_number d name ≡ number)
of-types d number names h = elim (type-bit d 0 number names (is-type (with_types d 0 names) number h)) [
  | inl zero ↦ absurd (let none = bit_at-zero (number + 2) in omega (arith, zero, none))
  | inr found ↦ found
]

-- the type invalid has the bit 2
of-invalid : (number : ℕ) → is_of 4 (Typed number) ≡ true → number ≡ 0
of-invalid number h = elim (cases_eq number 0) [
  | inl same ↦ same
  | inr other ↦ absurd (
      let apart : number + 2 ≢ 2 = λ e. other (omega (arith, e)) in
      let none : bit_at 4 (number + 2) ≡ 0 = bit_at-pow_other 2 (number + 2) apart in
      let one = is-type 4 number h in
      omega (arith, one, none))
]

-- ---- what a reading records

-- the type of a variant, or of a source that stands in the label
abbrev Comes : TableValue → List Entry → ℕ → Type 0
Comes table es number = HasVariantOf table number ⊎ Contains (own.kinds_of es) (Typed number)

kinds-come : (table : TableValue) (label : List ℕ) (place : ℕ) (reading : List Mapping) (number : ℕ) → AllByRecursion (Contains table.entries) (map entry_of reading) → MayAllBeMade table label place reading
    → Contains (kinds_of reading) (Typed number) → Comes table (map entry_of reading) number
kinds-come table label place [] number there made c = absurd (Contains-none (Typed number) c)
kinds-come table label place (m ∷ reading) number there made c = elim (Contains-cases (kind_of m) (kinds_of reading) (Typed number) c) [
  | inl same ↦ by_mapping m there.0 made.0 same
  | inr later ↦ elim (kinds-come table label (place + length (entry_of m).source) reading number there.1 made.1 later) [
    | inl variant ↦ inl variant
    | inr source ↦ inr (Contains-later (kind_of_source (entry_of m).type) (own.kinds_of (map entry_of reading)) (Typed number) source)
  ]
]
  where
    by_type : (type : Option ℕ) → kind_of_variant type ≡ Typed number → type ≡ Some number
    by_type None e = absurd (let clash : Untyped ≡ Typed number = e in cc)
    by_type (Some n) e = let same : n ≡ number = cc in ap (λ x. Some x) same

    by_mapping : (m : Mapping) → Contains table.entries (entry_of m) → MayBeMade table label place m → kind_of m ≡ Typed number → Comes table (entry_of m ∷ map entry_of reading) number
    by_mapping (Stays e) at is same =
        inr (subst (Contains (kind_of_source e.type ∷ own.kinds_of (map entry_of reading))) same (Contains-head (kind_of_source e.type) (own.kinds_of (map entry_of reading))))
    by_mapping (Maps e v) at is same = inl (e, at, (v, is.0, by_type v.type same))

-- of the label itself
own-come : (table : TableValue) (es : List Entry) (number : ℕ) → Contains (own.kinds_of es) (Typed number) → Comes table es number
own-come table es number c = inr c

-- a source of the table has it
own-source : (table : TableValue) (es : List Entry) (number : ℕ) → AllByRecursion (Contains table.entries) es → Contains (own.kinds_of es) (Typed number) → HasSourceOf table number
own-source table [] number there c = absurd (Contains-none (Typed number) c)
own-source table (e ∷ es) number there c = elim (Contains-cases (kind_of_source e.type) (own.kinds_of es) (Typed number) c) [
  | inl same ↦ (e, there.0, by_type e.type same)
  | inr later ↦ own-source table es number there.1 later
]
  where
    by_type : (type : Option ℕ) → kind_of_source type ≡ Typed number → type ≡ Some number
    by_type None e = absurd (let clash : Unmapped ≡ Typed number = e in cc)
    by_type (Some n) e = let same : n ≡ number = cc in ap (λ x. Some x) same

-- ---- the default actions

-- none but the first makes invalid
abbrev others_tell : Bool → Bool → Bool → Outcome
others_tell two three four =
    unwrap_or (option_map (λ (action : Action). action.disposition)
    (if two && true then Some (by_types Blocked (Some (trigger.Any 8)))
    else if three && true then Some (by_types Allocatable (Some (trigger.Any 16)))
    else if four && true then Some (by_types Activated (Some (trigger.All 32)))
    else Some (by_types Valid None))) Valid

others-valid : (two three four : Bool) → others_tell two three four ≢ Invalid
others-valid true three four e = let clash : Blocked ≡ Invalid = e in cc
others-valid false true four e = let clash : Allocatable ≡ Invalid = e in cc
others-valid false false true e = let clash : Activated ≡ Invalid = e in cc
others-valid false false false e = let clash : Valid ≡ Invalid = e in cc

-- by whether something has it
abbrev first_default : (ℕ → Bool) → List Kind → Bool → Outcome
first_default matched kinds invalid =
    let seen = filter is_predefined kinds in
    unwrap_or (option_map (λ (action : Action). action.disposition) (if invalid && true then Some (by_types Invalid (Some (trigger.Any 4)))
    else if list_any (is_of 8) seen && true then Some (by_types Blocked (Some (trigger.Any 8)))
    else if list_any (is_of 16) seen && true then Some (by_types Allocatable (Some (trigger.Any 16)))
    else if (list_any is_mapped seen && list_all (is_of 32) (filter is_mapped seen)) && true then Some (by_types Activated (Some (trigger.All 32)))
    else Some (by_types Valid None))) Valid

pub default-valid : (matched : ℕ → Bool) (kinds : List Kind) → ¬ Contains kinds (Typed 0) → unwrap_or (default_disposition matched kinds) Valid ≢ Invalid
default-valid matched kinds none e =
    let seen = filter is_predefined kinds in
    let no_invalid : list_any (is_of 4) seen ≡ false = false_from_ne_true (list_any (is_of 4) seen) (λ h. (let g = (any-told (is_of 4) seen).0 h in in_seen g.0 ((Contains-filter is_predefined kinds g.0).0 g.1).0 g.2)) in
    others-valid (list_any (is_of 8) seen) (list_any (is_of 16) seen) (list_any is_mapped seen && list_all (is_of 32) (filter is_mapped seen))
    (sym (ap (first_default matched kinds) no_invalid) ∙ e)
  where
    in_seen : (kind : Kind) → Contains kinds kind → is_of 4 kind ≡ true → ⊥
    in_seen Unmapped c h = let clash : false ≡ true = h in cc
    in_seen Untyped c h = let clash : false ≡ true = h in cc
    in_seen (Typed number) c h = none (subst (λ n. Contains kinds (Typed n)) (of-invalid number h) c)

-- and where something has the type invalid, that one does
default-invalid : (matched : ℕ → Bool) (kinds : List Kind) → Contains kinds (Typed 0) → unwrap_or (default_disposition matched kinds) Valid ≡ Invalid
default-invalid matched kinds c =
    let seen = filter is_predefined kinds in
    let some = (any-told (is_of 4) seen).1 (Typed 0, (Contains-filter is_predefined kinds (Typed 0)).1 (c, refl), refl) in
    ap (first_default matched kinds) some

-- ---- what is asked of sources

asks-of : (table : TableValue) (actions : List NamedAction) (a : NamedAction) → AllByRecursion (λ (x : NamedAction). (x.disposition ≡ Invalid) × AsksOfSources table x) actions → Contains actions a → AsksOfSources table a
asks-of table [] a all c = absurd (Contains-none a c)
asks-of table (x ∷ actions) a all c = elim (Contains-cases x actions a c) [
  | inl same ↦ subst (AsksOfSources table) same all.0.1
  | inr later ↦ asks-of table actions a all.1 later
]

-- an action that asks for any of some types has no rule, and no variant has one of these
asks_any : (table : TableValue) (a : NamedAction) (types : List (List ℕ)) → a.trigger ≡ Some (record { kind = AnyOf; types = types }) → AsksOfSources table a
    → (a.condition ≡ None) × ((name : List ℕ) → Contains types name → ¬ HasVariantOf table (type_number table.definitions name))
asks_any table a types asks (inl none) = absurd (let clash : Some (record { kind = AnyOf; types = types }) ≡ None = sym asks ∙ none in cc)
asks_any table a types asks (inr any) =
    let both : record { kind = AnyOf; types = any.1.0 } ≡ record { kind = AnyOf; types = types } = same_Some _ _ (sym any.1.1 ∙ asks) in
    let same : any.1.0 ≡ types = ap (λ (t : NamedTrigger). t.types) both in
    (any.0, λ name c. any.1.2 name (subst (λ (names : List (List ℕ)). Contains names name) (sym same) c))

-- ---- actions that make invalid, under a table

module _ (table : TableValue) (of_table : IsTable table) (mutual_in : IsMutual table) (refuses : RefusesBySources table) where
  abbrev d : Definitions
  d = table.definitions

  -- those that make invalid, and the others
  abbrev pub refusing : List Action
  refusing = map (action_of d) refuses.first

  abbrev others : List Action
  others = map (action_of d) refuses.later

  actions-split : actions_of d ≡ refusing ++ others
  actions-split = ap (map (action_of d)) refuses.split ∙ map-append (action_of d) refuses.first refuses.later

  -- an action that asks for a rule alone is triggered by it
  abbrev by_rule : (ℕ → Bool) → Action → Bool
  by_rule matched a = is_none a.types && meets matched a.condition

  -- the label matches the rule of such an action
  abbrev pub refused_by_rule : List ℕ → Bool
  refused_by_rule v = list_any (by_rule (matches_rule table v)) refusing

  -- the kinds come from no type of which an action of those asks for any
  abbrev IsHarmless : List Kind → List NamedAction → Type 0
  IsHarmless kinds actions = (a : NamedAction) → Contains actions a → (types : List (List ℕ)) → a.trigger ≡ Some (record { kind = AnyOf; types = types })
      → list_any (is_of (with_types d 0 types)) kinds ≡ false

  triggered-by_rule : (matched : ℕ → Bool) (kinds : List Kind) (a : NamedAction) → AsksOfSources table a
      → ((types : List (List ℕ)) → a.trigger ≡ Some (record { kind = AnyOf; types = types }) → list_any (is_of (with_types d 0 types)) kinds ≡ false)
      → is_triggered matched kinds (action_of d a) ≡ by_rule matched (action_of d a)
  triggered-by_rule matched kinds a (inl none) harmless =
      ap (λ (t : Option NamedTrigger). has_types (option_map (trigger_of d) t) kinds && meets matched (action_of d a).condition) none
      ∙ sym (ap (λ (t : Option NamedTrigger). is_none (option_map (trigger_of d) t) && meets matched (action_of d a).condition) none)
  triggered-by_rule matched kinds a (inr any) harmless =
      ap (λ (t : Option NamedTrigger). has_types (option_map (trigger_of d) t) kinds && meets matched (action_of d a).condition) any.1.1
      ∙ ap (λ b. b && meets matched (action_of d a).condition) (harmless any.1.0 any.1.1)
      ∙ sym (ap (λ (t : Option NamedTrigger). is_none (option_map (trigger_of d) t) && meets matched (action_of d a).condition) any.1.1)

  any-by_rule : (matched : ℕ → Bool) (kinds : List Kind) (actions : List NamedAction) → AllByRecursion (λ a. (a.disposition ≡ Invalid) × AsksOfSources table a) actions → IsHarmless kinds actions
      → list_any (is_triggered matched kinds) (map (action_of d) actions) ≡ list_any (by_rule matched) (map (action_of d) actions)
  any-by_rule matched kinds [] all harmless = refl
  any-by_rule matched kinds (a ∷ actions) all harmless =
      ap (λ (b : Bool). b || list_any (is_triggered matched kinds) (map (action_of d) actions)) (triggered-by_rule matched kinds a all.0.1 (harmless a (Contains-head a actions)))
      ∙ ap (λ (b : Bool). by_rule matched (action_of d a) || b) (any-by_rule matched kinds actions all.1 (λ other c. harmless other (Contains-later a actions other c)))

  -- ---- their dispositions

  refusing-invalid : (actions : List NamedAction) (a : Action) → AllByRecursion (λ (x : NamedAction). (x.disposition ≡ Invalid) × AsksOfSources table x) actions → Contains (map (action_of d) actions) a → a.disposition ≡ Invalid
  refusing-invalid [] a all c = absurd (Contains-none a c)
  refusing-invalid (x ∷ actions) a all c = elim (Contains-cases (action_of d x) (map (action_of d) actions) a c) [
    | inl same ↦ ap (λ (y : Action). y.disposition) (sym same) ∙ all.0.0
    | inr later ↦ refusing-invalid actions a all.1 later
  ]

  others-tell : (actions : List NamedAction) (a : Action) → AllByRecursion (λ (x : NamedAction). x.disposition ≢ Invalid) actions → Contains (map (action_of d) actions) a → a.disposition ≢ Invalid
  others-tell [] a all c = absurd (Contains-none a c)
  others-tell (x ∷ actions) a all c = elim (Contains-cases (action_of d x) (map (action_of d) actions) a c) [
    | inl same ↦ λ e. all.0 (ap (λ (y : Action). y.disposition) same ∙ e)
    | inr later ↦ others-tell actions a all.1 later
  ]

  -- the disposition by some kinds
  abbrev outcome_by : (ℕ → Bool) → List Kind → Option Action → Outcome
  outcome_by matched kinds found = unwrap_or (option_map (λ (a : Action). a.disposition) found) (unwrap_or (default_disposition matched kinds) Valid)

  found-split : (matched : ℕ → Bool) (kinds : List Kind) → find (is_triggered matched kinds) (actions_of d) ≡ option_or (find (is_triggered matched kinds) refusing) (find (is_triggered matched kinds) others)
  found-split matched kinds = ap (find (is_triggered matched kinds)) actions-split ∙ find-append (is_triggered matched kinds) refusing others

  -- where one of those is triggered, it is invalid
  triggered-invalid : (v : List ℕ) (kinds : List Kind) → list_any (is_triggered (matches_rule table v) kinds) refusing ≡ true → disposition_by table v kinds ≡ Invalid
  triggered-invalid v kinds some =
      let first = subst (IsFirst (is_triggered (matches_rule table v) kinds) refusing) some (first-is (is_triggered (matches_rule table v) kinds) refusing) in
      ap (outcome_by (matches_rule table v) kinds) (found-split (matches_rule table v) kinds ∙ ap (λ (found : Option Action). option_or found (find (is_triggered (matches_rule table v) kinds) others)) first.2)
      ∙ refusing-invalid refuses.first first.0 refuses.alone first.1

  -- where none is, and nothing has the type invalid, it isn't
  not-triggered : (v : List ℕ) (kinds : List Kind) → list_any (is_triggered (matches_rule table v) kinds) refusing ≡ false → (Contains kinds (Typed 0) → ⊥) → disposition_by table v kinds ≢ Invalid
  not-triggered v kinds none no_invalid e =
      by_later (list_any (is_triggered matched kinds) others) (first-is (is_triggered matched kinds) others)
    where
      matched : ℕ → Bool
      matched = matches_rule table v

      first : find (is_triggered (matches_rule table v) kinds) refusing ≡ None
      first = subst (IsFirst (is_triggered (matches_rule table v) kinds) refusing) none (first-is (is_triggered (matches_rule table v) kinds) refusing)

      as_later : outcome_by (matches_rule table v) kinds (find (is_triggered (matches_rule table v) kinds) others) ≡ Invalid
      as_later = sym (ap (outcome_by (matches_rule table v) kinds) (found-split (matches_rule table v) kinds ∙ ap (λ (found : Option Action). option_or found (find (is_triggered (matches_rule table v) kinds) others)) first)) ∙ e

      by_later : (b : Bool) → IsFirst (is_triggered (matches_rule table v) kinds) others b → ⊥
      by_later true h = others-tell refuses.later h.0 refuses.others h.1 (sym (ap (outcome_by (matches_rule table v) kinds) h.2) ∙ as_later)
      by_later false h = default-valid (matches_rule table v) kinds no_invalid (sym (ap (outcome_by (matches_rule table v) kinds) h) ∙ as_later)

  -- ---- a label that may be asked about, and what it spells

  module _ (label : List ℕ) (admitted : IsAdmitted table label) where
    -- it triggers none of those
    own-quiet : (es : List Entry) → IsSegmentation table es label → list_any (is_triggered (matches_rule table label) (own.kinds_of es)) refusing ≡ false
    own-quiet es is = false_from_ne_true (list_any (is_triggered (matches_rule table label) (own.kinds_of es)) refusing)
        (λ some. admitted.not_invalid (es, is, triggered-invalid label (own.kinds_of es) some))

    -- so no source of it has a type of which one of those asks for any
    own-harmless : (es : List Entry) → IsSegmentation table es label → (a : NamedAction) → Contains refuses.first a → (types : List (List ℕ)) → a.trigger ≡ Some (record { kind = AnyOf; types = types })
        → a.condition ≡ None → list_any (is_of (with_types d 0 types)) (own.kinds_of es) ≡ true → ⊥
    own-harmless es is a c types asks free some =
        let triggered : is_triggered (matches_rule table label) (own.kinds_of es) (action_of d a) ≡ true =
        ap (λ (t : Option NamedTrigger). has_types (option_map (trigger_of d) t) (own.kinds_of es) && meets (matches_rule table label) (action_of d a).condition) asks
        ∙ ap (λ (b : Bool). b && meets (matches_rule table label) (action_of d a).condition) some
        ∙ ap (λ (named : Option NamedCondition). meets (matches_rule table label) (option_map (numbered d) named)) free in
        let found = (any-told (is_triggered (matches_rule table label) (own.kinds_of es)) refusing).1 (action_of d a, (Contains-map (action_of d) refuses.first (action_of d a)).1 (a, c, refl), triggered) in
        let clash : false ≡ true = sym (own-quiet es is) ∙ found in cc

    -- nor the type invalid
    own-valid : (es : List Entry) → IsSegmentation table es label → Contains (own.kinds_of es) (Typed 0) → ⊥
    own-valid es is c = admitted.not_invalid (es, is, by_default)
      where
        no_others : refuses.later ≡ []
        no_others = refuses.default (own-source table es 0 is.of_table c)

        none : find (is_triggered (matches_rule table label) (own.kinds_of es)) (actions_of d) ≡ None
        none =
            found-split (matches_rule table label) (own.kinds_of es)
            ∙ ap (λ (found : Option Action). option_or found (find (is_triggered (matches_rule table label) (own.kinds_of es)) others))
            (subst (IsFirst (is_triggered (matches_rule table label) (own.kinds_of es)) refusing) (own-quiet es is) (first-is (is_triggered (matches_rule table label) (own.kinds_of es)) refusing))
            ∙ ap (λ (actions : List NamedAction). find (is_triggered (matches_rule table label) (own.kinds_of es)) (map (action_of d) actions)) no_others

        by_default : disposition_by table label (own.kinds_of es) ≡ Invalid
        by_default =
            ap (outcome_by (matches_rule table label) (own.kinds_of es)) none ∙ default-invalid (matches_rule table label) (own.kinds_of es) c

    module _ (v : List ℕ) where
      -- what a reading of v records is harmless
      harmless : (reading : List Mapping) → IsReadingFor table label v reading → IsHarmless (kinds_of reading) refuses.first
      harmless reading is a c types asks = false_from_ne_true (list_any (is_of (with_types d 0 types)) (kinds_of reading)) refuted
        where
          es : List Entry
          es = map entry_of reading

          by_kind : (kind : Kind) → Contains (kinds_of reading) kind → is_of (with_types d 0 types) kind ≡ true → ⊥
          by_kind Unmapped at h = let clash : false ≡ true = h in cc
          by_kind Untyped at h = let clash : false ≡ true = h in cc
          by_kind (Typed number) at h =
              let asked = asks_any table a types asks (asks-of table refuses.first a refuses.alone c) in
              elim (kinds-come table label 0 reading number is.reads.segmentation.of_table is.reads.made at) [
                | inl variant ↦ (let name = of-types d number types h in asked.1 name.0 name.1 (subst (HasVariantOf table) (sym name.2) variant))
                | inr source ↦
                    own-harmless (map entry_of reading) is.reads.segmentation a c types asks asked.0
                    ((any-told (is_of (with_types d 0 types)) (own.kinds_of (map entry_of reading))).1 (Typed number, source, h))
              ]

          refuted : list_any (is_of (with_types d 0 types)) (kinds_of reading) ≡ true → ⊥
          refuted some = let g = (any-told (is_of (with_types d 0 types)) (kinds_of reading)).0 some in by_kind g.0 g.1 g.2

      no-invalid : (reading : List Mapping) → IsReadingFor table label v reading → Contains (kinds_of reading) (Typed 0) → ⊥
      no-invalid reading is c = elim (kinds-come table label 0 reading 0 is.reads.segmentation.of_table is.reads.made c) [
        | inl variant ↦ refuses.variants variant
        | inr source ↦ own-valid (map entry_of reading) is.reads.segmentation source
      ]

      -- so by each reading v is invalid exactly where it matches a rule that refuses
      by-reading : (reading : List Mapping) → IsReadingFor table label v reading → (disposition_by table v (kinds_of reading) ≡ Invalid) ↔ (refused_by_rule v ≡ true)
      by-reading reading is =
          let same = any-by_rule (matches_rule table v) (kinds_of reading) refuses.first refuses.alone (harmless reading is) in (
            λ e. by_test (refused_by_rule v) refl e same,
            λ h. triggered-invalid v (kinds_of reading) (same ∙ h),
          )
        where
          by_test : (b : Bool) → refused_by_rule v ≡ b → disposition_by table v (kinds_of reading) ≡ Invalid → list_any (is_triggered (matches_rule table v) (kinds_of reading)) refusing ≡ refused_by_rule v → refused_by_rule v ≡ true
          by_test true b e same = b
          by_test false b e same = absurd (not-triggered v (kinds_of reading) (same ∙ b) (no-invalid reading is) e)

-- a ruleset refuses the label by a rule alone
pub record IsRefusedByRule (table : TableValue) (refuses : RefusesBySources table) (v : List ℕ) : Type 0 where
  pub of_ruleset : table.version ≡ Three
  pub matched : list_any (λ (a : Action). is_none a.types && meets (matches_rule table v) a.condition) (map (action_of table.definitions) refuses.first) ≡ true

-- a listing leaves out exactly what is refused so
pub left-by_rule : (table : TableValue) → IsTable table → IsMutual table → (refuses : RefusesBySources table) → (label : List ℕ) → IsAdmitted table label → (v : List ℕ) → Spells table label v → IsLeftOut table label v ↔ IsRefusedByRule table refuses v
left-by_rule table of_table mutual_in refuses label admitted v spells = (
  λ out. record { of_ruleset = out.of_ruleset; matched = (by-reading table of_table mutual_in refuses label admitted v out.invalid.0 out.invalid.1).0 out.invalid.2 },
  λ h.
      let there = some-outcome table label (sound_table table of_table) v spells in
      let outcome = there.1 in
      let invalid = (by-reading table of_table mutual_in refuses label admitted v outcome.0 outcome.1).1 h.matched in
      record {
        of_ruleset = h.of_ruleset;
        clear = inr (λ one other is also. clear one other is.reads also.reads);
        invalid = (outcome.0, outcome.1, invalid);
      },
)
  where
    clear : IsClearVariant table label v
    clear = points_are_read_once.clear table label v mutual_in.well_formed mutual_in.points (points_are_read_once.not_twice table mutual_in.well_formed mutual_in.free)
