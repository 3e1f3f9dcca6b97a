-- Laws of the dispositions of what a label spells.
use Rattle.std.proofs.Common.{◌≡◌, ◌↔◌, inl, inr, ℕ, Bool, true, false, List, [], ◌∷◌, map, Some, None, refl, sym, ap, subst, ◌∙◌}
use Rattle.std.specs.Prelude.{bytes_eq}
use Rattle.std.specs.List.{AllByRecursion, Contains}
use Rattle.std.proofs.lemmas.List.Elements.{All-contains}
use Rattle.std.proofs.lemmas.Slice.Eq.{bytes_eq-Decides}
use Rattle.ruleset_text.specs.Actions.{NamedAction}
use Rattle.variant_dispositions.specs.declared.action.Action.{Action}
use Rattle.variant_dispositions.specs.Actions.{disposition as outcome_of, is_allocatable}
use Rattle.variant_dispositions.specs.Kinds.{kind_of_source}
use Rattle.variant_dispositions.specs.Kinds.Kind.{Typed, Unmapped}
use Rattle.variant_dispositions.proofs.LawLemmas.{BlockedBlocks-holds}
use Rattle.variant_table.specs.declared.version.Version.{Version}
use Rattle.variant_table.specs.declared.version.Version.TheVariants.{One, Two, Three}
use Rattle.variant_table.specs.Entries.{Entry, IsOfVersion, TableValue}
use Rattle.variant_table.specs.Segmentations.{HasSegmentation}
use Rattle.variant_table.specs.WellFormed.{IsTable}
use Rattle.variant_table.proofs.MemberLemmas.{Contains-cases, Contains-none}
use Rattle.valid_labels.specs.Dispositions as own
use Rattle.valid_labels.specs.Actions.{action_of, actions_of, matches_rule}
use Rattle.variant_list.specs.Readings.{Mapping, IsReadingOf, kinds_of}
use Rattle.variant_list.specs.Readings.Mapping.{Stays}
use Rattle.answer_json.specs.declared.block.Disposition.TheVariants.{Allocatable}
use Rattle.idn2_answers.specs.Dispositions.{IsAllocatable, IsAllocatableIn, IsClear, allocation, disposition, disposition_in}
use Rattle.idn2_answers.proofs.DispositionTests.{disposition-IsDisposition, one-field, one-outcome, some-outcome, typeless-outcome}
use Rattle.idn2_answers.proofs.ReadingTests.{reading-itself, segmentation-itself}
use Rattle.idn2_answers.proofs.MemberTests.{true-or}
use Rattle.idn2_answers.proofs.RecordedKinds.{recorded-is, typeless-kind}
use Rattle.idn2_laws.specs.DispositionLaws.{BlockedBlocks, DispositionsAreTold, ReadingsDecide, RulesAloneDecide}

-- ---- in version 2

two-itself : (table : TableValue) (label : List ℕ) → table.version ≡ Two → disposition table label label ≡ Some Allocatable
two-itself table label is =
    ap (λ (n : Version). disposition_in n table label label) is
    ∙ ap (λ (b : Bool). Some (allocation b)) (true-or (bytes_eq label label) _ (inl ((bytes_eq-Decides label label).1 refl)))

-- what lacks blocked by some reading
abbrev Lacks : TableValue → List ℕ → List ℕ → Type 0
Lacks table label v = (reading : List Mapping) × IsReadingOf table label v reading × ¬ Contains (kinds_of reading) (Typed 1)

-- a source of version 2 has no type
untyped-source : (n : Version) (e : Entry) → n ≡ Two → IsOfVersion n e → e.type ≡ None
untyped-source One e two is = absurd (let clash : One ≡ Two = two in cc)
untyped-source Two e two is = is.0.0
untyped-source Three e two is = absurd (let clash : Three ≡ Two = two in cc)

pub untyped-kinds : (table : TableValue) (es : List Entry) (number : ℕ) → IsTable table → table.version ≡ Two → AllByRecursion (Contains table.entries) es → Contains (own.kinds_of es) (Typed number) → ⊥
untyped-kinds table [] number of_table two in_table c = Contains-none (Typed number) c
untyped-kinds table (e ∷ es) number of_table two in_table c = elim (Contains-cases (kind_of_source e.type) (own.kinds_of es) (Typed number) c) [
  | inl same ↦
      (let none = untyped-source table.version e two (All-contains (IsOfVersion table.version) table.entries e of_table.of_version in_table.0) in
      let clash : Unmapped ≡ Typed number = sym (ap kind_of_source none) ∙ same in cc)
  | inr later ↦ untyped-kinds table es number of_table two in_table.1 later
]

-- the label itself lacks it, where each source stays
lacks-itself : (table : TableValue) (label : List ℕ) → IsTable table → table.version ≡ Two → HasSegmentation table label → Lacks table label label
lacks-itself table label of_table two has =
    let reads = reading-itself table label has.0 has.1 in
    let s = segmentation-itself table label (map Stays has.0) reads in
    (map Stays has.0, reads.reads, λ c. untyped-kinds table s.0 1 of_table two s.1.of_table (subst (λ ks. Contains ks (Typed 1)) s.2 c))

some-reading : (table : TableValue) (label v : List ℕ) → IsTable table → table.version ≡ Two → HasSegmentation table label → IsAllocatable table label v ↔ Lacks table label v
some-reading table label v of_table two has = (
  λ h. by_case (subst (λ (n : Version). IsAllocatableIn n table label v) two h),
  λ h. subst (λ (n : Version). IsAllocatableIn n table label v) (sym two) (inr h),
)
  where
    by_case : IsAllocatableIn Two table label v → Lacks table label v
    by_case (inl same) = subst (Lacks table label) (sym same) (lacks-itself table label of_table two has)
    by_case (inr h) = h

pub dispositions-told : DispositionsAreTold
dispositions-told = record {
  told = λ table label v sound some spells. disposition-IsDisposition table label sound v some spells;
  one = λ table label v field other is also. one-field table.version (IsClear table label v) (IsAllocatable table label v) field other is also;
  unstated = λ table label v is. ap (λ (n : Version). disposition_in n table label v) is;
  some_reading = some-reading;
  itself = two-itself;
}

-- ---- readings

pub readings-decide : ReadingsDecide
readings-decide = record {
  some = λ table label v sound spells. some-outcome table label sound v spells;
  one = λ table label v d other sound some clear h g. one-outcome table label sound v d other some clear h g;
}

-- without actions what has no type is valid
pub free-allocatable : (table : TableValue) (v : List ℕ) → table.definitions.actions ≡ [] → is_allocatable (outcome_of (matches_rule table v) (actions_of table.definitions) (Unmapped ∷ [])) ≡ true
free-allocatable table v none = ap (λ (actions : List NamedAction). is_allocatable (outcome_of (matches_rule table v) (map (action_of table.definitions) actions) (Unmapped ∷ []))) none

pub rules-alone-decide : RulesAloneDecide
rules-alone-decide = record {
  clear = λ table label v none. inl none;
  same = λ table label v d other sound some none h g. one-outcome table label sound v d other some (inl none) h g;
  free = λ table label v sound some three none actions spells.
      let there = some-outcome table label sound v spells in
      let same = typeless-outcome table label sound v there.0 some none there.1 in
      subst (λ (n : Version). IsAllocatableIn n table label v) (sym three)
      (inl none, (there.0, there.1, ap is_allocatable (sym same) ∙ free-allocatable table v actions));
}

-- ---- what is blocked

no-actions : (table : TableValue) → table.definitions.actions ≡ [] → actions_of table.definitions ≡ []
no-actions table none = ap (map (action_of table.definitions)) none

pub blocked-blocks : BlockedBlocks
blocked-blocks table label v reading three none is c may = by_clear may_three.0
  where
    may_three : IsAllocatableIn Three table label v
    may_three = subst (λ (n : Version). IsAllocatableIn n table label v) three may

    by_clear : IsClear table label v → ⊥
    by_clear (inl typeless) = typeless-kind table 1 typeless (recorded-is table label v reading (Typed 1) is.reads c)
    by_clear (inr clear) =
        let h = may_three.1.1 in
        let there = clear reading h.0 is h.1 (Typed 1) c in
        let blocked = ap (λ (actions : List Action). is_allocatable (outcome_of (matches_rule table v) actions (kinds_of h.0))) (no-actions table none) ∙ BlockedBlocks-holds (matches_rule table v) (kinds_of h.0) there in
        let clash : true ≡ false = sym may_three.1.2 ∙ ap is_allocatable (sym h.2) ∙ blocked in cc
