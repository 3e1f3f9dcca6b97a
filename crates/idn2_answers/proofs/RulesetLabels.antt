-- Labels are valid, listed and disposed of under a table as under its ruleset.
use Rattle.std.proofs.Common.{◌≡◌, ◌↔◌, ◌⊎◌, inl, inr, ℕ, Bool, true, false, Option, Some, None, List, map, refl, sym, ap, subst, ◌∙◌}
use Rattle.std.specs.Prelude.{codes, is_some}
use Rattle.std.specs.List.{AllByRecursion, Contains, list_any}
use Rattle.idn_class.specs.declared.properties.Properties.{Properties}
use Rattle.answer_json.specs.declared.block.Disposition.{Disposition}
use Rattle.lgr_text.specs.Dispositions.{BreaksDemand, HasDisposition, IsAccepted, IsVariant}
use Rattle.lgr_text.specs.Dispositions as lgr
use Rattle.lgr_text.specs.Meanings.{Meanings}
use Rattle.lgr_text.specs.Names.{HasItsNames}
use Rattle.lgr_text.specs.Readings as lgr_readings
use Rattle.lgr_text.specs.Readings.{Step, recorded}
use Rattle.lgr_text.specs.Records.{Ruleset}
use Rattle.lgr_table.specs.Numbers.{Numbering}
use Rattle.lgr_table.specs.Tables.{IsOfSources, Says}
use Rattle.valid_labels.specs.Dispositions.{IsClearItself, disposition_by}
use Rattle.valid_labels.specs.Eligible.{IsEligible}
use Rattle.valid_labels.specs.Validity.{AllowsAnyCut, IsAdmitted}
use Rattle.valid_labels.proofs.EligibleLemmas.{eligible-segmentation}
use Rattle.valid_labels.proofs.ItselfLemmas.{typeless-clear}
use Rattle.variant_dispositions.specs.declared.disposition.Disposition.TheVariants as outcomes
use Rattle.variant_dispositions.specs.Actions.{is_allocatable}
use Rattle.variant_dispositions.specs.Kinds.{Kind}
use Rattle.variant_list.specs.Readings.{Mapping, kinds_of}
use Rattle.variant_list.specs.Readings.Mapping.{Stays}
use Rattle.variant_list.proofs.ReadingLemmas.{Spells-read}
use Rattle.variant_table.specs.declared.version.Version.{Version}
use Rattle.variant_table.specs.declared.version.Version.TheVariants.{Three}
use Rattle.variant_table.proofs.MemberLemmas.{Contains-head}
use Rattle.variant_table.proofs.MemberLists.{all-members, any-one}
use Rattle.variant_table.specs.Entries.{Entry, TableValue, Variant, has_types, source_of, whole}
use Rattle.variant_table.specs.Segmentations.{IsMadeOfSources}
use Rattle.idn2_options.specs.Settings.{Settings}
use Rattle.idn2_answers.specs.Dispositions.{HasOutcome, IsAllocatableIn, IsAllocation, IsClear, IsDisposition, IsFieldOf, IsReadingFor}
use Rattle.idn2_answers.specs.Listings.{IsListed}
use Rattle.idn2_answers.specs.Rulesets.{IsDispositionBy, IsListedAs}
use Rattle.idn2_answers.proofs.ReadingTests.{clear-itself, kinds-of, outcome-itself, reading-itself, some-reading}
use Rattle.idn2_answers.proofs.RulesetDemands.{demands-alike, disposition-broken, had-alike, invalid-alike}
use Rattle.idn2_answers.proofs.RulesetClear.{clear-alike}
use Rattle.idn2_answers.proofs.RulesetCuts.{eligible-alike, eligible-made, eligible-of, may}
use Rattle.idn2_answers.proofs.RulesetKinds.{are-numbered, clash, same-kinds, steps-of}
use Rattle.idn2_answers.proofs.RulesetReadings.{from-for, mapped, to-for}

-- what may go with a label
allocation-alike : (A B : Type 0) (field : Option Disposition) → A ↔ B → IsAllocation A field → IsAllocation B field
allocation-alike A B field alike (inl is) = inl (alike.0 is.0, is.1)
allocation-alike A B field alike (inr other) = inr (λ b. other.0 (alike.1 b), other.1)

field-alike : (C D A B : Type 0) (field : Option Disposition) → C ↔ D → A ↔ B → IsFieldOf Three C A field → IsFieldOf Three D B field
field-alike C D A B field clear alike (inl is) = inl (clear.0 is.0, allocation-alike A B field alike is.1)
field-alike C D A B field clear alike (inr other) = inr (λ d. other.0 (clear.1 d), other.1)

none-of : (o : Option ℕ) → (is_some o ≡ true → ⊥) → o ≡ None
none-of None never = refl
none-of (Some k) never = absurd (never refl)

back : {A B : Type 0} → A ↔ B → B ↔ A
back alike = (alike.1, alike.0)

module _ (properties : Properties) (r : Ruleset) (m : Meanings) (n : Numbering) (t : TableValue) (names : HasItsNames r) (says : Says properties r m n t) where
  abbrev kept : ℕ → Bool
  kept = may properties r m n t names says

  abbrev put : Step → Mapping
  put = mapped properties r m n t names says

  abbrev Made : List ℕ → Type 0
  Made = IsOfSources t.entries

  abbrev read_for : (label v : List ℕ) (reading : List Step) → lgr_readings.IsReading kept r m label v reading → IsReadingFor t label v (map put reading)
  read_for = to-for properties r m n t names says

  -- ---- dispositions: by a reading of the ruleset, and by one of the table

  module _ (label v : List ℕ) (made : Made v) (met : ¬ BreaksDemand r m v) where
    to-invalid : HasDisposition kept r m label v (codes "invalid") → HasOutcome t label v outcomes.Invalid
    to-invalid h =
        let steps = steps-of properties r m n t names says label v h.0 h.1 in (
          map put h.0,
          read_for label v h.0 h.1,
          (invalid-alike properties r m n t names says v made (map recorded h.0) (kinds_of (map put h.0)) (same-kinds properties r m n t names says h.0 steps)
              (are-numbered properties r m n t names says h.0 steps) met).0 h.2,
        )

    from-invalid : HasOutcome t label v outcomes.Invalid → HasDisposition kept r m label v (codes "invalid")
    from-invalid h =
        let s = from-for properties r m n t names says label v h.0 h.1 in
        let steps = steps-of properties r m n t names says label v s.0 s.1 in (
          s.0,
          s.1,
          (invalid-alike properties r m n t names says v made (map recorded s.0) (kinds_of (map put s.0)) (same-kinds properties r m n t names says s.0 steps)
              (are-numbered properties r m n t names says s.0 steps) met).1 (ap (λ (xs : List Mapping). disposition_by t v (kinds_of xs)) (sym s.2) ∙ h.2),
        )

    to-allocatable : IsAllocatableIn Three t label v → lgr.IsAllocatable kept r m label v
    to-allocatable h =
        let s = from-for properties r m n t names says label v h.1.1.0 h.1.1.1 in
        let steps = steps-of properties r m n t names says label v s.0 s.1 in
        let is : disposition_by t v (kinds_of (map put s.0)) ≡ h.1.0 = ap (λ (xs : List Mapping). disposition_by t v (kinds_of xs)) (sym s.2) ∙ h.1.1.2 in
        let word = (had-alike properties r m n t names says v made (map recorded s.0) (kinds_of (map put s.0)) (same-kinds properties r m n t names says s.0 steps)
        (are-numbered properties r m n t names says s.0 steps) met).1 (ap is_allocatable is ∙ h.1.2) in
        record { clear = (clear-alike properties r m n t names says label v).0 h.0; word = word.0; disposed = (s.0, s.1, word.1); had = word.2 }

    from-allocatable : lgr.IsAllocatable kept r m label v → IsAllocatableIn Three t label v
    from-allocatable h =
        let reading = h.disposed.0 in
        let steps = steps-of properties r m n t names says label v reading h.disposed.1 in
        let allocatable = (had-alike properties r m n t names says v made (map recorded reading) (kinds_of (map put reading)) (same-kinds properties r m n t names says reading steps)
        (are-numbered properties r m n t names says reading steps) met).0 (h.word, h.disposed.2, h.had) in (
          (clear-alike properties r m n t names says label v).1 h.clear,
          (disposition_by t v (kinds_of (map put reading)), (map put reading, read_for label v reading h.disposed.1, refl), allocatable),
        )

  -- ---- a label that may be asked about

  -- an eligible label reads as itself
  own-reading : (label : List ℕ) → IsEligible t label → (reading : List Step) × lgr_readings.IsReading kept r m label label reading
  own-reading label eligible =
      let cut = eligible-segmentation t label eligible in
      let s = from-for properties r m n t names says label label (map (λ (e : Entry). Stays e) cut.0) (reading-itself t label cut.0 cut.1) in
      (s.0, s.1)

  -- a label that breaks a demand is invalid by any reading
  broken-invalid : (label : List ℕ) → IsEligible t label → BreaksDemand r m label → HasDisposition kept r m label label (codes "invalid")
  broken-invalid label eligible broken =
      let s = own-reading label eligible in
      (s.0, s.1, disposition-broken properties r m n t names says label (eligible-of properties r m n t names says label eligible) (map recorded s.0) broken)

  -- a table without types has none at its sources
  sources-untyped : has_types t.entries ≡ false → AllByRecursion (λ e. e.type ≡ None) t.entries
  sources-untyped without =
      all-members (λ (e : Entry). e.type ≡ None) t.entries (λ e there. none-of e.type (λ some.
      clash (has_types t.entries)
      ((any-one (λ (e : Entry). list_any (λ (v : Variant). is_some v.type) (whole e)) t.entries).1
      (e, there, (any-one (λ (v : Variant). is_some v.type) (whole e)).1 (source_of e, Contains-head (source_of e) e.variants, some))) without))

  clear-both : (label : List ℕ) → IsClear t label label → IsClearItself t label
  clear-both label (inl without) = typeless-clear t label says.well_formed.well_formed (sources-untyped without)
  clear-both label (inr same) = λ one other is also kind c.
      let first = subst (λ (ks : List Kind). Contains ks kind) (sym (kinds-of one)) c in
      subst (λ (ks : List Kind). Contains ks kind) (kinds-of other)
      (same (map (λ (e : Entry). Stays e) one) (map (λ (e : Entry). Stays e) other) (reading-itself t label one is) (reading-itself t label other also) kind first)

  pub admitted-alike : (label : List ℕ) → IsAdmitted t label ↔ IsAccepted kept r m label
  admitted-alike label = (
    λ a.
        let eligible = eligible-there a.cut in
        let made = eligible-of properties r m n t names says label eligible in
        let met = (demands-alike properties r m n t names says label made).0 a.met in
        record {
          eligible = (eligible-alike properties r m n t names says label).0 eligible;
          clear = (clear-alike properties r m n t names says label label).0 (clear-itself t label a.clear);
          not_invalid = λ h. a.not_invalid ((outcome-itself t label outcomes.Invalid).0 (to-invalid label label made met h));
        },
    λ a.
        let eligible = (eligible-alike properties r m n t names says label).1 a.eligible in
        let made = eligible-of properties r m n t names says label eligible in
        let met : ¬ BreaksDemand r m label = λ broken. a.not_invalid (broken-invalid label eligible broken) in
        record {
          cut = inr eligible;
          met = (demands-alike properties r m n t names says label made).1 met;
          clear = clear-both label ((clear-alike properties r m n t names says label label).1 a.clear);
          not_invalid = λ h. a.not_invalid (from-invalid label label made met ((outcome-itself t label outcomes.Invalid).1 h));
        },
  )
    where
      eligible-there : (AllowsAnyCut t × IsMadeOfSources t label) ⊎ IsEligible t label → IsEligible t label
      eligible-there (inl any) = absurd (any.0.earlier says.defines.version)
      eligible-there (inr eligible) = eligible

  -- ---- variants

  pub listed-alike : (o : Settings) (label v : List ℕ) → IsListed o t label v ↔ IsListedAs o kept r m label v
  listed-alike o label v = (
    λ l.
        let eligible = eligible-there l.valid.cut in
        let made = eligible-of properties r m n t names says v eligible in
        let met = (demands-alike properties r m n t names says v made).0 l.valid.met in
        let x = some-reading t label v l.spelled in
        let s = from-for properties r m n t names says label v x.0 x.1 in
        record {
          registrable = l.registrable;
          greater = l.greater;
          variant = record {
            eligible = (eligible-alike properties r m n t names says v).0 eligible;
            given = (s.0, s.1);
            met = met;
            not_invalid = λ clear h. l.kept (record {
              of_ruleset = says.defines.version;
              clear = (clear-alike properties r m n t names says label v).1 clear;
              invalid = to-invalid label v made met h;
            });
          };
        },
    λ l.
        let eligible = (eligible-alike properties r m n t names says v).1 l.variant.eligible in
        let made = eligible-of properties r m n t names says v eligible in
        let met = l.variant.met in
        record {
          registrable = l.registrable;
          valid = record { cut = inr eligible; met = (demands-alike properties r m n t names says v made).1 met };
          greater = l.greater;
          spelled = (Spells-read t label v).1 (map put l.variant.given.0, (read_for label v l.variant.given.0 l.variant.given.1).reads);
          kept = λ out. l.variant.not_invalid ((clear-alike properties r m n t names says label v).0 out.clear) (from-invalid label v made met out.invalid);
        },
  )
    where
      eligible-there : AllowsAnyCut t ⊎ IsEligible t v → IsEligible t v
      eligible-there (inl any) = absurd (any.earlier says.defines.version)
      eligible-there (inr eligible) = eligible

  -- ---- dispositions

  pub disposed-alike : (label v : List ℕ) (field : Option Disposition) → IsVariant kept r m label v → IsDisposition t label v field ↔ IsDispositionBy kept r m label v field
  disposed-alike label v field variant = (
    λ d. field-alike (IsClear t label v) (lgr_readings.IsClear kept r m label v) (IsAllocatableIn Three t label v) (lgr.IsAllocatable kept r m label v) field clear alike
        (subst By says.defines.version d),
    λ d. subst By (sym says.defines.version)
        (field-alike (lgr_readings.IsClear kept r m label v) (IsClear t label v) (lgr.IsAllocatable kept r m label v) (IsAllocatableIn Three t label v) field (back clear) (back alike) d),
  )
    where
      By : Version → Type 0
      By version = IsFieldOf version (IsClear t label v) (IsAllocatableIn version t label v) field

      made : Made v
      made = eligible-made properties r m n t names says v variant.eligible

      clear : IsClear t label v ↔ lgr_readings.IsClear kept r m label v
      clear = clear-alike properties r m n t names says label v

      alike : IsAllocatableIn Three t label v ↔ lgr.IsAllocatable kept r m label v
      alike = (to-allocatable label v made variant.met, from-allocatable label v made variant.met)
