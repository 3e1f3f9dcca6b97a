-- The disposition of what a label spells, as tests tell it.
use Rattle.std.proofs.Common.{◌≡◌, ◌≢◌, ◌↔◌, inl, inr, not, ℕ, Bool, true, false, List, [], ◌∷◌, Option, Some, None, refl, sym, ap, subst, ◌∙◌, if◌then◌else◌}
use Rattle.std.specs.Prelude.{bytes_eq}
use Rattle.std.specs.List.{Contains}
use Rattle.std.proofs.lemmas.Option.{same_Some}
use Rattle.std.proofs.lemmas.Slice.Eq.{bytes_eq-Decides}
use Rattle.reading_kinds.specs.Readings.{Substitution}
use Rattle.variant_dispositions.specs.declared.disposition.Disposition.{Disposition as Outcome}
use Rattle.variant_dispositions.specs.declared.disposition.Disposition.TheVariants as outcomes
use Rattle.variant_dispositions.specs.declared.variant.VariantDisposition.{VariantDisposition}
use Rattle.variant_dispositions.specs.declared.variant.VariantDisposition.TheVariants.{Clear, Unclear}
use Rattle.variant_dispositions.specs.Actions.{is_allocatable}
use Rattle.variant_dispositions.specs.Kinds.{recorded}
use Rattle.variant_dispositions.specs.Kinds.Kind.{Typed, Unmapped}
use Rattle.variant_dispositions.specs.Readings as readings
use Rattle.variant_dispositions.proofs.LawLemmas.{OneIfClear-holds, ThereIsOne-holds}
use Rattle.variant_dispositions.proofs.MemberLemmas.{any-told}
use Rattle.variant_table.specs.declared.version.Version.{Version}
use Rattle.variant_table.specs.declared.version.Version.TheVariants.{One, Two, Three}
use Rattle.variant_table.specs.Entries.{TableValue, has_types}
use Rattle.valid_labels.specs.Actions.{actions_of, matches_rule}
use Rattle.valid_labels.specs.Dispositions.{disposition_by}
use Rattle.valid_labels.specs.Readings.{has_kind, readings_of, told_by}
use Rattle.valid_labels.specs.Validity.{IsSound}
use Rattle.valid_labels.proofs.ReadingLists as lists
use Rattle.valid_labels.proofs.ReadingLists.{has-told, readings-are, readings-told}
use Rattle.variant_list.specs.Readings.{Mapping, kind_of, kinds_of, IsReadingOf}
use Rattle.variant_list.specs.Spelling.{Spells}
use Rattle.variant_list.specs.Substitutions.{substitutions_of}
use Rattle.variant_list.proofs.ReadingLemmas.{Spells-read}
use Rattle.variant_list.proofs.SpelledByLemmas.{AreSubstitutions-label}
use Rattle.answer_json.specs.declared.block.Disposition.{Disposition}
use Rattle.idn2_answers.specs.Dispositions.{HasOutcome, IsAllocatableIn, IsAllocation, IsClear, IsDisposition, IsFieldOf, IsLeftOut, allocation, allocation_of, disposition, disposition_in, is_allocatable_in_some, is_invalid, is_left_out, is_left_out_in, lacks_blocked, substitutions_for, told}
use Rattle.idn2_answers.proofs.MemberTests.{or-true, true-or}
use Rattle.idn2_answers.proofs.ReadingTests.{clear-same, fits, has_reading, outcome-same, reads-by, reads-from}
use Rattle.idn2_answers.proofs.RecordedKinds.{recorded-is, typeless-kind}
use Rattle.idn2_answers.proofs.TypelessKinds.{HasNoType, typeless-same}

module _ (table : TableValue) (label : List ℕ) (sound : IsSound table) where
  -- by what is recorded of it, what is spelled has a disposition
  pub some-outcome : (v : List ℕ) → Spells table label v → (d : Outcome) × HasOutcome table label v d
  some-outcome v spells =
      let d = ThereIsOne-holds.told (matches_rule table v) (actions_of table.definitions) (substitutions_for table label v) v (has_reading table label sound v spells) in
      (d.0, (outcome-same table label sound v d.0).1 d.1)

  -- ---- without types

  pub no_type : (v : List ℕ) (reading : List Mapping) → has_types table.entries ≡ false → IsReadingOf table label v reading → HasNoType (kinds_of reading)
  no_type v reading none is number c = typeless-kind table number none (recorded-is table label v reading (Typed number) is c)

  -- of all readings the disposition is that of a source that stays
  by_reading : (v : List ℕ) (reading : List Mapping) → v ≢ [] → has_types table.entries ≡ false → IsReadingOf table label v reading → disposition_by table v (Unmapped ∷ []) ≡ disposition_by table v (kinds_of reading)
  by_reading v [] some none is = absurd (some (sym is.joined))
  by_reading v (m ∷ reading) some none is = sym (typeless-same (matches_rule table v) (actions_of table.definitions) (kind_of m) (kinds_of reading) (no_type v (m ∷ reading) none is))

  pub typeless-outcome : (v : List ℕ) (d : Outcome) → v ≢ [] → has_types table.entries ≡ false → HasOutcome table label v d → disposition_by table v (Unmapped ∷ []) ≡ d
  typeless-outcome v d some none h = by_reading v h.0 some none h.1.reads ∙ h.2

  -- ---- what is told under a ruleset

  -- what is told is so
  abbrev IsSo : (v : List ℕ) → VariantDisposition → Type 0
  IsSo v (Clear d) = IsClear table label v × HasOutcome table label v d
  IsSo v Unclear = ¬ IsClear table label v

  abbrev BySubstitutions : (v : List ℕ) → VariantDisposition → Type 0
  BySubstitutions v d = readings.IsTold (matches_rule table v) (actions_of table.definitions) (substitutions_for table label v) v d

  typed-clear : (v : List ℕ) → has_types table.entries ≡ true → IsClear table label v → readings.IsClear (substitutions_for table label v) v
  typed-clear v typed (inl none) = absurd (let clash : true ≡ false = sym typed ∙ none in cc)
  typed-clear v typed (inr clear) = (clear-same table label sound v).0 clear

  clear-typed : (v : List ℕ) → readings.IsClear (substitutions_for table label v) v → IsClear table label v
  clear-typed v clear = inr ((clear-same table label sound v).1 clear)

  typed-so : (v : List ℕ) (d : VariantDisposition) → has_types table.entries ≡ true → BySubstitutions v d ↔ IsSo v d
  typed-so v (Clear d) typed = (
    λ h. (clear-typed v h.0, (outcome-same table label sound v d).1 h.1),
    λ h. (typed-clear v typed h.0, (outcome-same table label sound v d).0 h.1),
  )
  typed-so v Unclear typed = (λ unclear clear. unclear (typed-clear v typed clear), λ unclear clear. unclear (clear-typed v clear))

  abbrev told_if : (v : List ℕ) → Bool → Option VariantDisposition
  told_if v typed =
      if typed then told_by (matches_rule table v) (actions_of table.definitions) (substitutions_for table label v) v
      else Some (Clear (disposition_by table v (Unmapped ∷ [])))

  same-outcome : (d e : Outcome) → Some (Clear d) ≡ Some (Clear e) → d ≡ e
  same-outcome d e is = let same : Clear d ≡ Clear e = same_Some (Clear d) (Clear e) is in cc

  pub told-is : (v : List ℕ) (d : VariantDisposition) → v ≢ [] → Spells table label v → (told table label v ≡ Some d) ↔ IsSo v d
  told-is v d some spells = by_types (has_types table.entries) refl d
    where
      by_types : (typed : Bool) → has_types table.entries ≡ typed → (d : VariantDisposition) → (told_if v typed ≡ Some d) ↔ IsSo v d
      by_types true typed d =
          let tells = readings-told (matches_rule table v) (actions_of table.definitions) (substitutions_for table label v) v (fits table label sound v) d in
          let so = typed-so v d typed in
          (λ e. so.0 (tells.0 e).1, λ is. tells.1 (has_reading table label sound v spells, so.1 is))
      by_types false none (Clear d) = (
        λ e.
            let there = some-outcome v spells in
            let same : there.0 ≡ d = sym (typeless-outcome v there.0 some none there.1) ∙ same-outcome (disposition_by table v (Unmapped ∷ [])) d e in
            (inl none, subst (HasOutcome table label v) same there.1),
        λ is. ap (λ (x : Outcome). Some (Clear x)) (typeless-outcome v d some none is.1),
      )
      by_types false none Unclear = (
        λ e. absurd (let clash : Clear (disposition_by table v (Unmapped ∷ [])) ≡ Unclear = same_Some (Clear (disposition_by table v (Unmapped ∷ []))) Unclear e in cc),
        λ unclear. absurd (unclear (inl none)),
      )

  -- something is told
  told-some : (v : List ℕ) → Spells table label v → (d : VariantDisposition) × (told table label v ≡ Some d)
  told-some v spells = by_types (has_types table.entries)
    where
      by_told : (o : Option VariantDisposition) → lists.IsSo (matches_rule table v) (actions_of table.definitions) (substitutions_for table label v) v (fits table label sound v) o → (d : VariantDisposition) × (o ≡ Some d)
      by_told None so = absurd (so (has_reading table label sound v spells))
      by_told (Some d) so = (d, refl)

      by_types : (typed : Bool) → (d : VariantDisposition) × (told_if v typed ≡ Some d)
      by_types true = by_told (told_if v true) (lists.told-is (matches_rule table v) (actions_of table.definitions) (substitutions_for table label v) v (fits table label sound v))
      by_types false = (Clear (disposition_by table v (Unmapped ∷ [])), refl)

  -- what is clear has one disposition
  pub one-outcome : (v : List ℕ) (d e : Outcome) → v ≢ [] → IsClear table label v → HasOutcome table label v d → HasOutcome table label v e → d ≡ e
  one-outcome v d e some (inl none) h g = sym (typeless-outcome v d some none h) ∙ typeless-outcome v e some none g
  one-outcome v d e some (inr clear) h g =
      OneIfClear-holds (matches_rule table v) (actions_of table.definitions) (substitutions_for table label v) v d e ((clear-same table label sound v).0 clear)
      ((outcome-same table label sound v d).0 h) ((outcome-same table label sound v e).0 g)

  -- ---- what is left out

  invalid-is : (o : Option VariantDisposition) → is_invalid o ≡ true → o ≡ Some (Clear outcomes.Invalid)
  invalid-is None e = let clash : false ≡ true = e in cc
  invalid-is (Some Unclear) e = let clash : false ≡ true = e in cc
  invalid-is (Some (Clear outcomes.Invalid)) e = refl
  invalid-is (Some (Clear outcomes.Blocked)) e = let clash : false ≡ true = e in cc
  invalid-is (Some (Clear outcomes.Allocatable)) e = let clash : false ≡ true = e in cc
  invalid-is (Some (Clear outcomes.Activated)) e = let clash : false ≡ true = e in cc
  invalid-is (Some (Clear outcomes.Valid)) e = let clash : false ≡ true = e in cc

  pub left_out-told : (v : List ℕ) → v ≢ [] → Spells table label v → (is_left_out table label v ≡ true) ↔ IsLeftOut table label v
  left_out-told v some spells = by_version table.version refl
    where
      earlier : (n : Version) → (Three ≡ n → ⊥) → table.version ≡ n → (false ≡ true) ↔ IsLeftOut table label v
      earlier n other is = (λ e. absurd (let clash : false ≡ true = e in cc), λ h. absurd (other (sym h.of_ruleset ∙ is)))

      by_version : (n : Version) → table.version ≡ n → (is_left_out_in n table label v ≡ true) ↔ IsLeftOut table label v
      by_version One is = earlier One (λ e. (let clash : Three ≡ One = e in cc)) is
      by_version Two is = earlier Two (λ e. (let clash : Three ≡ Two = e in cc)) is
      by_version Three is =
          let so = told-is v (Clear outcomes.Invalid) some spells in (
            λ e. (let h = so.0 (invalid-is (told table label v) e) in record { of_ruleset = is; clear = h.0; invalid = h.1 }),
            λ h. ap is_invalid (so.1 (h.clear, h.invalid)),
          )

  -- ---- dispositions

  allocation-told : (P : Type 0) (b : Bool) → (b ≡ true) ↔ P → IsAllocation P (Some (allocation b))
  allocation-told P true is = inl (is.0 refl, refl)
  allocation-told P false is = inr (λ p. (let clash : false ≡ true = is.1 p in cc), refl)

  -- in version 2 some reading has to lack blocked
  lacks-told : (reading : List Substitution) → (lacks_blocked reading ≡ true) ↔ (¬ Contains (recorded reading) (Typed 1))
  lacks-told reading = by_test (has_kind (recorded reading) (Typed 1)) (has-told (recorded reading) (Typed 1))
    where
      by_test : (b : Bool) → (b ≡ true) ↔ Contains (recorded reading) (Typed 1) → (not b ≡ true) ↔ (¬ Contains (recorded reading) (Typed 1))
      by_test true is = (λ e. absurd (let clash : false ≡ true = e in cc), λ none. absurd (none (is.0 refl)))
      by_test false is = (λ e c. (let clash : false ≡ true = is.1 c in cc), λ none. refl)

  pub some_reading-told : (v : List ℕ) → Spells table label v → (is_allocatable_in_some table label v ≡ true) ↔ IsAllocatableIn Two table label v
  some_reading-told v spells =
      let some = any-told lacks_blocked (readings_of (substitutions_of table label) v) in
      let are = λ (cut : List Substitution). readings-are (substitutions_of table label) v cut (AreSubstitutions-label table label sound.entries) in (
        λ e. elim (or-true (bytes_eq v label) _ e) [
          | inl same ↦ inl ((bytes_eq-Decides v label).0 same)
          | inr other ↦ elim (or-true (not (has_types table.entries)) _ other) [
            | inl none ↦ inr (by_typeless (has_types table.entries) refl none)
            | inr lacking ↦ (let g = some.0 lacking in
                let r = reads-from table label sound v g.0 ((are g.0).0 g.1) in
                inr (r.0, r.1, λ c. (lacks-told g.0).0 g.2 (subst (λ ks. Contains ks (Typed 1)) r.2 c)))
          ]
        ],
        λ h. true-or (bytes_eq v label) _ (elim h [
          | inl same ↦ inl ((bytes_eq-Decides v label).1 same)
          | inr g ↦ (let s = reads-by table label sound v g.0 g.1 in
              inr (true-or (not (has_types table.entries)) _ (inr (some.1 (s.0, (are s.0).1 s.1, (lacks-told s.0).1 (λ c. g.2 (subst (λ ks. Contains ks (Typed 1)) s.2 c)))))))
        ]),
      )
    where
      by_typeless : (typed : Bool) → has_types table.entries ≡ typed → not typed ≡ true → (reading : List Mapping) × IsReadingOf table label v reading × ¬ Contains (kinds_of reading) (Typed 1)
      by_typeless true typed e = absurd (let clash : false ≡ true = e in cc)
      by_typeless false none e = let r = (Spells-read table label v).0 spells in (r.0, r.1, λ c. no_type v r.0 none r.1 1 c)

  -- the field that computes is the field
  pub disposition-IsDisposition : (v : List ℕ) → v ≢ [] → Spells table label v → IsDisposition table label v (disposition table label v)
  disposition-IsDisposition v some spells = by_version table.version
    where
      clear-told : (outcome : Outcome) → IsClear table label v → HasOutcome table label v outcome → (is_allocatable outcome ≡ true) ↔ IsAllocatableIn Three table label v
      clear-told outcome clear has = (
        λ e. (clear, (outcome, has, e)),
        λ may. ap is_allocatable (one-outcome v outcome may.1.0 some clear has may.1.1) ∙ may.1.2,
      )

      by_told : (d : VariantDisposition) → IsSo v d → IsFieldOf Three (IsClear table label v) (IsAllocatableIn Three table label v) (Some (allocation_of (Some d)))
      by_told (Clear outcome) so = inl (so.0, allocation-told (IsAllocatableIn Three table label v) (is_allocatable outcome) (clear-told outcome so.0 so.1))
      by_told Unclear so = inr (so, refl)

      by_version : (n : Version) → IsFieldOf n (IsClear table label v) (IsAllocatableIn n table label v) (disposition_in n table label v)
      by_version One = refl
      by_version Two = allocation-told (IsAllocatableIn Two table label v) (is_allocatable_in_some table label v) (some_reading-told v spells)
      by_version Three =
          let d = told-some v spells in
          subst (λ (o : Option VariantDisposition). IsFieldOf Three (IsClear table label v) (IsAllocatableIn Three table label v) (Some (allocation_of o))) (sym d.1)
          (by_told d.0 ((told-is v d.0 some spells).0 d.1))

-- ---- a disposition is one

one-allocation : (P : Type 0) (f g : Option Disposition) → IsAllocation P f → IsAllocation P g → f ≡ g
one-allocation P f g (inl h) (inl k) = h.1 ∙ sym k.1
one-allocation P f g (inl h) (inr k) = absurd (k.0 h.0)
one-allocation P f g (inr h) (inl k) = absurd (h.0 k.0)
one-allocation P f g (inr h) (inr k) = h.1 ∙ sym k.1

pub one-field : (n : Version) (C P : Type 0) (f g : Option Disposition) → IsFieldOf n C P f → IsFieldOf n C P g → f ≡ g
one-field One C P f g is other = is ∙ sym other
one-field Two C P f g is other = one-allocation P f g is other
one-field Three C P f g (inl is) (inl other) = one-allocation P f g is.1 other.1
one-field Three C P f g (inl is) (inr other) = absurd (other.0 is.0)
one-field Three C P f g (inr is) (inl other) = absurd (is.0 other.0)
one-field Three C P f g (inr is) (inr other) = is.1 ∙ sym other.1
