-- Laws of the labels that are listed.
use Rattle.std.proofs.Common.{◌≡◌, ◌≢◌, inl, inr, ℕ, ◌↔◌, List, [], ◌∷◌, Option, Some, None, refl, sym, ap, subst, ◌∙◌}
use Rattle.idn_class.specs.declared.properties.Properties.{Properties}
use Rattle.idn_text.specs.declared.refusal.Refusal.TheVariants.{Empty, NotInTable, NotValid}
use Rattle.idn_label.specs.FirstFault.{IsRegistrable, first_fault}
use Rattle.variant_dispositions.specs.declared.disposition.Disposition.{Disposition as Outcome}
use Rattle.variant_dispositions.specs.declared.disposition.Disposition.TheVariants as outcomes
use Rattle.variant_dispositions.specs.declared.variant.VariantDisposition.{VariantDisposition}
use Rattle.variant_dispositions.specs.declared.variant.VariantDisposition.TheVariants.{Clear}
use Rattle.variant_dispositions.specs.Actions.{is_allocatable}
use Rattle.variant_table.specs.declared.version.Version.{Version}
use Rattle.variant_table.specs.declared.version.Version.TheVariants.{One, Two, Three}
use Rattle.variant_table.specs.Entries.{TableValue}
use Rattle.variant_table.specs.WellFormed.{IsTable, IsWellFormed}
use Rattle.valid_labels.specs.Dispositions.{IsOwnDisposition}
use Rattle.valid_labels.specs.Laws.{AdmitsSources}
use Rattle.valid_labels.specs.Validity.{IsAdmitted, IsSound, IsValid}
use Rattle.valid_labels.proofs.NothingLemmas.{admitted-valid, nothing-is-asked}
use Rattle.variant_list.specs.Labels.{IsBelow, IsListOf}
use Rattle.variant_list.specs.MutualLaws.{IsMutual}
use Rattle.variant_list.specs.Spelling.{Spells}
use Rattle.variant_list.proofs.ListedLemmas.{IsListOf-same}
use Rattle.variant_list.proofs.MutualLemmas.{variants-first, variants-same}
use Rattle.variant_list.proofs.NetLemmas.{Spells-itself}
use Rattle.idn2_options.specs.Settings.{Settings}
use Rattle.idn2_answers.specs.Dispositions.{IsAllocatable, IsAllocatableIn, allocation, allocation_of, disposition, disposition_in}
use Rattle.idn2_answers.specs.Listings.{IsListed}
use Rattle.idn2_answers.specs.Answers.{IsRefusedAs}
use Rattle.idn2_answers.proofs.DispositionTests.{told-is}
use Rattle.idn2_answers.proofs.ReadingTests.{clear-itself, outcome-itself}
use Rattle.idn2_laws.specs.ListingLaws.{AdmittedAreListed, IsAsked, ListedAreMutual, NotValidIsNeverTold, RefusesBySources}
use Rattle.idn2_laws.proofs.RefusingSources.{IsRefusedByRule, left-by_rule}

-- ---- a label among its own variants

module _ (properties : Properties) where
  no-fault : first_fault properties [] ≡ None → ⊥
  unfolding first_fault
  no-fault is = absurd (let clash : Some Empty ≡ None = is in cc)

  above-empty : (label : List ℕ) → IsRegistrable properties label → IsBelow [] label
  above-empty [] is = absurd (no-fault is)
  above-empty (c ∷ label) is = tt

after-text : (o : Settings) (label : List ℕ) → o.after ≡ [] → IsRegistrable o.properties label → IsBelow o.after label
after-text o label whole is = subst (λ text. IsBelow text label) (sym whole) (above-empty o.properties label is)

pub listed-itself : (o : Settings) (table : TableValue) (label : List ℕ) → IsAsked o table label → IsListed o table label label
listed-itself o table label asked = record {
  registrable = asked.registrable;
  valid = admitted-valid.valid table label asked.admitted;
  greater = after-text o label asked.whole asked.registrable;
  spelled = Spells-itself table label (admitted-valid.segmented table label asked.admitted);
  kept = λ out. asked.admitted.not_invalid ((outcome-itself table label outcomes.Invalid).0 out.invalid);
}

-- its disposition is its own
own-disposed : (table : TableValue) (label : List ℕ) (d : Outcome) → IsSound table → label ≢ [] → table.version ≡ Three → IsAdmitted table label → IsOwnDisposition table label d
    → disposition table label label ≡ Some (allocation (is_allocatable d))
own-disposed table label d sound some three admitted own =
    let spells = Spells-itself table label (admitted-valid.segmented table label admitted) in
    let told = (told-is table label sound label (Clear d) some spells).1 (clear-itself table label admitted.clear, (outcome-itself table label d).1 own) in
    ap (λ (n : Version). disposition_in n table label label) three ∙ ap (λ (o : Option VariantDisposition). Some (allocation_of o)) told

earlier-allocatable : (table : TableValue) (label : List ℕ) → table.version ≢ Three → IsAllocatable table label label
earlier-allocatable table label other = by_version table.version refl
  where
    by_version : (n : Version) → table.version ≡ n → IsAllocatableIn n table label label
    by_version One is = inl refl
    by_version Two is = inl refl
    by_version Three is = absurd (other is)

pub admitted-listed : AdmittedAreListed
admitted-listed = record { listed = listed-itself; disposed = own-disposed; allocatable = earlier-allocatable }

-- ---- labels that are variants of each other

-- what is asked of a label that is listed, whatever label it is a variant of
pub record IsTaken (o : Settings) (table : TableValue) (refuses : RefusesBySources table) (v : List ℕ) : Type 0 where
  pub registrable : IsRegistrable o.properties v
  pub valid : IsValid table v
  pub greater : IsBelow o.after v
  pub kept : ¬ IsRefusedByRule table refuses v

module _ (o : Settings) (table : TableValue) (of_table : IsTable table) (mutual_in : IsMutual table) (refuses : RefusesBySources table) where
  abbrev pub IsTakenOf : List ℕ → List ℕ → Type 0
  IsTakenOf label v = IsTaken o table refuses v × Spells table label v

  pub taken : (label v : List ℕ) → IsAsked o table label → IsListed o table label v ↔ IsTakenOf label v
  taken label v asked =
      let left = λ (spells : Spells table label v). left-by_rule table of_table mutual_in refuses label asked.admitted v spells in (
        λ h. (record { registrable = h.registrable; valid = h.valid; greater = h.greater; kept = λ out. h.kept ((left h.spelled).1 out) }, h.spelled),
        λ h. record { registrable = h.0.registrable; valid = h.0.valid; greater = h.0.greater; spelled = h.1; kept = λ out. h.0.kept ((left h.1).0 out) },
      )

  taken-list : (label : List ℕ) (vs : List (List ℕ)) → IsAsked o table label → IsListOf (IsListed o table label) vs → IsListOf (IsTakenOf label) vs
  taken-list label vs asked = IsListOf-same (IsListed o table label) (IsTakenOf label) vs (λ v. taken label v asked)

  pub taken-asked : (label : List ℕ) → IsAsked o table label → IsTaken o table refuses label
  taken-asked label asked = ((taken label label asked).0 (listed-itself o table label asked)).0

pub listed-mutual : ListedAreMutual
listed-mutual o table label other vs ws of_table symmetric refuses asked asked_too of_label of_other =
    let P : List ℕ → Type 0 = IsTaken o table refuses in
    let first = taken-list o table of_table symmetric refuses label vs asked of_label in
    let second = taken-list o table of_table symmetric refuses other ws asked_too of_other in
    let there = taken-asked o table of_table symmetric refuses label asked in
    let there_too = taken-asked o table of_table symmetric refuses other asked_too in
    let cut = admitted-valid.segmented table label asked.admitted in
    let cut_too = admitted-valid.segmented table other asked_too.admitted in (
      variants-same table symmetric.well_formed symmetric.gaps symmetric.points symmetric.free P label other vs ws first second there_too cut_too,
      variants-first table symmetric.well_formed symmetric.gaps symmetric.points symmetric.free P label other vs ws first second there there_too cut cut_too,
    )

-- ---- a table that asks nothing

pub never-invalid : (table : TableValue) (label : List ℕ) → IsWellFormed table.entries → AdmitsSources table → label ≢ [] → IsRefusedAs table label NotValid → ⊥
never-invalid table label formed nothing some (inl h) = absurd (let clash : NotValid ≡ NotInTable = h.1 in cc)
never-invalid table label formed nothing some (inr h) = h.1 (nothing-is-asked.admitted table label formed nothing some h.0).0

pub not-valid-told : NotValidIsNeverTold
not-valid-told = record {
  listing = λ o table label formed nothing some refused. never-invalid table label formed nothing some refused;
  jump = λ o table request formed nothing some refused. never-invalid table _ formed nothing some refused;
}
