-- What two labels are to each other, by what is found of them.
use Rattle.std.proofs.Common.{◌≡◌, ◌↔◌, ℕ, Bool, true, false, List, [], ◌∷◌, Option, Some, None, refl, sym, ap, subst, ◌∙◌}
use Rattle.std.specs.Prelude.{unwrap_or, Result, Ok, Err, IfOk, IsSome, if◌then◌else◌}
use Rattle.std.proofs.lemmas.Bool.{false_from_ne_true}
use Rattle.std.proofs.lemmas.Option.{same_Some}
use Rattle.idn_class.specs.declared.properties.Properties.{Properties}
use Rattle.idn_label.specs.FirstFault.{IsRegistrable}
use Rattle.idn_label.proofs.RequirementLemmas.{MeetsRequirements-registrable}
use Rattle.variant_table.specs.Entries.{TableValue}
use Rattle.valid_labels.specs.declared.validity.Admission.{Admission}
use Rattle.valid_labels.specs.declared.validity.Admission.TheVariants.{NotCut, NotAdmitted, Admitted}
use Rattle.valid_labels.specs.Testing.{IsAdmission, Testing}
use Rattle.idn2_answers.proofs.AdmittedLabels.{admitted-made}
use Rattle.valid_labels.specs.Tests.{asks_nothing}
use Rattle.valid_labels.specs.Validity.{IsAdmitted, IsSound, IsValid}
use Rattle.variant_dispositions.specs.declared.disposition.Disposition.{Disposition as Outcome}
use Rattle.valid_labels.proofs.NothingLemmas.{admitted-valid}
use Rattle.variant_list.specs.Arising.{Arises, unasked}
use Rattle.variant_list.specs.Spelled.{spelled}
use Rattle.variant_list.specs.Labels.{IsBelow}
use Rattle.variant_list.specs.Spelling.{Spells}
use Rattle.variant_list.proofs.SpelledByLemmas.{spelled-Spells}
use Rattle.answer_json.specs.declared.collision.Regard.{Regard}
use Rattle.answer_json.specs.declared.collision.Regard.TheVariants.{NoVariant}
use Rattle.answer_json.specs.declared.collision.Regards.{Regards}
use Rattle.idn2_options.specs.Settings.{Settings}
use Rattle.idn2_answers.specs.Dispositions.{IsLeftOut, disposition, is_left_out}
use Rattle.idn2_answers.specs.Listings.{Filter, filter_if, is_among, is_registrable}
use Rattle.idn2_answers.specs.Collisions.{IsGood, IsVariantOf, barred_in, regard_by, regard_of}
use Rattle.idn2_answers.proofs.CollisionTests.{arises-told, regard-barred, regard-none, regard-variant}
use Rattle.idn2_answers.proofs.DispositionTests.{left_out-told}
use Rattle.idn2_answers.proofs.FilterLemmas.{asked-is, registrable-some}
use Rattle.idn2_answers.proofs.MemberTests.{among-found}
use Rattle.idn2_cli.specs.declared.modes.dispositions.Appearance.{Appearance}
use Rattle.idn2_cli.specs.declared.modes.dispositions.Appearance.TheVariants.{LeftOut, Listed}
use Rattle.idn2_cli.specs.inner.Decided.{IsOfPair, IsStanding, MayBeListed, TellsOthers, listed_regard}
use Rattle.idn2_cli.specs.inner.Decided.{regard_of as appears_as}
use Rattle.idn2_cli.specs.inner.Dispositions.{appearance}
use Rattle.idn2_cli.specs.declared.modes.decided.Decisions.{Decisions}
use Rattle.idn2_cli.specs.declared.modes.listed.Listed.{Listed as Listing}
use Rattle.idn2_cli.specs.inner.Ruling.{filter_by, passes, ruling_in, ruling_of}
use Rattle.idn2_cli.specs.declared.modes.decided.Standing.{Standing}
use Rattle.idn2_cli.specs.declared.modes.decided.Standing.TheVariants.{Good, VariantAlone, Refused}
use Rattle.idn2_cli.proofs.BlockMembers.{spelled-valid}
use Rattle.idn2_cli.proofs.RuledFilters.{accepts-failed, accepts-passed, filter_by-ruling}

-- another answer than that it is admitted
pub not_admitted : (table : TableValue) (v : List ℕ) (admission : Admission) → IsAdmission table v admission → ((d : Outcome) → admission ≡ Admitted d → ⊥) → ¬ IsAdmitted table v
not_admitted table v NotCut is other = λ admitted. is (admitted-made table v admitted)
not_admitted table v NotAdmitted is other = is.1
not_admitted table v (Admitted d) is other = absurd (other d refl)

-- the test of other labels is of the table, once it is made
pub others-ruling : (table : TableValue) (label : List ℕ) (listed : Option Listing) (others : Option Testing) → IsSome listed → TellsOthers table label listed others → ruling_in others ≡ ruling_of table
others-ruling table label None others made tells = let clash : false ≡ true = made in cc
others-ruling table label (Some listed) others made tells = tells.1

-- and so is each other one of that table
pub others-kept : (table : TableValue) (label : List ℕ) (listed : Option Listing) (old new : Option Testing) → TellsOthers table label listed old → ruling_in new ≡ ruling_in old → TellsOthers table label listed new
others-kept table label None old new tells same = tt
others-kept table label (Some listed) old new tells same = (tells.0, same ∙ tells.1)

-- what a listing accepts of what a label spells is what may be registered and is valid
module _ (properties : Properties) (table : TableValue) (sound : IsSound table) where
  abbrev asked : Filter
  asked = filter_if properties (asks_nothing table) table

  accepts_by : (v : List ℕ) → ((filter_by properties (ruling_of table)).accepts v ≡ true) → (asked.accepts v ≡ true)
  accepts_by v is = subst (λ (f : Filter). f.accepts v ≡ true) (filter_by-ruling properties table) is

  passed : (v : List ℕ) → IsRegistrable properties v → (b : Bool) → passes (ruling_of table) v ≡ b → asked.accepts v ≡ true → b ≡ true
  passed v registrable true told accepted = refl
  passed v registrable false told accepted =
      let none : asked.accepts v ≡ false = subst (λ (f : Filter). f.accepts v ≡ false) (filter_by-ruling properties table) (accepts-failed properties (ruling_of table) v told) in
      let clash : false ≡ true = sym none ∙ accepted in
      cc

  pub listed-valid : (label v : List ℕ) → Spells table label v → MayBeListed properties table v → IsValid table v
  listed-valid label v spells may =
      ((asked-is properties table v sound (spelled-valid table label v sound spells)).0 (accepts_by v (accepts-passed properties (ruling_of table) v may.0 may.1))).1

  pub valid-listed : (v : List ℕ) → IsRegistrable properties v → IsValid table v → MayBeListed properties table v
  valid-listed v registrable valid =
      (registrable, passed v registrable (passes (ruling_of table) v) refl ((asked-is properties table v sound (λ free. valid)).1 (registrable, valid)))

-- ---- what the listing of v says of w

module _ (table : TableValue) (sound : IsSound table) (v w : List ℕ) where
  among : (is_among (spelled table v) w ≡ true) ↔ Spells table v w
  among =
      let found = among-found w (spelled table v) in
      let spells = spelled-Spells table v w sound.entries in
      (λ e. spells.0 (found.0 e), λ s. found.1 (spells.1 s))

  -- by whether it is spelled, and whether it is left out
  abbrev listed_by : Bool → Bool → Option Regard
  listed_by there left_out = if there then appears_as (let a : Appearance = if left_out then LeftOut else Listed (disposition table v w) in a) else None

  listed-some : (a l : Bool) → is_among (spelled table v) w ≡ a → is_left_out table v w ≡ l → (regard : Regard) → Some regard ≡ listed_by a l → Spells table v w × (is_left_out table v w ≡ false) × (regard ≡ regard_by (disposition table v w))
  listed-some true true there left_out regard is = absurd (let clash : Some regard ≡ None = is in cc)
  listed-some true false there left_out regard is = (among.0 there, left_out, same_Some regard (regard_by (disposition table v w)) is)
  listed-some false l there left_out regard is = absurd (let clash : Some regard ≡ None = is in cc)

  listed-none : (a l : Bool) → is_among (spelled table v) w ≡ a → is_left_out table v w ≡ l → None ≡ listed_by a l → Spells table v w → is_left_out table v w ≡ true
  listed-none true true there left_out is spells = left_out
  listed-none true false there left_out is spells = absurd (let clash : None ≡ Some (regard_by (disposition table v w)) = is in cc)
  listed-none false l there left_out is spells = absurd (let clash : false ≡ true = sym there ∙ among.1 spells in cc)

  pub is_listed : (regard : Regard) → Some regard ≡ listed_regard table v w → Spells table v w × (is_left_out table v w ≡ false) × (regard ≡ regard_by (disposition table v w))
  is_listed = listed-some (is_among (spelled table v) w) (is_left_out table v w) refl refl

  pub is_unlisted : None ≡ listed_regard table v w → Spells table v w → is_left_out table v w ≡ true
  is_unlisted = listed-none (is_among (spelled table v) w) (is_left_out table v w) refl refl

  -- what it spells, as it appears
  pub listed-spelled : (appears : Appearance) → Spells table v w → appears ≡ appearance table v w → appears_as appears ≡ listed_regard table v w
  listed-spelled appears spells is = ap appears_as is ∙ ap (λ (b : Bool). if b then appears_as (appearance table v w) else None) (sym (among.1 spells))

  pub listed-unspelled : ¬ Spells table v w → None ≡ listed_regard table v w
  listed-unspelled none = ap (λ (b : Bool). if b then appears_as (appearance table v w) else None) (sym (false_from_ne_true (is_among (spelled table v) w) (λ e. none (among.0 e))))

module _ (o : Settings) (table : TableValue) (sound : IsSound table) where
  registrable : List ℕ → Bool
  registrable = is_registrable o.properties

  above-empty : (w : List ℕ) → IsRegistrable o.properties w → IsBelow [] w
  above-empty [] is = absurd ((MeetsRequirements-registrable o.properties [] is).some refl)
  above-empty (c ∷ w) is = tt

  left_out : (v w : List ℕ) → IsRegistrable o.properties w → Spells table v w → (is_left_out table v w ≡ true) ↔ IsLeftOut table v w
  left_out v w is spells = left_out-told table v sound w (registrable-some o.properties w is) spells

  is_variant : (v w : List ℕ) → IsGood o table v → Spells table v w → is_left_out table v w ≡ false → MayBeListed o.properties table w → IsVariantOf o table v w
  is_variant v w good spells kept may = record {
    good = good;
    listed = record {
      registrable = may.0;
      valid = listed-valid o.properties table sound v w spells may;
      greater = above-empty w may.0;
      spelled = spells;
      kept = λ l. (let clash : true ≡ false = sym ((left_out v w may.0 spells).1 l) ∙ kept in cc);
    };
  }

  -- it is listed
  pub regard-listed : (v w : List ℕ) (regard : Regard) → IsGood o table v → Some regard ≡ listed_regard table v w → MayBeListed o.properties table w → regard ≡ regard_of (is_registrable o.properties) table v w
  regard-listed v w regard good is may =
      let found = is_listed table sound v w regard is in
      found.2 ∙ regard-variant o table sound v w (is_variant v w good found.0 found.1 may)

  -- it isn't
  pub no_variant : (v w : List ℕ) → None ≡ listed_regard table v w → ¬ IsVariantOf o table v w
  no_variant v w is = λ i. i.listed.kept ((left_out v w i.listed.registrable i.listed.spelled).0 (is_unlisted table sound v w is i.listed.spelled))

  -- both are good, and it isn't
  pub regard-good : (v w : List ℕ) → IsGood o table v → IsGood o table w → None ≡ listed_regard table v w → NoVariant ≡ regard_of (is_registrable o.properties) table v w
  regard-good v w good other none = regard-none o table sound v w (no_variant v w none) (λ b. b.refused (good, other))

  -- one of them isn't good, and it is no variant
  pub regard-arising : (v w : List ℕ) (regard : Regard) → ¬ (IsGood o table v × IsGood o table w) → ¬ IsVariantOf o table v w
      → (Arises table v w → regard ≡ barred_in table.version) → (¬ Arises table v w → regard ≡ NoVariant) → regard ≡ regard_of (is_registrable o.properties) table v w
  regard-arising v w regard refused unlisted arising none = by_test (is_among (spelled (unasked table) v) w) (arises-told o table sound v w)
    where
      by_test : (told : Bool) → (told ≡ true) ↔ Arises table v w → regard ≡ regard_of (is_registrable o.properties) table v w
      by_test true told =
          let arises = told.0 refl in
          arising arises ∙ regard-barred o table sound v w (record { refused = refused; unlisted = unlisted; arises = arises })
      by_test false told =
          let free : ¬ Arises table v w = λ a. (let clash : false ≡ true = told.1 a in cc) in
          none free ∙ regard-none o table sound v w unlisted (λ b. free b.arises)

-- ---- by what today's rules say of the other label

-- what is found where it isn't listed
abbrev pub IsBarredAs : TableValue → List ℕ → List ℕ → Regard → Type 0
IsBarredAs table v w regard = (Arises table v w → regard ≡ barred_in table.version) × (¬ Arises table v w → regard ≡ NoVariant)

module _ (o : Settings) (table : TableValue) (sound : IsSound table) (v w : List ℕ) where
  -- both are good
  pub of_good : IsGood o table v → IsGood o table w → (listed : Option Regard) → listed ≡ listed_regard table v w → unwrap_or listed NoVariant ≡ regard_of (is_registrable o.properties) table v w
  of_good good other None is = regard-good o table sound v w good other is
  of_good good other (Some regard) is = regard-listed o table sound v w regard good is (valid-listed o.properties table sound w other.registrable (admitted-valid.valid table w other.admitted))

  module _ (good : IsGood o table v) where
    -- it isn't good, and may be a variant
    pub of_variant_alone : (standing : Standing) → standing ≡ VariantAlone → IsStanding o.properties table w standing → (regard : Regard) → Some regard ≡ listed_regard table v w → regard ≡ regard_of (is_registrable o.properties) table v w
    of_variant_alone standing same stands regard is =
        let here : IsStanding o.properties table w VariantAlone = subst (IsStanding o.properties table w) same stands in
        regard-listed o table sound v w regard good is here.0

    pub of_unlisted : (standing : Standing) → standing ≡ VariantAlone → IsStanding o.properties table w standing → None ≡ listed_regard table v w → (regard : Regard) → IsBarredAs table v w regard → regard ≡ regard_of (is_registrable o.properties) table v w
    of_unlisted standing same stands is regard barred =
        let here : IsStanding o.properties table w VariantAlone = subst (IsStanding o.properties table w) same stands in
        regard-arising o table sound v w regard (λ both. here.1 both.1.admitted) (no_variant o table sound v w is) barred.0 barred.1

    -- it is no variant
    pub of_refused : (standing : Standing) → standing ≡ Refused → IsStanding o.properties table w standing → (regard : Regard) → IsBarredAs table v w regard → regard ≡ regard_of (is_registrable o.properties) table v w
    of_refused standing same stands regard barred =
        let here : IsStanding o.properties table w Refused = subst (IsStanding o.properties table w) same stands in
        regard-arising o table sound v w regard (λ both. here.0 (both.1.registrable, both.1.admitted))
        (λ i. here.1 (valid-listed o.properties table sound w i.listed.registrable i.listed.valid)) barred.0 barred.1

  -- there is no listing of it
  pub back-barred : (¬ IsGood o table v) → (regard : Regard) → IsBarredAs table v w regard → regard ≡ regard_of (is_registrable o.properties) table v w
  back-barred bad regard barred = regard-arising o table sound v w regard (λ both. bad both.0) (λ i. bad i.good) barred.0 barred.1

-- ---- what a call gives

-- no answer but that it is good
pub not_good : (o : Settings) (table : TableValue) (w : List ℕ) (standing : Standing) → (standing ≡ Good → ⊥) → IsStanding o.properties table w standing → ¬ IsGood o table w
not_good o table w Good other stands = absurd (other refl)
not_good o table w VariantAlone other stands = λ good. stands.1 good.admitted
not_good o table w Refused other stands = λ good. stands.0 (good.registrable, good.admitted)

pub is_good_by : (o : Settings) (table : TableValue) (w : List ℕ) (standing : Standing) → standing ≡ Good → IsStanding o.properties table w standing → IsGood o table w
is_good_by o table w standing same stands =
    let here : IsStanding o.properties table w Good = subst (IsStanding o.properties table w) same stands in
    record { registrable = here.0; admitted = here.1 }

pub barred_to : {E : Type 0} (table : TableValue) (v w : List ℕ) (P : Regard → Type 0) (r : Result Regard E) → ((regard : Regard) → IsBarredAs table v w regard → P regard)
    → IfOk r (λ regard. Arises table v w → regard ≡ barred_in table.version) → IfOk r (λ regard. ¬ Arises table v w → regard ≡ NoVariant) → IfOk r P
barred_to {E} table v w P (Ok regard) from arising none = from regard (arising, none)
barred_to {E} table v w P (Err fault) from arising none = tt

-- the same of the table and the label that decisions are of
pub of_pair : (o : Settings) (table : TableValue) (label other : List ℕ) (d : Decisions) (standing : Standing) (P : TableValue → List ℕ → Type 0) → IsOfPair table label d
    → (IsGood o d.table.now d.label.now → IsStanding o.properties d.table.now other standing → P d.table.now d.label.now) → IsGood o table label → IsStanding o.properties table other standing → P table label
of_pair o table label other d standing P pair from =
    let at_table : IsGood o table d.label.now → IsStanding o.properties table other standing → P table d.label.now =
    subst (λ (t : TableValue). IsGood o t d.label.now → IsStanding o.properties t other standing → P t d.label.now) pair.table_is from in
    subst (λ (l : List ℕ). IsGood o table l → IsStanding o.properties table other standing → P table l) pair.label_is at_table

-- what a call that kept them found of their label
pub barred_by : {E : Type 0} (table : TableValue) (v w : List ℕ) (d : Decisions) (P : Regard → Type 0) (r : Result Regard E) → IsOfPair table v d
    → ((regard : Regard) → IsBarredAs table v w regard → P regard)
    → IfOk r (λ regard. Arises d.table.now d.label.now w → regard ≡ barred_in d.table.now.version)
    → IfOk r (λ regard. ¬ Arises d.table.now d.label.now w → regard ≡ NoVariant) → IfOk r P
barred_by {E} table v w d P r pair from =
    barred_to d.table.now d.label.now w P r
    (λ regard barred. from regard (subst (λ (l : List ℕ). IsBarredAs table l w regard) pair.label_is (subst (λ (t : TableValue). IsBarredAs t d.label.now w regard) pair.table_is barred)))

pub pair_of : (table : TableValue) (label : List ℕ) (d e : Decisions) → IsOfPair table label d → IsOfPair d.table.now d.label.now e → IsOfPair table label e
pair_of table label d e first second = record { table_is = second.table_is ∙ first.table_is; label_is = second.label_is ∙ first.label_is }

-- both of what two labels are to each other
abbrev both : Regard → Regard → Regards
both there back = record { there = there; back = back }

pub both_are : {there there' back back' : Regard} → there ≡ there' → back ≡ back' → both there back ≡ both there' back'
both_are {there} {there'} {back} {back'} e f = ap (λ x. both x back) e ∙ ap (λ y. both there' y) f
