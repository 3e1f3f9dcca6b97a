-- How a label appears in a listing, by what is found of its readings and of its rules.
use Rattle.std.proofs.Common.{◌≡◌, ◌≢◌, ◌↔◌, inl, inr, ℕ, Bool, true, false, List, [], ◌∷◌, refl, sym, ap, subst, ◌∙◌, arith}
use Rattle.std.specs.Prelude.{◌||◌, not, bytes_eq, Option, Some, None, Contains, if◌then◌else◌}
use Rattle.std.specs.Int.{bit_at}
use Rattle.std.specs.List.{AllByRecursion, list_any}
use Rattle.std.proofs.lemmas.Bool.{false_from_ne_true}
use Rattle.std.proofs.lemmas.List.Elements.{All-contains, All-from_recursion}
use Rattle.std.proofs.lemmas.Slice.Eq.{bytes_eq-Decides}
use Rattle.reading_kinds.specs.Readings.{Substitution, HasKind, SubstitutionsSpell, SomeLacks}
use Rattle.variant_dispositions.specs.declared.action.Action.{Action}
use Rattle.variant_dispositions.specs.declared.variant.VariantDisposition.{VariantDisposition}
use Rattle.variant_dispositions.specs.declared.variant.VariantDisposition.TheVariants.{Clear}
use Rattle.variant_dispositions.specs.Actions.{disposition as disposition_by_actions}
use Rattle.variant_dispositions.specs.declared.disposition.Disposition.{Disposition as Outcome}
use Rattle.variant_dispositions.specs.Kinds.{kind_of_source, recorded}
use Rattle.variant_dispositions.specs.Kinds.Kind.{Unmapped, Typed}
use Rattle.variant_dispositions.specs.Readings.{AreWordsOf, IsTold}
use Rattle.variant_dispositions.proofs.KindLemmas.{Contains-recorded}
use Rattle.variant_dispositions.proofs.MemberLemmas.{any-told, bool_same, Contains-map}
use Rattle.variant_table.specs.declared.version.Version.{Version}
use Rattle.variant_table.specs.declared.version.Version.TheVariants.{One, Two, Three}
use Rattle.variant_table.specs.Entries.{Entry, TableValue, has_types}
use Rattle.variant_table.specs.Segmentations.{IsSegmentation}
use Rattle.valid_labels.specs.Actions.{actions_of, matches_rule}
use Rattle.valid_labels.specs.Dispositions.{disposition_by, kinds_of, told_itself, IsOwnDisposition}
use Rattle.valid_labels.specs.Readings.{has_kind, readings_of, told_by}
use Rattle.valid_labels.specs.Testing.{IsAdmission}
use Rattle.valid_labels.specs.Validity.{IsSound}
use Rattle.valid_labels.specs.declared.validity.Admission.TheVariants.{Admitted}
use Rattle.valid_labels.specs.Staying.{staying_of}
use Rattle.valid_labels.proofs.ItselfLemmas.{told-themselves}
use Rattle.valid_labels.proofs.ReadingLists.{has-told, readings-are, readings-are-told}
use Rattle.variant_list.specs.Substitutions.{substitutions_of}
use Rattle.variant_list.proofs.SpelledByLemmas.{AreSubstitutions-label}
use Rattle.answer_json.specs.declared.block.Disposition.{Disposition}
use Rattle.answer_json.specs.declared.block.Disposition.TheVariants as told_as
use Rattle.idn2_answers.specs.Dispositions.{allocation, disposition, is_allocatable_in_some, is_left_out, lacks_blocked, substitutions_for, told}
use Rattle.idn2_answers.proofs.RecordedKinds.{of_source, typeless-kind}
use Rattle.idn2_answers.proofs.TypelessKinds.{HasNoType, typeless-same}
use Rattle.idn2_cli.specs.declared.modes.dispositions.Appearance.{Appearance}
use Rattle.idn2_cli.specs.declared.modes.dispositions.Appearance.TheVariants.{LeftOut, Listed}
use Rattle.idn2_cli.specs.declared.modes.dispositions.DecidedBy.{DecidedBy}
use Rattle.idn2_cli.specs.declared.modes.dispositions.DecidedBy.TheVariants.{Version1, Nothing, Rules, Blocked, Readings}
use Rattle.idn2_cli.specs.inner.Dispositions.{AreRulesOf, IsDecidedBy, appearance, appearance_by, appearance_in, asks_readings}
use Rattle.idn2_cli.proofs.AskedRules.{disposition-same, told-same}

same-test : (v label : List ℕ) → v ≢ label → bytes_eq v label ≡ false
same-test v label other = false_from_ne_true (bytes_eq v label) (λ e. other ((bytes_eq-Decides v label).0 e))

or-true_right : (b : Bool) → (b || true) ≡ true
or-true_right true = refl
or-true_right false = refl

-- ---- where readings make no difference

pub appears-in_version_1 : (table : TableValue) (label v : List ℕ) → table.version ≡ One → Listed None ≡ appearance table label v
appears-in_version_1 table label v is = ap (λ (n : Version). appearance_in n table label v) (sym is)

-- nothing has a type in a table of version 2
appears-free : (table : TableValue) (label v : List ℕ) → table.version ≡ Two → has_types table.entries ≡ false → Listed (Some told_as.Allocatable) ≡ appearance table label v
appears-free table label v is none =
    let all : is_allocatable_in_some table label v ≡ true = ap (λ (b : Bool). bytes_eq v label || (not b || list_any lacks_blocked (readings_of (substitutions_of table label) v))) none ∙ or-true_right (bytes_eq v label) in
    ap (λ (b : Bool). let a : Appearance = Listed (Some (allocation b)) in a) (sym all) ∙ ap (λ (n : Version). appearance_in n table label v) (sym is)

-- by what is told
pub appears-told : (table : TableValue) (label v : List ℕ) (t : Option VariantDisposition) → table.version ≡ Three → t ≡ told table label v → appearance_by t ≡ appearance table label v
appears-told table label v t is same = ap appearance_by same ∙ ap (λ (n : Version). appearance_in n table label v) (sym is)

-- nothing has a type
told-typeless : (table : TableValue) (label v : List ℕ) → has_types table.entries ≡ false → Some (Clear (disposition_by table v (Unmapped ∷ []))) ≡ told table label v
told-typeless table label v none =
    ap (λ (b : Bool). if b then told_by (matches_rule table v) (actions_of table.definitions) (substitutions_for table label v) v else Some (Clear (disposition_by table v (Unmapped ∷ [])))) (sym none)

pub appears-by_rules : (table : TableValue) (label v : List ℕ) (matched : ℕ → Bool) (actions : List Action) → table.version ≡ Three → has_types table.entries ≡ false → actions ≡ actions_of table.definitions → AreRulesOf table v matched
    → appearance_by (Some (Clear (disposition_by_actions matched actions (Unmapped ∷ [])))) ≡ appearance table label v
appears-by_rules table label v matched actions is none same rules =
    ap (λ d. appearance_by (Some (Clear d))) (ap (λ (xs : List Action). disposition_by_actions matched xs (Unmapped ∷ [])) same ∙ disposition-same matched (matches_rule table v) (actions_of table.definitions) (Unmapped ∷ []) rules)
    ∙ appears-told table label v (Some (Clear (disposition_by table v (Unmapped ∷ [])))) is (told-typeless table label v none)

-- nor is there an action
appears-without_actions : (table : TableValue) (label v : List ℕ) → table.version ≡ Three → has_types table.entries ≡ false → actions_of table.definitions ≡ [] → Listed (Some told_as.Allocatable) ≡ appearance table label v
appears-without_actions table label v is none empty =
    ap (λ (xs : List Action). appearance_by (Some (Clear (disposition_by_actions (matches_rule table v) xs (Unmapped ∷ []))))) (sym empty)
    ∙ appears-told table label v (Some (Clear (disposition_by table v (Unmapped ∷ [])))) is (told-typeless table label v none)

pub appears-undecided : (table : TableValue) (label v : List ℕ) → IsDecidedBy table Nothing → Listed (Some told_as.Allocatable) ≡ appearance table label v
appears-undecided table label v is = elim is.1 [
  | inl two ↦ appears-free table label v two is.0
  | inr three ↦ appears-without_actions table label v three.0 is.0 three.1
]

-- ---- by readings

-- a ruleset in which something has a type, of another label than the one asked about
told-other : (table : TableValue) (label v : List ℕ) → v ≢ label → has_types table.entries ≡ true → told_by (matches_rule table v) (actions_of table.definitions) (substitutions_of table label) v ≡ told table label v
told-other table label v other some =
    ap (λ (b : Bool). told_by (matches_rule table v) (actions_of table.definitions) (if b then staying_of table label else substitutions_of table label) v) (sym (same-test v label other))
    ∙ ap (λ (b : Bool). if b then told_by (matches_rule table v) (actions_of table.definitions) (substitutions_for table label v) v else Some (Clear (disposition_by table v (Unmapped ∷ [])))) (sym some)

pub appears-by_readings : (table : TableValue) (label v : List ℕ) (matched : ℕ → Bool) (actions : List Action) (t : VariantDisposition) → IsSound table → table.version ≡ Three → has_types table.entries ≡ true → v ≢ label → actions ≡ actions_of table.definitions
    → AreRulesOf table v matched → SubstitutionsSpell (substitutions_of table label) v → IsTold matched actions (substitutions_of table label) v t → appearance_by (Some t) ≡ appearance table label v
appears-by_readings table label v matched actions t sound is some other same rules spells told =
    let here = told-same matched (matches_rule table v) (actions_of table.definitions) (substitutions_of table label) v t rules (subst (λ (xs : List Action). IsTold matched xs (substitutions_of table label) v t) same told) in
    let found = (readings-are-told (matches_rule table v) (actions_of table.definitions) (substitutions_of table label) v t (AreSubstitutions-label table label sound.entries)).1 (spells, here) in
    appears-told table label v (Some t) is (sym found ∙ told-other table label v other some)

-- nothing is told of what isn't spelled
unspelled-told : (table : TableValue) (label v : List ℕ) → IsSound table → ¬ SubstitutionsSpell (substitutions_of table label) v → (t : Option VariantDisposition) → t ≡ told_by (matches_rule table v) (actions_of table.definitions) (substitutions_of table label) v → t ≡ None
unspelled-told table label v sound none None is = refl
unspelled-told table label v sound none (Some t) is =
    absurd (none ((readings-are-told (matches_rule table v) (actions_of table.definitions) (substitutions_of table label) v t (AreSubstitutions-label table label sound.entries)).0 (sym is)).0)

pub appears-unspelled : (table : TableValue) (label v : List ℕ) → IsSound table → table.version ≡ Three → has_types table.entries ≡ true → v ≢ label → ¬ SubstitutionsSpell (substitutions_of table label) v → Listed (Some told_as.Blocked) ≡ appearance table label v
appears-unspelled table label v sound is some other none =
    let nothing = unspelled-told table label v sound none (told_by (matches_rule table v) (actions_of table.definitions) (substitutions_of table label) v) refl in
    appears-told table label v None is (sym nothing ∙ told-other table label v other some)

-- ---- the label itself

-- where nothing has a type, by the rules alone
typeless-own : (table : TableValue) (label : List ℕ) (d : Outcome) → label ≢ [] → has_types table.entries ≡ false → IsOwnDisposition table label d → d ≡ disposition_by table label (Unmapped ∷ [])
typeless-own table label d some none own = by_segmentation own.0 own.1 own.2
  where
    no_type : (segmentation : List Entry) → AllByRecursion (Contains table.entries) segmentation → HasNoType (kinds_of segmentation)
    no_type segmentation all number c =
        let g = (Contains-map (λ (e : Entry). kind_of_source e.type) segmentation (Typed number)).0 c in
        typeless-kind table number none (of_source g.0 (All-contains (Contains table.entries) segmentation g.0 (All-from_recursion (Contains table.entries) segmentation all) g.1) g.2)

    by_segmentation : (segmentation : List Entry) → IsSegmentation table segmentation label → disposition_by table label (kinds_of segmentation) ≡ d → d ≡ disposition_by table label (Unmapped ∷ [])
    by_segmentation [] is e = absurd (some (sym is.joined))
    by_segmentation (e ∷ segmentation) is told = sym told ∙ typeless-same (matches_rule table label) (actions_of table.definitions) (kind_of_source e.type) (kinds_of segmentation) (no_type (e ∷ segmentation) is.of_table)

pub appears-itself : (table : TableValue) (label : List ℕ) (d : Outcome) → IsSound table → label ≢ [] → table.version ≡ Three → IsAdmission table label (Admitted d) → appearance_by (Some (Clear d)) ≡ appearance table label label
appears-itself table label d sound nonempty is own = by_types (has_types table.entries) refl
  where
    itself : told_itself table label ≡ Some (Clear d)
    itself = (told-themselves.clear table label d sound).1 (own.0.clear, own.1)

    by_types : (b : Bool) → b ≡ has_types table.entries → appearance_by (Some (Clear d)) ≡ appearance table label label
    by_types true some =
        appears-told table label label (Some (Clear d)) is (
        sym itself
        ∙ ap (λ (b : Bool). told_by (matches_rule table label) (actions_of table.definitions) (if b then staying_of table label else substitutions_of table label) label) (sym ((bytes_eq-Decides label label).1 refl))
        ∙ ap (λ (b : Bool). if b then told_by (matches_rule table label) (actions_of table.definitions) (substitutions_for table label label) label else Some (Clear (disposition_by table label (Unmapped ∷ [])))) some
        )
    by_types false none =
        ap (λ d. appearance_by (Some (Clear d))) (typeless-own table label d nonempty (sym none) own.1)
        ∙ appears-told table label label (Some (Clear (disposition_by table label (Unmapped ∷ [])))) is (told-typeless table label label (sym none))

-- ---- a table of version 2

lacks-told : (reading : List Substitution) → (lacks_blocked reading ≡ true) ↔ (¬ HasKind reading 3)
lacks-told reading = (
  λ e h. let some = (has-told (recorded reading) (Typed 1)).1 ((Contains-recorded reading 3).1 (omega arith, h)) in let clash : false ≡ true = ap not (sym some) ∙ e in cc,
  λ none. ap not (false_from_ne_true (has_kind (recorded reading) (Typed 1)) (λ e. none ((Contains-recorded reading 3).0 ((has-told (recorded reading) (Typed 1)).0 e)).1)),
)

some-lacks : (table : TableValue) (label v : List ℕ) → IsSound table → (list_any lacks_blocked (readings_of (substitutions_of table label) v) ≡ true) ↔ SomeLacks (substitutions_of table label) v 3
some-lacks table label v sound =
    let any = any-told lacks_blocked (readings_of (substitutions_of table label) v) in
    let are = AreSubstitutions-label table label sound.entries in (
      λ e. let g = any.0 e in (g.0, (readings-are (substitutions_of table label) v g.0 are).0 g.1, (lacks-told g.0).0 g.2),
      λ h. any.1 (h.0, (readings-are (substitutions_of table label) v h.0 are).1 h.1, (lacks-told h.0).1 h.2),
    )

blocked-told : (table : TableValue) (label v : List ℕ) → v ≢ label → has_types table.entries ≡ true → list_any lacks_blocked (readings_of (substitutions_of table label) v) ≡ is_allocatable_in_some table label v
blocked-told table label v other some =
    ap (λ (b : Bool). b || (not true || list_any lacks_blocked (readings_of (substitutions_of table label) v))) (sym (same-test v label other))
    ∙ ap (λ (b : Bool). bytes_eq v label || (not b || list_any lacks_blocked (readings_of (substitutions_of table label) v))) (sym some)

appears-allocated : (table : TableValue) (label v : List ℕ) (b : Bool) → table.version ≡ Two → b ≡ is_allocatable_in_some table label v → Listed (Some (allocation b)) ≡ appearance table label v
appears-allocated table label v b is same = ap (λ (b : Bool). let a : Appearance = Listed (Some (allocation b)) in a) same ∙ ap (λ (n : Version). appearance_in n table label v) (sym is)

pub appears-by_blocked : (table : TableValue) (label v : List ℕ) (has lacks : ℕ) (b : Bool) → IsSound table → table.version ≡ Two → has_types table.entries ≡ true → v ≢ label → AreWordsOf (substitutions_of table label) v has lacks → (b ≡ true) ↔ (bit_at lacks 3 ≡ 1)
    → Listed (Some (allocation b)) ≡ appearance table label v
appears-by_blocked table label v has lacks b sound is some other words found =
    let lack = words.lacks_are 3 (omega arith) in
    let told = some-lacks table label v sound in
    let same = bool_same b (list_any lacks_blocked (readings_of (substitutions_of table label) v)) (λ e. told.1 (lack.0 (found.0 e))) (λ e. found.1 (lack.1 (told.0 e))) in
    appears-allocated table label v b is (same ∙ blocked-told table label v other some)

pub appears-blocked : (table : TableValue) (label v : List ℕ) → IsSound table → table.version ≡ Two → has_types table.entries ≡ true → v ≢ label → ¬ SubstitutionsSpell (substitutions_of table label) v → Listed (Some told_as.Blocked) ≡ appearance table label v
appears-blocked table label v sound is some other none =
    let lacks = list_any lacks_blocked (readings_of (substitutions_of table label) v) in
    let same = false_from_ne_true lacks (λ e. let h = (some-lacks table label v sound).0 e in none (h.0, h.1.is_cut, h.1.joined)) in
    appears-allocated table label v false is (sym same ∙ blocked-told table label v other some)

-- what isn't spelled, where readings decide
pub appears-unread : (table : TableValue) (label v : List ℕ) (by : DecidedBy) → IsSound table → IsDecidedBy table by → asks_readings by ≡ true → v ≢ label → ¬ SubstitutionsSpell (substitutions_of table label) v → Listed (Some told_as.Blocked) ≡ appearance table label v
appears-unread table label v Version1 sound is asks other none = absurd (let clash : false ≡ true = asks in cc)
appears-unread table label v Nothing sound is asks other none = absurd (let clash : false ≡ true = asks in cc)
appears-unread table label v Rules sound is asks other none = absurd (let clash : false ≡ true = asks in cc)
appears-unread table label v Blocked sound is asks other none = appears-blocked table label v sound is.0 is.1 other none
appears-unread table label v Readings sound is asks other none = appears-unspelled table label v sound is.0 is.1 other none

pub appears-as_label : (table : TableValue) (label : List ℕ) → table.version ≡ Two → Listed (Some told_as.Allocatable) ≡ appearance table label label
appears-as_label table label is =
    appears-allocated table label label true is (ap (λ (b : Bool). b || (not (has_types table.entries) || list_any lacks_blocked (readings_of (substitutions_of table label) label))) (sym ((bytes_eq-Decides label label).1 refl)))

-- ---- what an appearance says

pub left_out-appears : (table : TableValue) (label v : List ℕ) → LeftOut ≡ appearance table label v → is_left_out table label v ≡ true
left_out-appears table label v = by_test (is_left_out table label v)
  where
    by_test : (b : Bool) → LeftOut ≡ (let a : Appearance = if b then LeftOut else Listed (disposition table label v) in a) → b ≡ true
    by_test true e = refl
    by_test false e = absurd (let clash : LeftOut ≡ Listed (disposition table label v) = e in cc)

pub listed-appears : (table : TableValue) (label v : List ℕ) (field : Option Disposition) → Listed field ≡ appearance table label v → (is_left_out table label v ≡ false) × (field ≡ disposition table label v)
listed-appears table label v field = by_test (is_left_out table label v)
  where
    by_test : (b : Bool) → Listed field ≡ (let a : Appearance = if b then LeftOut else Listed (disposition table label v) in a) → (b ≡ false) × (field ≡ disposition table label v)
    by_test true e = absurd (let clash : Listed field ≡ LeftOut = e in cc)
    by_test false e = (refl, cc)
