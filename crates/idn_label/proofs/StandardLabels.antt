-- What may be registered by the profile may be by the standard, but for RTL labels with a mark that is L in Unicode.
use Rattle.std.proofs.Common.{◌≡◌, ◌↔◌, ℕ, false, List, [], ◌∷◌, Some, None, refl, ap, ◌∙◌}
use Rattle.std.specs.List.{AllByRecursion}
use Rattle.std.proofs.lemmas.Bool.{false_from_ne_true}
use Rattle.std.proofs.lemmas.List.Elements.{All-weaker}
use Rattle.idna.proofs.Computing.{idna}
use Rattle.idn_text.specs.declared.refusal.Refusal.TheVariants.{Bidi}
use Rattle.idn_class.specs.declared.class.Class.{Class}
use Rattle.idn_class.specs.declared.class.Class.TheVariants as classes
use Rattle.idn_class.specs.declared.class.Class.TheVariants.{Pvalid}
use Rattle.idn_class.specs.declared.properties.Properties.TheVariants.{Profile, Unicode}
use Rattle.idn_class.specs.Barring.{is_barred}
use Rattle.idn_class.specs.BidiRule.{PassesBidiRule}
use Rattle.idn_class.specs.Class.{class_of}
use Rattle.idn_class.specs.Profile.{left_to_right_marks, HasMarkInRtl}
use Rattle.idn_class.specs.Tests.{bidi_ok}
use Rattle.idn_class.proofs.BidiTests.{bidi_ok-PassesBidiRule}
use Rattle.idn_class.proofs.ComputedLabels.{rules, in_table, map-class_of-in_table}
use Rattle.idn_class.proofs.ContextJTests.{contextj_ok-PassesContextJ}
use Rattle.idn_class.proofs.FactLabels.{class_of-standard}
use Rattle.idn_class.proofs.StandardBidi.{bidi-standard}
use Rattle.idn_class.proofs.StandardLemmas.{joiners-standard}
use Rattle.idn_label.specs.ALabel.{a_label_of}
use Rattle.idn_label.specs.FirstFault.{fault_of_class, first_fault, IsRegistrable}
use Rattle.idn_label.proofs.ExampleLemmas.{told_is}
use Rattle.idn_label.proofs.FaultLemmas.{no_fault}
use Rattle.idn_label.proofs.FaultParts.{faultless}
use Rattle.idn_label.proofs.RequirementLemmas.{MeetsRequirements-registrable, registrable-MeetsRequirements, unmarked}

-- ---- the classes of what is permitted

free_class : (class : Class) → fault_of_class class ≡ None → is_barred class ≡ false
free_class classes.Pvalid h = refl
free_class classes.Contextj h = refl
free_class classes.Contexto h = refl
free_class classes.Disallowed h = cc
free_class classes.Unassigned h = cc

permitted_standard : (c : ℕ) → fault_of_class (class_of Profile c) ≡ None → fault_of_class (class_of Unicode c) ≡ None
permitted_standard c free = ap fault_of_class (class_of-standard c (free_class (class_of Profile c) free)) ∙ free

unbarred : (c : ℕ) → fault_of_class (class_of Profile c) ≡ None → is_barred (class_of Profile c) ≡ false
unbarred c free = free_class (class_of Profile c) free

-- where the Bidi rule is met by the standard
bidi_alike : (label : List ℕ) → IsRegistrable Profile label → PassesBidiRule Unicode label ↔ ¬ HasMarkInRtl label
bidi_alike label registrable =
    let meets = MeetsRequirements-registrable Profile label registrable in
    bidi-standard label (All-weaker _ _ unbarred label meets.permitted) meets.bidi

-- ---- labels without such a mark, or left-to-right

pub registrable-standard : (label : List ℕ) → IsRegistrable Profile label → ¬ HasMarkInRtl label → IsRegistrable Unicode label
registrable-standard label registrable none =
    let meets = MeetsRequirements-registrable Profile label registrable in
    registrable-MeetsRequirements Unicode label (record {
      some = meets.some;
      normalized = meets.normalized;
      permitted = All-weaker _ _ permitted_standard label meets.permitted;
      hyphens = meets.hyphens;
      no_mark = meets.no_mark;
      joiners = joiners-standard label meets.joiners;
      others = meets.others;
      bidi = (bidi_alike label registrable).1 none;
      points = meets.points;
      octets = meets.octets;
    })

-- ---- and the others

-- the Bidi rule is the only fault that a label may have
bidi_fault : (label : List ℕ) → IsRegistrable Profile label → bidi_ok Unicode label ≡ false → first_fault Unicode label ≡ Some Bidi
unfolding first_fault
bidi_fault label registrable broken =
    let meets = MeetsRequirements-registrable Profile label registrable in
    let parts = faultless Profile label registrable in
    rw (
      parts.some,
      no_fault Unicode label (All-weaker _ _ permitted_standard label meets.permitted),
      parts.normalized,
      parts.hyphens,
      unmarked label meets.no_mark,
      (contextj_ok-PassesContextJ Unicode label).1 (joiners-standard label meets.joiners),
      parts.others,
      broken,
    ) refl

pub refused-standard : (label : List ℕ) → IsRegistrable Profile label → HasMarkInRtl label → first_fault Unicode label ≡ Some Bidi
refused-standard label registrable has =
    bidi_fault label registrable
    (false_from_ne_true (bidi_ok Unicode label)
    (λ met. (bidi_alike label registrable).0 ((bidi_ok-PassesBidiRule Unicode label).0 met) has))

abbrev IsLetIn : ℕ → Type 0
IsLetIn mark = IsRegistrable Profile (0x5D0 ∷ mark ∷ []) × (first_fault Unicode (0x5D0 ∷ mark ∷ []) ≡ Some Bidi)

let_in : (mark : ℕ) → IsRegistrable Profile (0x5D0 ∷ mark ∷ []) → bidi_ok Unicode (0x5D0 ∷ mark ∷ []) ≡ false → IsLetIn mark
let_in mark registrable broken = (registrable, bidi_fault (0x5D0 ∷ mark ∷ []) registrable broken)

pub marks_let_in : AllByRecursion IsLetIn left_to_right_marks
unfolding a_label_of idna rules in_table
marks_let_in = (
  let_in 0xCBF (told_is _ _ _ (map-class_of-in_table (0x5D0 ∷ 0xCBF ∷ []) (Pvalid ∷ Pvalid ∷ []) refl) refl) refl,
  (
    let_in 0xCC6 (told_is _ _ _ (map-class_of-in_table (0x5D0 ∷ 0xCC6 ∷ []) (Pvalid ∷ Pvalid ∷ []) refl) refl) refl,
    (
      let_in 0x1B3A (told_is _ _ _ (map-class_of-in_table (0x5D0 ∷ 0x1B3A ∷ []) (Pvalid ∷ Pvalid ∷ []) refl) refl) refl,
      (
        let_in 0x1B3C (told_is _ _ _ (map-class_of-in_table (0x5D0 ∷ 0x1B3C ∷ []) (Pvalid ∷ Pvalid ∷ []) refl) refl) refl,
        (
          let_in 0x1B42 (told_is _ _ _ (map-class_of-in_table (0x5D0 ∷ 0x1B42 ∷ []) (Pvalid ∷ Pvalid ∷ []) refl) refl) refl,
          (
            let_in 0x1_1A07 (told_is _ _ _ (map-class_of-in_table (0x5D0 ∷ 0x1_1A07 ∷ []) (Pvalid ∷ Pvalid ∷ []) refl) refl) refl,
            (
              let_in 0x1_1A08 (told_is _ _ _ (map-class_of-in_table (0x5D0 ∷ 0x1_1A08 ∷ []) (Pvalid ∷ Pvalid ∷ []) refl) refl) refl,
              (let_in 0x1_1C3F (told_is _ _ _ (map-class_of-in_table (0x5D0 ∷ 0x1_1C3F ∷ []) (Pvalid ∷ Pvalid ∷ []) refl) refl) refl, tt),
            ),
          ),
        ),
      ),
    ),
  ),
)
