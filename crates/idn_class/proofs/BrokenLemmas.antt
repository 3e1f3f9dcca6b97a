-- The condition of the Bidi rule that is told is the first that is broken, at the first place that breaks it; none is told exactly of the labels that pass the rule.
use Rattle.std.proofs.Common.{◌≡◌, ◌≢◌, ℕ, zero, suc, ◌-◌, ◌<◌, ◌≤◌, Bool, true, false, ◌&&◌, ◌⊎◌, ◌↔◌, IsTrue, List, [], ◌∷◌, length, map, Any, Contains, Option, None, Some, slice_get, refl, sym, ap, subst, ◌∙◌, inl, inr, arith, get_or, cond}
use Rattle.std.specs.List.{list_any, list_all}
use Rattle.std.proofs.lemmas.Bool.{cases_lt, cond-true, and_parts, and_from, or_cases, or_left, or_right, not-true, false_from_ne_true, not_from_false}
use Rattle.std.proofs.lemmas.List.{length-map}
use Rattle.std.proofs.lemmas.List.Folds.{Any-from_list_any, list_any-from_Any}
use Rattle.std.proofs.lemmas.List.Sums.{list_all-from_AllPass, AllPass-from_list_all}
use Rattle.std.proofs.lemmas.Option.{get_or_from_slice_get}
use Rattle.idn_class.specs.declared.bidi_class.BidiClass.{BidiClass}
use Rattle.idn_class.specs.declared.bidi_class.BidiClass.TheVariants.{L, EN, AN, NSM}
use Rattle.idn_class.specs.declared.broken.Broken.{Broken}
use Rattle.idn_class.specs.declared.broken.BidiCondition.{BidiCondition}
use Rattle.idn_class.specs.declared.broken.BidiCondition.TheVariants.{First, RtlHolds, RtlEnds, RtlNumbers, LtrHolds, LtrEnds}
use Rattle.idn_class.specs.BidiClass.{bidi_class}
use Rattle.idn_class.specs.BidiRule.{IsRtl, IsLtr, EndsIn, MeetsSixConditions, PassesBidiRule, is_rtl_class, is_allowed_in_rtl, is_allowed_in_ltr, is_end_of_rtl, is_end_of_ltr}
use Rattle.idn_class.specs.Tests.{is_en, is_an, is_nsm, is_rtl, is_ltr}
use Rattle.idn_class.specs.Causes.{IsFirstFailing, failing_in, class_at, last_base, unless_end, misplaced_end, some_place, numbers_agree_to, condition_number, broken_at, broken_or, broken_in_rtl, broken_in_ltr, broken_in_name, broken_condition, IsFirstBrokenInName, IsLastBase, StandsUpTo, Breaks, IsFirstBroken}
use Rattle.idn_class.proofs.BidiLemmas.{class_at as stands_at, ends_here, not_both, SixConditions_from, is_en-true, is_an-true, Contains_EN-from_list_any, Contains_AN-from_list_any}
use Rattle.idn_class.proofs.BidiTests.{is_rtl-gives, is_rtl-from, is_ltr-gives, is_ltr-from, is_nsm-true}
use Rattle.idn_class.proofs.CauseLemmas.{failing_in-is, first_place-unique, no_first_place}
use Rattle.idn_class.specs.declared.properties.Properties.{Properties}

module _ (properties : Properties) where
  -- ---- classes by place

  stands : (label : List ℕ) (k : ℕ) → k < length label → slice_get (map (bidi_class properties) label) k ≡ Some (class_at properties label k)
  stands label k within = stands_at properties label k 0 within

  class_read : (label : List ℕ) (k : ℕ) (d : BidiClass) → k < length label → get_or (map (bidi_class properties) label) k d ≡ class_at properties label k
  class_read label k d within = get_or_from_slice_get (map (bidi_class properties) label) k (class_at properties label k) d (stands label k within)

  within_label : (label : List ℕ) (k : ℕ) → k < length (map (bidi_class properties) label) → k < length label
  within_label label k within = simp length-map at within

  within_classes : (label : List ℕ) (k : ℕ) → k < length label → k < length (map (bidi_class properties) label)
  within_classes label k within = simp length-map within

  each_class : (label : List ℕ) (passes : BidiClass → Bool) → ((k : ℕ) → k < length label → passes (class_at properties label k) ≡ true) → list_all passes (map (bidi_class properties) label) ≡ true
  each_class label passes each =
      list_all-from_AllPass passes (map (bidi_class properties) label) (λ k d within. let low = within_label label k within in ap passes (class_read label k d low) ∙ each k low)

  contains_at : (label : List ℕ) (class : BidiClass) (k : ℕ) → k < length label → class_at properties label k ≡ class → Contains (map (bidi_class properties) label) class
  contains_at label class k within same = (k, within_classes label k within, class_read label k class within ∙ same)

  -- ---- the last class that is no NSM

  -- the same of so many places
  record LastOf (label : List ℕ) (n place : ℕ) : Type 0 where
    pub within : place < n
    pub base : class_at properties label place ≡ NSM → ⊥
    pub marks : (k : ℕ) → place < k → k < n → class_at properties label k ≡ NSM

  base_cases : (label : List ℕ) (n : ℕ) (mark : Bool) (told : Option ℕ) → cond mark (last_base properties label n) (Some n) ≡ told → ((mark ≡ true) × (last_base properties label n ≡ told)) ⊎ ((mark ≡ false) × (Some n ≡ told))
  base_cases label n true told h = inl (refl, h)
  base_cases label n false told h = inr (refl, h)

  last_base-some : (label : List ℕ) (n place : ℕ) → last_base properties label n ≡ Some place → LastOf label n place
  last_base-some label zero place told = let clash : None ≡ Some place = told in cc
  last_base-some label (suc n) place told =
      elim (base_cases label n (is_nsm (class_at properties label n)) (Some place) told) [
        | inl mark ↦
            let found = last_base-some label n place mark.1 in
            let within = found.within in
            record {
              within = omega arith;
              base = found.base;
              marks = λ k low high.
                  elim (cases_lt k n) [
                    | inl lt ↦ found.marks k low lt
                    | inr from ↦ let same : k ≡ n = omega arith in ap (class_at properties label) same ∙ is_nsm-true _ mark.0
                  ];
            }
        | inr base ↦
            let same : n ≡ place = cc in
            record {
              within = omega arith;
              base = λ nsm.
                  let clash : true ≡ false = sym (ap is_nsm nsm) ∙ ap (λ k. is_nsm (class_at properties label k)) (sym same) ∙ base.0 in cc;
              marks = λ k low high. absurd (omega arith);
            }
      ]

  last_base-none : (label : List ℕ) (n : ℕ) → last_base properties label n ≡ None → (k : ℕ) → k < n → class_at properties label k ≡ NSM
  last_base-none label zero told k low = absurd (omega arith)
  last_base-none label (suc n) told k low =
      elim (base_cases label n (is_nsm (class_at properties label n)) None told) [
        | inl mark ↦
            elim (cases_lt k n) [
              | inl lt ↦ last_base-none label n mark.1 k lt
              | inr from ↦ let same : k ≡ n = omega arith in ap (class_at properties label) same ∙ is_nsm-true _ mark.0
            ]
        | inr base ↦ let clash : Some n ≡ None = base.1 in cc
      ]

  last_base-is : (label : List ℕ) (place : ℕ) → last_base properties label (length label) ≡ Some place → IsLastBase properties label place
  last_base-is label place told =
      let found = last_base-some label (length label) place told in
      record { within = found.within; base = found.base; marks = found.marks }

  last_base-unique : (label : List ℕ) (p q : ℕ) → IsLastBase properties label p → IsLastBase properties label q → p ≡ q
  last_base-unique label p q first second =
      elim (cases_lt p q) [
        | inl lt ↦ absurd (second.base (first.marks q lt second.within))
        | inr from ↦
            elim (cases_lt q p) [
              | inl lt ↦ absurd (first.base (second.marks p lt first.within))
              | inr upto ↦ omega arith
            ]
      ]

  end_at : (ends : Bool) (p : ℕ) (told : Option ℕ) → cond ends None (Some p) ≡ told → ((ends ≡ true) × (told ≡ None)) ⊎ ((ends ≡ false) × (told ≡ Some p))
  end_at true p told h = inl (refl, sym h)
  end_at false p told h = inr (refl, sym h)

  end_told : (is_end : BidiClass → Bool) (label : List ℕ) (last : Option ℕ) (place : ℕ) → unless_end properties is_end label last ≡ Some place → (last ≡ Some place) × (is_end (class_at properties label place) ≡ false)
  end_told is_end label None place h = let clash : None ≡ Some place = h in cc
  end_told is_end label (Some p) place h =
      elim (end_at (is_end (class_at properties label p)) p (Some place) h) [
        | inl ends ↦ let clash : Some place ≡ None = ends.1 in cc
        | inr fails ↦
            let same : Some place ≡ Some p = fails.1 in
            let at : p ≡ place = cc in
            (sym same, sym (ap (λ k. is_end (class_at properties label k)) at) ∙ fails.0)
      ]

  end_untold : (is_end : BidiClass → Bool) (label : List ℕ) (last : Option ℕ) (place : ℕ) → unless_end properties is_end label last ≡ None → last ≡ Some place → is_end (class_at properties label place) ≡ true
  end_untold is_end label None place h same = let clash : None ≡ Some place = same in cc
  end_untold is_end label (Some p) place h same =
      let at : p ≡ place = cc in
      elim (end_at (is_end (class_at properties label p)) p None h) [
        | inl ends ↦ sym (ap (λ k. is_end (class_at properties label k)) at) ∙ ends.0
        | inr fails ↦ let clash : None ≡ Some p = fails.1 in cc
      ]

  some_or_none : (o : Option ℕ) → (o ≡ None) ⊎ ((p : ℕ) × (o ≡ Some p))
  some_or_none None = inl refl
  some_or_none (Some p) = inr (p, refl)

  -- ---- EN and AN up to a place

  some_place-at : (n : ℕ) (holds : ℕ → Bool) (k : ℕ) → k < n → holds k ≡ true → some_place n holds ≡ true
  some_place-at zero holds k low h = absurd (omega arith)
  some_place-at (suc n) holds k low h =
      elim (cases_lt k n) [
        | inl lt ↦ or_right (holds n) (some_place n holds) (some_place-at n holds k lt h)
        | inr from ↦ let same : n ≡ k = omega arith in or_left (holds n) (some_place n holds) (ap holds same ∙ h)
      ]

  some_place-gives : (n : ℕ) (holds : ℕ → Bool) → some_place n holds ≡ true → (k : ℕ) × (k < n) × (holds k ≡ true)
  some_place-gives zero holds h = let clash : false ≡ true = h in cc
  some_place-gives (suc n) holds h =
      elim (or_cases (holds n) (some_place n holds) h) [
        | inl here ↦ (n, omega arith, here)
        | inr before ↦ let found = some_place-gives n holds before in let low : found.0 < n = found.1 in (found.0, omega arith, found.2)
      ]

  en_up_to : (label : List ℕ) (place : ℕ) → (some_place (suc place) (λ k. is_en (class_at properties label k)) ≡ true) ↔ StandsUpTo properties label EN place
  en_up_to label place = (
    λ h.
        let found = some_place-gives (suc place) (λ k. is_en (class_at properties label k)) h in
        let low : found.0 < suc place = found.1 in (found.0, omega arith, is_en-true _ found.2),
    λ up. let low : up.0 ≤ place = up.1 in some_place-at (suc place) (λ k. is_en (class_at properties label k)) up.0 (omega arith) (ap is_en up.2),
  )

  an_up_to : (label : List ℕ) (place : ℕ) → (some_place (suc place) (λ k. is_an (class_at properties label k)) ≡ true) ↔ StandsUpTo properties label AN place
  an_up_to label place = (
    λ h.
        let found = some_place-gives (suc place) (λ k. is_an (class_at properties label k)) h in
        let low : found.0 < suc place = found.1 in (found.0, omega arith, is_an-true _ found.2),
    λ up. let low : up.0 ≤ place = up.1 in some_place-at (suc place) (λ k. is_an (class_at properties label k)) up.0 (omega arith) (ap is_an up.2),
  )

  numbers_agree_to-is : (label : List ℕ) (place : ℕ) → (numbers_agree_to properties label place ≡ true) ↔ (StandsUpTo properties label EN place × StandsUpTo properties label AN place → ⊥)
  numbers_agree_to-is label place =
      let en = some_place (suc place) (λ k. is_en (class_at properties label k)) in
      let an = some_place (suc place) (λ k. is_an (class_at properties label k)) in (
        λ agree both.
            let clash : true ≡ false =
            sym (and_from en an ((en_up_to label place).1 both.0) ((an_up_to label place).1 both.1)) ∙ not-true (en && an) agree in
            cc,
        λ never.
            not_from_false (en && an)
            (false_from_ne_true (en && an)
            (λ both. let parts = and_parts en an both in never ((en_up_to label place).0 parts.0, (an_up_to label place).0 parts.1))),
      )

  -- ---- what a told place is, condition by condition

  same_truth : (A : Type 0) → A ↔ A
  same_truth A = (λ h. h, λ h. h)

  rtl_holds-is : (label : List ℕ) (place : ℕ) → (failing_in label (λ k. is_allowed_in_rtl (class_at properties label k)) ≡ Some place) ↔ IsFirstFailing label (λ k. IsTrue (is_allowed_in_rtl (class_at properties label k))) place
  rtl_holds-is label place =
      failing_in-is label (λ k. is_allowed_in_rtl (class_at properties label k)) (λ k. IsTrue (is_allowed_in_rtl (class_at properties label k)))
      (λ k low. same_truth (is_allowed_in_rtl (class_at properties label k) ≡ true)) place

  ltr_holds-is : (label : List ℕ) (place : ℕ) → (failing_in label (λ k. is_allowed_in_ltr (class_at properties label k)) ≡ Some place) ↔ IsFirstFailing label (λ k. IsTrue (is_allowed_in_ltr (class_at properties label k))) place
  ltr_holds-is label place =
      failing_in-is label (λ k. is_allowed_in_ltr (class_at properties label k)) (λ k. IsTrue (is_allowed_in_ltr (class_at properties label k)))
      (λ k low. same_truth (is_allowed_in_ltr (class_at properties label k) ≡ true)) place

  numbers-is : (label : List ℕ) (place : ℕ) → (failing_in label (numbers_agree_to properties label) ≡ Some place) ↔ IsFirstFailing label (λ k. ¬ (StandsUpTo properties label EN k × StandsUpTo properties label AN k)) place
  numbers-is label place =
      failing_in-is label (numbers_agree_to properties label) (λ k. ¬ (StandsUpTo properties label EN k × StandsUpTo properties label AN k)) (λ k low. numbers_agree_to-is label k) place

  told_end : (is_end : BidiClass → Bool) (label : List ℕ) (place : ℕ) → misplaced_end properties is_end label ≡ Some place → IsLastBase properties label place × (IsTrue (is_end (class_at properties label place)) → ⊥)
  told_end is_end label place told =
      let parts = end_told is_end label (last_base properties label (length label)) place told in
      (last_base-is label place parts.0, λ ends. let clash : false ≡ true = sym parts.1 ∙ ends in cc)

  -- ---- no condition is told: the label passes

  -- there is a first code point, and it is no NSM
  abbrev BeginsWithBase : List ℕ → Type 0
  BeginsWithBase label = (0 < length label) × (class_at properties label 0 ≡ NSM → ⊥)

  rtl_first : (label : List ℕ) → IsRtl (map (bidi_class properties) label) → BeginsWithBase label
  rtl_first [] rtl = absurd rtl
  rtl_first (c ∷ label) rtl = elim rtl [ inl r ↦ (omega arith, λ nsm. cc) | inr al ↦ (omega arith, λ nsm. cc) ]

  ltr_first : (label : List ℕ) → IsLtr (map (bidi_class properties) label) → BeginsWithBase label
  ltr_first [] ltr = cc
  ltr_first (c ∷ label) ltr = (omega arith, λ nsm. cc)

  ends_of : (is_end : BidiClass → Bool) (label : List ℕ) → BeginsWithBase label → misplaced_end properties is_end label ≡ None → EndsIn is_end (map (bidi_class properties) label)
  ends_of is_end label first none =
      elim (some_or_none (last_base properties label (length label))) [
        | inl marks ↦ absurd (first.1 (last_base-none label (length label) marks 0 first.0))
        | inr found ↦
            let base = last_base-is label found.0 found.1 in
            record {
              place = found.0;
              class = class_at properties label found.0;
              stands = stands label found.0 base.within;
              ends = end_untold is_end label (last_base properties label (length label)) found.0 none found.1;
              rest = λ k low high.
                  let within = within_label label k high in stands label k within ∙ ap Some (base.marks k low within);
            }
      ]

  find_class : (label : List ℕ) (class : BidiClass) → Contains (map (bidi_class properties) label) class → (k : ℕ) × (k < length label) × (class_at properties label k ≡ class)
  find_class label class found =
      let within = within_label label found.0 found.1 in (found.0, within, sym (class_read label found.0 class within) ∙ found.2)

  -- both kinds of numbers break condition 4 at the last place, if not before
  numbers_of : (label : List ℕ) → 0 < length label → failing_in label (numbers_agree_to properties label) ≡ None → (list_any is_en (map (bidi_class properties) label) && list_any is_an (map (bidi_class properties) label)) ≡ false
  numbers_of label some none =
      let classes = map (bidi_class properties) label in
      let never = no_first_place label (numbers_agree_to properties label) (λ k. ¬ (StandsUpTo properties label EN k × StandsUpTo properties label AN k)) (λ k low. numbers_agree_to-is label k) none in
      let last = length label - 1 in
      false_from_ne_true (list_any is_en classes && list_any is_an classes)
      (λ both.
      let parts = and_parts (list_any is_en classes) (list_any is_an classes) both in
      let en = find_class label EN (Contains_EN-from_list_any classes parts.0) in
      let an = find_class label AN (Contains_AN-from_list_any classes parts.1) in
      let en_low : en.0 < length label = en.1 in
      let an_low : an.0 < length label = an.1 in
      never last (omega arith) ((en.0, omega arith, en.2), (an.0, omega arith, an.2)))

  rtl_none : (x y z : Option ℕ) → broken_or (broken_at RtlHolds x) (broken_or (broken_at RtlEnds y) (broken_at RtlNumbers z)) ≡ None → (x ≡ None) × (y ≡ None) × (z ≡ None)
  rtl_none None None None h = (refl, refl, refl)
  rtl_none None None (Some p) h = cc
  rtl_none None (Some p) z h = cc
  rtl_none (Some p) y z h = cc

  ltr_none : (x y : Option ℕ) → broken_or (broken_at LtrHolds x) (broken_at LtrEnds y) ≡ None → (x ≡ None) × (y ≡ None)
  ltr_none None None h = (refl, refl)
  ltr_none None (Some p) h = cc
  ltr_none (Some p) y h = cc

  rtl_untold : (label : List ℕ) → IsRtl (map (bidi_class properties) label) → broken_in_rtl properties label ≡ None → MeetsSixConditions (map (bidi_class properties) label)
  unfolding broken_in_rtl
  rtl_untold label rtl none =
      let parts = rtl_none (failing_in label (λ k. is_allowed_in_rtl (class_at properties label k))) (misplaced_end properties is_end_of_rtl label) (failing_in label (numbers_agree_to properties label)) none in
      let holds = no_first_place label (λ k. is_allowed_in_rtl (class_at properties label k)) (λ k. IsTrue (is_allowed_in_rtl (class_at properties label k))) (λ k low. same_truth (is_allowed_in_rtl (class_at properties label k) ≡ true)) parts.0 in
      SixConditions_from (map (bidi_class properties) label) rtl (each_class label is_allowed_in_rtl holds) (ends_of is_end_of_rtl label (rtl_first label rtl) parts.1) (numbers_of label (rtl_first label rtl).0 parts.2)

  ltr_untold : (label : List ℕ) → IsLtr (map (bidi_class properties) label) → broken_in_ltr properties label ≡ None → MeetsSixConditions (map (bidi_class properties) label)
  unfolding broken_in_ltr
  ltr_untold label ltr none =
      let classes = map (bidi_class properties) label in
      let parts = ltr_none (failing_in label (λ k. is_allowed_in_ltr (class_at properties label k))) (misplaced_end properties is_end_of_ltr label) none in
      let holds = no_first_place label (λ k. is_allowed_in_ltr (class_at properties label k)) (λ k. IsTrue (is_allowed_in_ltr (class_at properties label k))) (λ k low. same_truth (is_allowed_in_ltr (class_at properties label k) ≡ true)) parts.0 in
      record {
        first = inl ltr;
        rtl_holds = λ rtl. absurd (not_both classes ltr rtl);
        rtl_ends = λ rtl. absurd (not_both classes ltr rtl);
        rtl_numbers = λ rtl. absurd (not_both classes ltr rtl);
        ltr_holds = λ own. AllPass-from_list_all is_allowed_in_ltr classes (each_class label is_allowed_in_ltr holds);
        ltr_ends = λ own. ends_of is_end_of_ltr label (ltr_first label ltr) parts.1;
      }

  untold_by : (label : List ℕ) (rtl ltr : Bool) → is_rtl (map (bidi_class properties) label) ≡ rtl → is_ltr (map (bidi_class properties) label) ≡ ltr → cond rtl (broken_in_rtl properties label) (cond ltr (broken_in_ltr properties label) (broken_at First (Some 0))) ≡ None → MeetsSixConditions (map (bidi_class properties) label)
  untold_by label true ltr r l none = rtl_untold label (is_rtl-gives (map (bidi_class properties) label) r) none
  untold_by label false true r l none = ltr_untold label (is_ltr-gives (map (bidi_class properties) label) l) none
  untold_by label false false r l none = cc

  in_name-untold : (label : List ℕ) → broken_in_name properties label ≡ None → label ≢ [] → MeetsSixConditions (map (bidi_class properties) label)
  unfolding broken_in_name
  in_name-untold [] none some = absurd (some refl)
  in_name-untold (c ∷ label) none some =
      let classes = map (bidi_class properties) (c ∷ label) in untold_by (c ∷ label) (is_rtl classes) (is_ltr classes) refl refl none

  not_empty : (label : List ℕ) → Any (λ class. IsTrue (is_rtl_class class)) (map (bidi_class properties) label) → label ≢ []
  not_empty label applies empty =
      let some = ap (λ l. list_any is_rtl_class (map (bidi_class properties) l)) (sym empty) ∙ list_any-from_Any is_rtl_class (map (bidi_class properties) label) applies in
      let clash : false ≡ true = some in cc

  pub untold-passes : (label : List ℕ) → broken_condition properties label ≡ None → PassesBidiRule properties label
  unfolding broken_condition
  untold-passes label none applies =
      let some = list_any-from_Any is_rtl_class (map (bidi_class properties) label) applies in
      in_name-untold label (sym (cond-true _ _ _ some) ∙ none) (not_empty label applies)

  -- ---- a condition is told: it is the first that is broken

  told_parts : (x y : Broken) → Some x ≡ Some y → (y.condition ≡ x.condition) × (Some x.place ≡ Some y.place)
  told_parts x y h = let same : x ≡ y = cc in (sym (ap (λ v. v.condition) same), ap (λ v. Some v.place) same)

  rtl_cases : (x y z : Option ℕ) (condition : BidiCondition) (place : ℕ) → broken_or (broken_at RtlHolds x) (broken_or (broken_at RtlEnds y) (broken_at RtlNumbers z)) ≡ Some (record { condition = condition; place = place }) → ((condition ≡ RtlHolds) × (x ≡ Some place)) ⊎ (((condition ≡ RtlEnds) × (x ≡ None) × (y ≡ Some place)) ⊎ ((condition ≡ RtlNumbers) × (x ≡ None) × (y ≡ None) × (z ≡ Some place)))
  rtl_cases None None None condition place h = cc
  rtl_cases None None (Some p) condition place h = let parts = told_parts (record { condition = RtlNumbers; place = p }) (record { condition = condition; place = place }) h in inr (inr (parts.0, refl, refl, parts.1))
  rtl_cases None (Some p) z condition place h = let parts = told_parts (record { condition = RtlEnds; place = p }) (record { condition = condition; place = place }) h in inr (inl (parts.0, refl, parts.1))
  rtl_cases (Some p) y z condition place h = let parts = told_parts (record { condition = RtlHolds; place = p }) (record { condition = condition; place = place }) h in inl (parts.0, parts.1)

  no_end : (is_end : BidiClass → Bool) (label : List ℕ) → misplaced_end properties is_end label ≡ None → (k : ℕ) → IsLastBase properties label k → (IsTrue (is_end (class_at properties label k)) → ⊥) → ⊥
  no_end is_end label none k base fails =
      elim (some_or_none (last_base properties label (length label))) [
        | inl marks ↦ base.base (last_base-none label (length label) marks k base.within)
        | inr found ↦
            let other = last_base-is label found.0 found.1 in
            let same : found.0 ≡ k = last_base-unique label found.0 k other base in
            fails (sym (ap (λ p. is_end (class_at properties label p)) same) ∙ end_untold is_end label (last_base properties label (length label)) found.0 none found.1)
      ]

  no_failing : (label : List ℕ) (passes : ℕ → Bool) (k : ℕ) (Passes : ℕ → Type 0) → ((j : ℕ) → j < length label → (passes j ≡ true) ↔ Passes j) → failing_in label passes ≡ None → IsFirstFailing label Passes k → ⊥
  no_failing label passes k Passes agree none first = first.fails (no_first_place label passes Passes agree none k first.within)

  earlier_rtl : (label : List ℕ) → IsRtl (map (bidi_class properties) label) → (condition other : BidiCondition) (k : ℕ) → condition_number other < condition_number condition → (2 < condition_number condition → failing_in label (λ j. is_allowed_in_rtl (class_at properties label j)) ≡ None) → (3 < condition_number condition → misplaced_end properties is_end_of_rtl label ≡ None) → condition_number condition < 5 → Breaks properties label other k → ⊥
  earlier_rtl label rtl condition First k low holds ends upto breaks = breaks.1 (inr rtl)
  earlier_rtl label rtl condition RtlHolds k low holds ends upto breaks =
      no_failing label (λ j. is_allowed_in_rtl (class_at properties label j)) k (λ j. IsTrue (is_allowed_in_rtl (class_at properties label j))) (λ j within. same_truth (is_allowed_in_rtl (class_at properties label j) ≡ true)) (holds (omega arith)) breaks.1
  earlier_rtl label rtl condition RtlEnds k low holds ends upto breaks = no_end is_end_of_rtl label (ends (omega arith)) k breaks.1 breaks.2
  earlier_rtl label rtl condition RtlNumbers k low holds ends upto breaks = absurd (omega arith)
  earlier_rtl label rtl condition LtrHolds k low holds ends upto breaks = absurd (omega arith)
  earlier_rtl label rtl condition LtrEnds k low holds ends upto breaks = absurd (omega arith)

  told_in_rtl : (label : List ℕ) → IsRtl (map (bidi_class properties) label) → (condition : BidiCondition) (place : ℕ) → broken_in_rtl properties label ≡ Some (record { condition = condition; place = place }) → IsFirstBrokenInName properties label condition place
  unfolding broken_in_rtl
  told_in_rtl label rtl condition place told =
      elim (rtl_cases (failing_in label (λ k. is_allowed_in_rtl (class_at properties label k))) (misplaced_end properties is_end_of_rtl label) (failing_in label (numbers_agree_to properties label)) condition place told) [
        | inl two ↦
            let number : condition_number condition ≡ 2 = ap condition_number two.0 in
            record {
              within = ((rtl_holds-is label place).0 two.1).within;
              breaks = subst (λ c. Breaks properties label c place) (sym two.0) (rtl, (rtl_holds-is label place).0 two.1);
              earlier = λ other k low breaks. earlier_rtl label rtl condition other k low (λ h. absurd (omega arith)) (λ h. absurd (omega arith)) (omega arith) breaks;
            }
        | inr later ↦
            elim later [
              | inl three ↦
                  let number : condition_number condition ≡ 3 = ap condition_number three.0 in
                  let end = told_end is_end_of_rtl label place three.2 in
                  record {
                    within = end.0.within;
                    breaks = subst (λ c. Breaks properties label c place) (sym three.0) (rtl, end.0, end.1);
                    earlier = λ other k low breaks. earlier_rtl label rtl condition other k low (λ h. three.1) (λ h. absurd (omega arith)) (omega arith) breaks;
                  }
              | inr four ↦
                  let number : condition_number condition ≡ 4 = ap condition_number four.0 in
                  record {
                    within = ((numbers-is label place).0 four.3).within;
                    breaks = subst (λ c. Breaks properties label c place) (sym four.0) (rtl, (numbers-is label place).0 four.3);
                    earlier = λ other k low breaks. earlier_rtl label rtl condition other k low (λ h. four.1) (λ h. four.2) (omega arith) breaks;
                  }
            ]
      ]

  told_at : (condition other : BidiCondition) (x : Option ℕ) (place : ℕ) → broken_at condition x ≡ Some (record { condition = other; place = place }) → (other ≡ condition) × (x ≡ Some place)
  told_at condition other None place h = cc
  told_at condition other (Some p) place h = told_parts (record { condition = condition; place = p }) (record { condition = other; place = place }) h

  ltr_cases : (x y : Option ℕ) (condition : BidiCondition) (place : ℕ) → broken_or (broken_at LtrHolds x) (broken_at LtrEnds y) ≡ Some (record { condition = condition; place = place }) → ((condition ≡ LtrHolds) × (x ≡ Some place)) ⊎ ((condition ≡ LtrEnds) × (x ≡ None) × (y ≡ Some place))
  ltr_cases None y condition place h = let parts = told_at LtrEnds condition y place h in inr (parts.0, refl, parts.1)
  ltr_cases (Some p) y condition place h = inl (told_at LtrHolds condition (Some p) place h)

  earlier_ltr : (label : List ℕ) → IsLtr (map (bidi_class properties) label) → (condition other : BidiCondition) (k : ℕ) → condition_number other < condition_number condition → (5 < condition_number condition → failing_in label (λ j. is_allowed_in_ltr (class_at properties label j)) ≡ None) → condition_number condition ≤ 6 → Breaks properties label other k → ⊥
  earlier_ltr label ltr condition First k low holds upto breaks = breaks.1 (inl ltr)
  earlier_ltr label ltr condition RtlHolds k low holds upto breaks = not_both (map (bidi_class properties) label) ltr breaks.0
  earlier_ltr label ltr condition RtlEnds k low holds upto breaks = not_both (map (bidi_class properties) label) ltr breaks.0
  earlier_ltr label ltr condition RtlNumbers k low holds upto breaks = not_both (map (bidi_class properties) label) ltr breaks.0
  earlier_ltr label ltr condition LtrHolds k low holds upto breaks =
      no_failing label (λ j. is_allowed_in_ltr (class_at properties label j)) k (λ j. IsTrue (is_allowed_in_ltr (class_at properties label j))) (λ j within. same_truth (is_allowed_in_ltr (class_at properties label j) ≡ true)) (holds (omega arith)) breaks.1
  earlier_ltr label ltr condition LtrEnds k low holds upto breaks = absurd (omega arith)

  told_in_ltr : (label : List ℕ) → IsLtr (map (bidi_class properties) label) → (condition : BidiCondition) (place : ℕ) → broken_in_ltr properties label ≡ Some (record { condition = condition; place = place }) → IsFirstBrokenInName properties label condition place
  unfolding broken_in_ltr
  told_in_ltr label ltr condition place told =
      elim (ltr_cases (failing_in label (λ k. is_allowed_in_ltr (class_at properties label k))) (misplaced_end properties is_end_of_ltr label) condition place told) [
        | inl five ↦
            let number : condition_number condition ≡ 5 = ap condition_number five.0 in
            let first = (ltr_holds-is label place).0 five.1 in
            record {
              within = first.within;
              breaks = subst (λ c. Breaks properties label c place) (sym five.0) (ltr, first);
              earlier = λ other k low breaks. earlier_ltr label ltr condition other k low (λ h. absurd (omega arith)) (omega arith) breaks;
            }
        | inr six ↦
            let number : condition_number condition ≡ 6 = ap condition_number six.0 in
            let end = told_end is_end_of_ltr label place six.2 in
            record {
              within = end.0.within;
              breaks = subst (λ c. Breaks properties label c place) (sym six.0) (ltr, end.0, end.1);
              earlier = λ other k low breaks. earlier_ltr label ltr condition other k low (λ h. six.1) (omega arith) breaks;
            }
      ]

  first_least : (other : BidiCondition) → condition_number other < 1 → ⊥
  first_least First low = omega arith
  first_least _ low = omega arith

  told_first : (label : List ℕ) → 0 < length label → (IsLtr (map (bidi_class properties) label) ⊎ IsRtl (map (bidi_class properties) label) → ⊥) → (condition : BidiCondition) (place : ℕ) → broken_at First (Some 0) ≡ Some (record { condition = condition; place = place }) → IsFirstBrokenInName properties label condition place
  told_first label some neither condition place told =
      let parts = told_at First condition (Some 0) place told in
      let number : condition_number condition ≡ 1 = ap condition_number parts.0 in
      let at : Some 0 ≡ Some place = parts.1 in
      let zero_at : 0 ≡ place = cc in
      record {
        within = omega arith;
        breaks = subst (λ c. Breaks properties label c place) (sym parts.0) (sym zero_at, neither);
        earlier = λ other k low breaks. first_least other (omega arith);
      }

  told_by : (label : List ℕ) (condition : BidiCondition) (place : ℕ) (rtl ltr : Bool) → 0 < length label → is_rtl (map (bidi_class properties) label) ≡ rtl → is_ltr (map (bidi_class properties) label) ≡ ltr → cond rtl (broken_in_rtl properties label) (cond ltr (broken_in_ltr properties label) (broken_at First (Some 0))) ≡ Some (record { condition = condition; place = place }) → IsFirstBrokenInName properties label condition place
  told_by label condition place true ltr some r l told = told_in_rtl label (is_rtl-gives (map (bidi_class properties) label) r) condition place told
  told_by label condition place false true some r l told = told_in_ltr label (is_ltr-gives (map (bidi_class properties) label) l) condition place told
  told_by label condition place false false some r l told =
      told_first label some
      (λ first.
      elim first [
        | inl ltr ↦ let clash : true ≡ false = sym (is_ltr-from (map (bidi_class properties) label) ltr) ∙ l in cc
        | inr rtl ↦ let clash : true ≡ false = sym (is_rtl-from (map (bidi_class properties) label) rtl) ∙ r in cc
      ])
      condition place told

  in_name-told : (label : List ℕ) (condition : BidiCondition) (place : ℕ) → broken_in_name properties label ≡ Some (record { condition = condition; place = place }) → IsFirstBrokenInName properties label condition place
  unfolding broken_in_name
  in_name-told [] condition place told = cc
  in_name-told (c ∷ label) condition place told =
      let classes = map (bidi_class properties) (c ∷ label) in told_by (c ∷ label) condition place (is_rtl classes) (is_ltr classes) (omega arith) refl refl told

  asked : (some : Bool) (told : Option Broken) (broken : Broken) → cond some told None ≡ Some broken → (some ≡ true) × (told ≡ Some broken)
  asked true told broken h = (refl, h)
  asked false told broken h = cc

  pub told-first_broken : (label : List ℕ) (condition : BidiCondition) (place : ℕ) → broken_condition properties label ≡ Some (record { condition = condition; place = place }) → IsFirstBroken properties label condition place
  unfolding broken_condition
  told-first_broken label condition place told =
      let parts = asked (list_any is_rtl_class (map (bidi_class properties) label)) (broken_in_name properties label) (record { condition = condition; place = place }) told in
      let first = in_name-told label condition place parts.1 in
      record { applies = Any-from_list_any is_rtl_class (map (bidi_class properties) label) parts.0; breaks = first.breaks; earlier = first.earlier }

  -- ---- a broken condition is one that the rule asks for

  breaks_rule : (label : List ℕ) (condition : BidiCondition) (place : ℕ) → Breaks properties label condition place → MeetsSixConditions (map (bidi_class properties) label) → ⊥
  breaks_rule label First place breaks six = breaks.1 six.first
  breaks_rule label RtlHolds place breaks six =
      breaks.1.fails (ap is_allowed_in_rtl (sym (class_read label place L breaks.1.within)) ∙ six.rtl_holds breaks.0 place L (within_classes label place breaks.1.within))
  breaks_rule label RtlEnds place breaks six =
      breaks.2
      (ends_here is_end_of_rtl (map (bidi_class properties) label) place (class_at properties label place) refl (within_classes label place breaks.1.within) (stands label place breaks.1.within) breaks.1.base
      (λ k low high. let within = within_label label k high in stands label k within ∙ ap Some (breaks.1.marks k low within))
      (six.rtl_ends breaks.0))
  breaks_rule label RtlNumbers place breaks six =
      breaks.1.fails
      (λ both.
      let inside : place < length label = breaks.1.within in
      let en_low : both.0.0 ≤ place = both.0.1 in
      let an_low : both.1.0 ≤ place = both.1.1 in
      six.rtl_numbers breaks.0 (contains_at label EN both.0.0 (omega arith) both.0.2, contains_at label AN both.1.0 (omega arith) both.1.2))
  breaks_rule label LtrHolds place breaks six =
      breaks.1.fails (ap is_allowed_in_ltr (sym (class_read label place L breaks.1.within)) ∙ six.ltr_holds breaks.0 place L (within_classes label place breaks.1.within))
  breaks_rule label LtrEnds place breaks six =
      breaks.2
      (ends_here is_end_of_ltr (map (bidi_class properties) label) place (class_at properties label place) refl (within_classes label place breaks.1.within) (stands label place breaks.1.within) breaks.1.base
      (λ k low high. let within = within_label label k high in stands label k within ∙ ap Some (breaks.1.marks k low within))
      (six.ltr_ends breaks.0))

  pub first_broken-fails : (label : List ℕ) (condition : BidiCondition) (place : ℕ) → IsFirstBroken properties label condition place → PassesBidiRule properties label → ⊥
  first_broken-fails label condition place broken passes = breaks_rule label condition place broken.breaks (passes broken.applies)

  -- ---- no other condition and no other place is the first

  same_condition : (a b : BidiCondition) → condition_number a ≡ condition_number b → a ≡ b
  same_condition First First h = refl
  same_condition RtlHolds RtlHolds h = refl
  same_condition RtlEnds RtlEnds h = refl
  same_condition RtlNumbers RtlNumbers h = refl
  same_condition LtrHolds LtrHolds h = refl
  same_condition LtrEnds LtrEnds h = refl
  same_condition a b h = absurd (omega arith)

  same_place : (label : List ℕ) (condition : BidiCondition) (p q : ℕ) → Breaks properties label condition p → Breaks properties label condition q → p ≡ q
  same_place label First p q first second = first.0 ∙ sym second.0
  same_place label RtlHolds p q first second = first_place-unique label (λ k. IsTrue (is_allowed_in_rtl (class_at properties label k))) p q first.1 second.1
  same_place label RtlEnds p q first second = last_base-unique label p q first.1 second.1
  same_place label RtlNumbers p q first second = first_place-unique label (λ k. ¬ (StandsUpTo properties label EN k × StandsUpTo properties label AN k)) p q first.1 second.1
  same_place label LtrHolds p q first second = first_place-unique label (λ k. IsTrue (is_allowed_in_ltr (class_at properties label k))) p q first.1 second.1
  same_place label LtrEnds p q first second = last_base-unique label p q first.1 second.1

  -- no condition before this one is broken
  abbrev IsEarliest : List ℕ → BidiCondition → Type 0
  IsEarliest label condition = (other : BidiCondition) (k : ℕ) → condition_number other < condition_number condition → ¬ Breaks properties label other k

  pub first_broken-unique : (label : List ℕ) (a b : BidiCondition) (p q : ℕ) → Breaks properties label a p → IsEarliest label a → Breaks properties label b q → IsEarliest label b → (a ≡ b) × (p ≡ q)
  first_broken-unique label a b p q first before_first second before_second =
      elim (cases_lt (condition_number a) (condition_number b)) [
        | inl lt ↦ absurd (before_second a p lt first)
        | inr from ↦
            elim (cases_lt (condition_number b) (condition_number a)) [
              | inl lt ↦ absurd (before_first b q lt second)
              | inr upto ↦
                  let same = same_condition a b (omega arith) in
                  (same, same_place label b p q (subst (λ c. Breaks properties label c p) same first) second)
            ]
      ]

  -- ---- what is told is exactly that

  broken_or_none : (o : Option Broken) → (o ≡ None) ⊎ ((c : BidiCondition) × (p : ℕ) × (o ≡ Some (record { condition = c; place = p })))
  broken_or_none None = inl refl
  broken_or_none (Some b) = inr (b.condition, b.place, refl)

  pub broken_condition-is : (label : List ℕ) (condition : BidiCondition) (place : ℕ) → (broken_condition properties label ≡ Some (record { condition = condition; place = place })) ↔ IsFirstBroken properties label condition place
  broken_condition-is label condition place = (
    told-first_broken label condition place,
    λ broken.
        elim (broken_or_none (broken_condition properties label)) [
          | inl none ↦ absurd (first_broken-fails label condition place broken (untold-passes label none))
          | inr told ↦
              let found = told-first_broken label told.0 told.1 told.2 in
              let same = first_broken-unique label told.0 condition told.1 place found.breaks found.earlier broken.breaks broken.earlier in
              told.2 ∙ ap (λ c. Some (record { condition = c; place = told.1 })) same.0 ∙ ap (λ p. Some (record { condition = condition; place = p })) same.1
        ],
  )

  pub broken_condition-none : (label : List ℕ) → (broken_condition properties label ≡ None) ↔ PassesBidiRule properties label
  broken_condition-none label = (
    untold-passes label,
    λ passes.
        elim (broken_or_none (broken_condition properties label)) [
          | inl none ↦ none
          | inr told ↦ absurd (first_broken-fails label told.0 told.1 (told-first_broken label told.0 told.1 told.2) passes)
        ],
  )

  -- ---- the same of a label of a name

  pub in_name-is : (label : List ℕ) (condition : BidiCondition) (place : ℕ) → (broken_in_name properties label ≡ Some (record { condition = condition; place = place })) ↔ IsFirstBrokenInName properties label condition place
  in_name-is label condition place = (
    in_name-told label condition place,
    λ broken.
        elim (broken_or_none (broken_in_name properties label)) [
          | inl none ↦
              let some : label ≢ [] = λ empty. let low : place < length label = broken.within in omega (arith, ap length empty) in
              absurd (breaks_rule label condition place broken.breaks (in_name-untold label none some))
          | inr told ↦
              let found = in_name-told label told.0 told.1 told.2 in
              let same = first_broken-unique label told.0 condition told.1 place found.breaks found.earlier broken.breaks broken.earlier in
              told.2 ∙ ap (λ c. Some (record { condition = c; place = told.1 })) same.0 ∙ ap (λ p. Some (record { condition = condition; place = p })) same.1
        ],
  )

  pub in_name-none : (label : List ℕ) → (broken_in_name properties label ≡ None) ↔ (label ≢ [] → MeetsSixConditions (map (bidi_class properties) label))
  in_name-none label = (
    in_name-untold label,
    λ passes.
        elim (broken_or_none (broken_in_name properties label)) [
          | inl none ↦ none
          | inr told ↦
              let found = in_name-told label told.0 told.1 told.2 in
              let some : label ≢ [] = λ empty. let low : told.1 < length label = found.within in omega (arith, ap length empty) in
              absurd (breaks_rule label told.0 told.1 found.breaks (passes some))
        ],
  )
