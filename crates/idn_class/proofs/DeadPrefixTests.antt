-- The test of dead prefixes says what it is to be dead; a dead prefix stays so, and fails some test of a label.
use Rattle.std.proofs.Common.{◌≡◌, ℕ, zero, suc, Bool, true, false, ◌&&◌, ◌||◌, ◌==◌, List, [], ◌∷◌, ◌++◌, map, Some, slice_get, slice_index, refl, sym, ap, ◌∙◌, inl, inr}
use Rattle.std.specs.List.{list_any, list_all}
use Rattle.std.proofs.lemmas.Bool.{and_parts, and_from, eqb-true, or_cases, or_left, or_right}
use Rattle.std.proofs.lemmas.List.Folds.{Any-from_list_any, list_any-from_Any}
use Rattle.idn_class.specs.declared.bidi_class.BidiClass.{BidiClass}
use Rattle.idn_class.specs.declared.bidi_class.BidiClass.TheVariants.{L, R, AL, Other}
use Rattle.idn_class.specs.BidiClass.{bidi_class}
use Rattle.idn_class.specs.BidiRule.{IsRtl, is_rtl_class, is_allowed_in_rtl, PassesBidiRule}
use Rattle.idn_class.specs.ContextO.{is_arabic_digit, is_extended_arabic_digit}
use Rattle.idn_class.specs.LeadingMark.{BeginsWithMark}
use Rattle.idn_class.specs.Tests.{leading_mark, is_en, is_an, is_rtl}
use Rattle.idn_class.specs.DeadPrefixes.{IsDeadPrefix, Hyphen_first, Hyphens_third_and_fourth, Mark_first, Rtl_in_ltr, Ltr_in_rtl, Both_numbers_in_rtl, Both_kinds_of_digits, is_barred_in_rtl, begins_with_hyphen, has_hyphens_third_and_fourth, breaks_bidi, hopeless}
use Rattle.idn_class.specs.Directions.{breaks_at_first}
use Rattle.idn_class.proofs.BidiLemmas.{RtlParts_from, list_any-from_Contains_EN, list_any-from_Contains_AN, Contains_EN-from_list_any, Contains_AN-from_list_any}
use Rattle.idn_class.proofs.BidiTests.{is_rtl-gives, is_rtl-from}
use Rattle.idn_class.proofs.DeadPrefixSteps.{hopeless-more}
use Rattle.idn_class.proofs.DigitClasses.{class_of_arabic_digit, class_of_extended_digit}
use Rattle.idn_class.specs.declared.properties.Properties.{Properties}

module _ (properties : Properties) where
  -- ---- from the test

  by_bidi : (w : List ℕ) (b : Bool) → is_rtl (map (bidi_class properties) w) ≡ b → breaks_bidi b (map (bidi_class properties) w) ≡ true → IsDeadPrefix properties w
  by_bidi w true rtl h =
      let ks = map (bidi_class properties) w in
      let first = is_rtl-gives ks rtl in
      elim (or_cases (list_any is_barred_in_rtl ks) (list_any is_en ks && list_any is_an ks) h) [
        | inl left ↦ Ltr_in_rtl first (Any-from_list_any is_barred_in_rtl ks left)
        | inr numbers ↦
            let both = and_parts (list_any is_en ks) (list_any is_an ks) numbers in
            Both_numbers_in_rtl first (Contains_EN-from_list_any ks both.0) (Contains_AN-from_list_any ks both.1)
      ]
  by_bidi w false ltr h =
      let ks = map (bidi_class properties) w in
      Rtl_in_ltr (Any-from_list_any is_rtl_class ks h) (λ rtl. let clash : true ≡ false = sym (is_rtl-from ks rtl) ∙ ltr in cc)

  by_mark : (w : List ℕ) → leading_mark w ≡ true → BeginsWithMark w
  by_mark [] h = let clash : false ≡ true = h in cc
  by_mark (c ∷ w) h = h

  by_hyphen : (w : List ℕ) → begins_with_hyphen w ≡ true → slice_get w 0 ≡ Some 0x2D
  by_hyphen [] h = let clash : false ≡ true = h in cc
  by_hyphen (c ∷ w) h = ap Some (eqb-true c 0x2D h)

  -- a number that is no 0 stands in the list where it is read
  read_at : (w : List ℕ) (i : ℕ) → (slice_index w i == 0x2D) ≡ true → slice_get w i ≡ Some 0x2D
  read_at [] i h = let clash : false ≡ true = h in cc
  read_at (c ∷ w) zero h = ap Some (eqb-true c 0x2D h)
  read_at (c ∷ w) (suc i) h = read_at w i h

  pub hopeless-gives : (w : List ℕ) → hopeless properties w ≡ true → IsDeadPrefix properties w
  unfolding hopeless
  hopeless-gives w h =
      elim (or_cases (breaks_at_first properties w) (has_hyphens_third_and_fourth w) h) [
        | inl breaks ↦ elim (or_cases (begins_with_hyphen w || leading_mark w) (breaks_bidi (is_rtl (map (bidi_class properties) w)) (map (bidi_class properties) w)) breaks) [
          | inl first ↦ elim (or_cases (begins_with_hyphen w) (leading_mark w) first) [ inl hyphen ↦ Hyphen_first (by_hyphen w hyphen) | inr mark ↦ Mark_first (by_mark w mark) ]
          | inr bidi ↦ by_bidi w (is_rtl (map (bidi_class properties) w)) refl bidi
        ]
        | inr hyphens ↦
            let both = and_parts (slice_index w 2 == 0x2D) (slice_index w 3 == 0x2D) hyphens in
            Hyphens_third_and_fourth (read_at w 2 both.0) (read_at w 3 both.1)
      ]

  -- ---- to the test

  stands_at : (w : List ℕ) (i : ℕ) → slice_get w i ≡ Some 0x2D → (slice_index w i == 0x2D) ≡ true
  stands_at [] i h = cc
  stands_at (c ∷ w) zero h = let same : c ≡ 0x2D = cc in ap (λ x. x == 0x2D) same
  stands_at (c ∷ w) (suc i) h = stands_at w i h

  with_mark : (w : List ℕ) → BeginsWithMark w → leading_mark w ≡ true
  with_mark [] h = absurd h
  with_mark (c ∷ w) h = h

  -- what the Bidi rule refuses for good
  with_bidi : (w : List ℕ) → ((b : Bool) → is_rtl (map (bidi_class properties) w) ≡ b → breaks_bidi b (map (bidi_class properties) w) ≡ true) → hopeless properties w ≡ true
  unfolding hopeless
  with_bidi w breaks = or_left _ (has_hyphens_third_and_fourth w) (or_right (begins_with_hyphen w || leading_mark w) _ (breaks (is_rtl (map (bidi_class properties) w)) refl))

  rtl_breaks : (w : List ℕ) → IsRtl (map (bidi_class properties) w) → breaks_bidi true (map (bidi_class properties) w) ≡ true → (b : Bool) → is_rtl (map (bidi_class properties) w) ≡ b → breaks_bidi b (map (bidi_class properties) w) ≡ true
  rtl_breaks w rtl h true is = h
  rtl_breaks w rtl h false is = let clash : true ≡ false = sym (is_rtl-from (map (bidi_class properties) w) rtl) ∙ is in cc

  ltr_breaks : (w : List ℕ) → ¬ IsRtl (map (bidi_class properties) w) → list_any is_rtl_class (map (bidi_class properties) w) ≡ true → (b : Bool) → is_rtl (map (bidi_class properties) w) ≡ b → breaks_bidi b (map (bidi_class properties) w) ≡ true
  ltr_breaks w ltr h true is = absurd (ltr (is_rtl-gives (map (bidi_class properties) w) is))
  ltr_breaks w ltr h false is = h

  any_class : (digit : ℕ → Bool) (test : BidiClass → Bool) → ((c : ℕ) → digit c ≡ true → test (bidi_class properties c) ≡ true) → (w : List ℕ) → list_any digit w ≡ true → list_any test (map (bidi_class properties) w) ≡ true
  any_class digit test each [] h = h
  any_class digit test each (c ∷ w) h =
      elim (or_cases (digit c) (list_any digit w) h) [
        | inl here ↦ or_left _ _ (each c here)
        | inr later ↦ or_right (test (bidi_class properties c)) _ (any_class digit test each w later)
      ]

  digits_break : (w : List ℕ) → list_any is_en (map (bidi_class properties) w) ≡ true → list_any is_an (map (bidi_class properties) w) ≡ true → list_any is_rtl_class (map (bidi_class properties) w) ≡ true → (b : Bool) → breaks_bidi b (map (bidi_class properties) w) ≡ true
  digits_break w en an rtl true = or_right (list_any is_barred_in_rtl (map (bidi_class properties) w)) _ (and_from _ _ en an)
  digits_break w en an rtl false = rtl

  pub hopeless-from : (w : List ℕ) → IsDeadPrefix properties w → hopeless properties w ≡ true
  unfolding hopeless
  hopeless-from w (Hyphen_first at) = or_left _ _ (or_left _ _ (or_left _ _ (stands_at w 0 at)))
  hopeless-from w (Hyphens_third_and_fourth third fourth) = or_right (breaks_at_first properties w) _ (and_from _ _ (stands_at w 2 third) (stands_at w 3 fourth))
  hopeless-from w (Mark_first mark) = or_left _ _ (or_left _ _ (or_right (begins_with_hyphen w) _ (with_mark w mark)))
  hopeless-from w (Rtl_in_ltr some ltr) = with_bidi w (ltr_breaks w ltr (list_any-from_Any is_rtl_class (map (bidi_class properties) w) some))
  hopeless-from w (Ltr_in_rtl rtl left) =
      with_bidi w (rtl_breaks w rtl (or_left _ _ (list_any-from_Any is_barred_in_rtl (map (bidi_class properties) w) left)))
  hopeless-from w (Both_numbers_in_rtl rtl en an) =
      with_bidi w (rtl_breaks w rtl (or_right (list_any is_barred_in_rtl (map (bidi_class properties) w)) _ (and_from _ _ (list_any-from_Contains_EN _ en) (list_any-from_Contains_AN _ an))))
  hopeless-from w (Both_kinds_of_digits arabic extended) =
      let en = any_class is_extended_arabic_digit is_en (λ c h. ap is_en (class_of_extended_digit properties c h)) w (list_any-from_Any is_extended_arabic_digit w extended) in
      let an = any_class is_arabic_digit is_an (λ c h. ap is_an (class_of_arabic_digit properties c h)) w (list_any-from_Any is_arabic_digit w arabic) in
      let rtl = any_class is_arabic_digit is_rtl_class (λ c h. ap is_rtl_class (class_of_arabic_digit properties c h)) w (list_any-from_Any is_arabic_digit w arabic) in
      with_bidi w (λ b _. digits_break w en an rtl b)

  pub IsDeadPrefix-more : (w z : List ℕ) → IsDeadPrefix properties w → IsDeadPrefix properties (w ++ z)
  IsDeadPrefix-more w z h = hopeless-gives (w ++ z) (hopeless-more properties w z (hopeless-from w h))

  -- ---- no such label passes the tests

  pub breaks-fails : (w : List ℕ) (b : Bool) → is_rtl (map (bidi_class properties) w) ≡ b → breaks_bidi b (map (bidi_class properties) w) ≡ true → ¬ PassesBidiRule properties w
  breaks-fails w true first h passes =
      let ks = map (bidi_class properties) w in
      let parts = RtlParts_from ks (rtl_some ks first) passes in
      elim (or_cases (list_any is_barred_in_rtl ks) (list_any is_en ks && list_any is_an ks) h) [
        | inl left ↦ no_left ks left parts.all
        | inr numbers ↦ let clash : true ≡ false = sym numbers ∙ parts.digits in cc
      ]
    where
      rtl_some : (ks : List BidiClass) → is_rtl ks ≡ true → list_any is_rtl_class ks ≡ true
      rtl_some [] h = h
      rtl_some (R ∷ ks) h = refl
      rtl_some (AL ∷ ks) h = refl
      rtl_some (_ ∷ ks) h = let clash : false ≡ true = h in cc

      no_left : (ks : List BidiClass) → list_any is_barred_in_rtl ks ≡ true → list_all is_allowed_in_rtl ks ≡ true → ⊥
      no_left [] left all = cc
      no_left (L ∷ ks) left all = let clash : false ≡ true = all in cc
      no_left (Other ∷ ks) left all = let clash : false ≡ true = all in cc
      no_left (_ ∷ ks) left all = no_left ks left all
  breaks-fails w false first h passes =
      let ks = map (bidi_class properties) w in
      let parts = RtlParts_from ks h passes in
      let clash : true ≡ false = sym (is_rtl-from ks parts.begins) ∙ first in cc

  -- a dead prefix has a hyphen out of place, a leading mark, or breaks the Bidi rule
  pub hopeless-fails_tests : (w : List ℕ) → hopeless properties w ≡ true → (slice_index w 0 == 0x2D) ≡ false → has_hyphens_third_and_fourth w ≡ false → ¬ BeginsWithMark w → PassesBidiRule properties w → ⊥
  unfolding hopeless
  hopeless-fails_tests w h first third mark passes =
      elim (or_cases (breaks_at_first properties w) (has_hyphens_third_and_fourth w) h) [
        | inl breaks ↦ elim (or_cases (begins_with_hyphen w || leading_mark w) (breaks_bidi (is_rtl (map (bidi_class properties) w)) (map (bidi_class properties) w)) breaks) [
          | inl begins ↦ elim (or_cases (begins_with_hyphen w) (leading_mark w) begins) [ inl hyphen ↦ let clash : true ≡ false = sym hyphen ∙ first in cc | inr marked ↦ mark (by_mark w marked) ]
          | inr bidi ↦ breaks-fails w (is_rtl (map (bidi_class properties) w)) refl bidi passes
        ]
        | inr hyphens ↦ let clash : true ≡ false = sym hyphens ∙ third in cc
      ]
