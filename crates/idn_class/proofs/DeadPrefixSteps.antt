-- The test of dead prefixes, code point by code point: a list that is dead once stays so.
use Rattle.std.proofs.Common.{◌≡◌, ℕ, zero, suc, ◌<◌, ◌≤◌, Bool, true, false, ◌&&◌, ◌||◌, ◌==◌, cond, List, [], ◌∷◌, ◌++◌, length, map, take, Option, Some, None, slice_index, refl, sym, ap, ◌∙◌, inl, inr, append_assoc, append-nil, arith}
use Rattle.std.specs.List.{list_any}
use Rattle.std.proofs.lemmas.Bool.{or_cases, or_left, or_right}
use Rattle.std.proofs.lemmas.List.{take_all}
use Rattle.std.proofs.Math.Bool.{and-true, or-true}
use Rattle.idn_class.specs.declared.bidi_class.BidiClass.{BidiClass}
use Rattle.idn_class.specs.declared.bidi_class.BidiClass.TheVariants.{L, R, AL, AN, EN, ES, CS, ET, ON, BN, NSM, Other}
use Rattle.idn_class.specs.declared.direction.Direction.{Direction}
use Rattle.idn_class.specs.declared.direction.Direction.TheVariants.{Ltr, Rtl, RtlEuropean, RtlArabic}
use Rattle.idn_class.specs.BidiClass.{bidi_class}
use Rattle.idn_class.specs.BidiRule.{is_rtl_class}
use Rattle.idn_class.specs.LeadingMark.{is_mark}
use Rattle.idn_class.specs.Tests.{is_en, is_an, is_rtl}
use Rattle.idn_class.specs.DeadPrefixes.{is_barred_in_rtl, has_hyphens_third_and_fourth, breaks_bidi, hopeless}
use Rattle.idn_class.specs.Directions.{breaks_at_first, breaks_after, begun_by, begun_in, rtl_lengthened, lengthened}
use Rattle.idn_class.specs.declared.properties.Properties.{Properties}

module _ (properties : Properties) where
  -- where there is no direction, everything is broken
  abbrev pub broken_or_breaks_after : Option Direction → List ℕ → Bool
  broken_or_breaks_after None w = true
  broken_or_breaks_after (Some direction) w = breaks_after properties direction w

  begun_step : (k : BidiClass) (w : List ℕ) → breaks_bidi (is_rtl (k ∷ map (bidi_class properties) w)) (k ∷ map (bidi_class properties) w) ≡ broken_or_breaks_after (begun_by k) w
  begun_step R w = refl
  begun_step AL w = refl
  begun_step AN w = refl
  begun_step L w = refl
  begun_step EN w = refl
  begun_step ES w = refl
  begun_step CS w = refl
  begun_step ET w = refl
  begun_step ON w = refl
  begun_step BN w = refl
  begun_step NSM w = refl
  begun_step Other w = refl

  open_step : (hyphen mark : Bool) (k : BidiClass) (w : List ℕ) → (hyphen || mark || breaks_bidi (is_rtl (k ∷ map (bidi_class properties) w)) (k ∷ map (bidi_class properties) w)) ≡ broken_or_breaks_after (cond (hyphen || mark) None (begun_by k)) w
  open_step true mark k w = refl
  open_step false true k w = refl
  open_step false false k w = begun_step k w

  ltr_step : (b : Bool) (w : List ℕ) → (b || list_any is_rtl_class (map (bidi_class properties) w)) ≡ broken_or_breaks_after (cond b None (Some Ltr)) w
  ltr_step true w = refl
  ltr_step false w = refl

  rtl_step : (k : BidiClass) (w : List ℕ) → (list_any is_barred_in_rtl (k ∷ map (bidi_class properties) w) || (list_any is_en (k ∷ map (bidi_class properties) w) && list_any is_an (k ∷ map (bidi_class properties) w))) ≡ broken_or_breaks_after (rtl_lengthened Rtl k) w
  rtl_step L w = refl
  rtl_step EN w = refl
  rtl_step AN w = ap (λ b. list_any is_barred_in_rtl (map (bidi_class properties) w) || b) (and-true (list_any is_en (map (bidi_class properties) w)))
  rtl_step R w = refl
  rtl_step AL w = refl
  rtl_step ES w = refl
  rtl_step CS w = refl
  rtl_step ET w = refl
  rtl_step ON w = refl
  rtl_step BN w = refl
  rtl_step NSM w = refl
  rtl_step Other w = refl

  european_step : (k : BidiClass) (w : List ℕ) → (list_any is_barred_in_rtl (k ∷ map (bidi_class properties) w) || list_any is_an (k ∷ map (bidi_class properties) w)) ≡ broken_or_breaks_after (rtl_lengthened RtlEuropean k) w
  european_step L w = refl
  european_step AN w = or-true (list_any is_barred_in_rtl (map (bidi_class properties) w))
  european_step EN w = refl
  european_step R w = refl
  european_step AL w = refl
  european_step ES w = refl
  european_step CS w = refl
  european_step ET w = refl
  european_step ON w = refl
  european_step BN w = refl
  european_step NSM w = refl
  european_step Other w = refl

  arabic_step : (k : BidiClass) (w : List ℕ) → (list_any is_barred_in_rtl (k ∷ map (bidi_class properties) w) || list_any is_en (k ∷ map (bidi_class properties) w)) ≡ broken_or_breaks_after (rtl_lengthened RtlArabic k) w
  arabic_step L w = refl
  arabic_step EN w = or-true (list_any is_barred_in_rtl (map (bidi_class properties) w))
  arabic_step AN w = refl
  arabic_step R w = refl
  arabic_step AL w = refl
  arabic_step ES w = refl
  arabic_step CS w = refl
  arabic_step ET w = refl
  arabic_step ON w = refl
  arabic_step BN w = refl
  arabic_step NSM w = refl
  arabic_step Other w = refl

  -- the first code point tells the direction after which the others stand, and each one more the direction after it
  pub breaks_at_first-cons : (c : ℕ) (w : List ℕ) → breaks_at_first properties (c ∷ w) ≡ broken_or_breaks_after (begun_in properties c) w
  breaks_at_first-cons c w = open_step (c == 0x2D) (is_mark c) (bidi_class properties c) w

  pub breaks_after-cons : (d : Direction) (c : ℕ) (w : List ℕ) → breaks_after properties d (c ∷ w) ≡ broken_or_breaks_after (lengthened properties d c) w
  breaks_after-cons Ltr c w = ltr_step (is_rtl_class (bidi_class properties c)) w
  breaks_after-cons Rtl c w = rtl_step (bidi_class properties c) w
  breaks_after-cons RtlEuropean c w = european_step (bidi_class properties c) w
  breaks_after-cons RtlArabic c w = arabic_step (bidi_class properties c) w

  pub breaks_after-nil : (d : Direction) → breaks_after properties d [] ≡ false
  breaks_after-nil Ltr = refl
  breaks_after-nil Rtl = refl
  breaks_after-nil RtlEuropean = refl
  breaks_after-nil RtlArabic = refl

  -- after the start and the front, this direction lets follow what may follow
  abbrev pub Tells : Direction → List ℕ → Direction → Type 0
  Tells start front d = (w : List ℕ) → breaks_after properties start (front ++ w) ≡ breaks_after properties d w

  pub breaks_longer : (start : Direction) (front : List ℕ) (d : Direction) (c : ℕ) → Tells start front d → (w : List ℕ) → breaks_after properties start ((front ++ c ∷ []) ++ w) ≡ broken_or_breaks_after (lengthened properties d c) w
  breaks_longer start front d c told w = ap (breaks_after properties start) (append_assoc front (c ∷ []) w) ∙ told (c ∷ w) ∙ breaks_after-cons d c w

  pub Tells-longer : (start : Direction) (front : List ℕ) (d e : Direction) (c : ℕ) → Tells start front d → lengthened properties d c ≡ Some e → Tells start (front ++ c ∷ []) e
  Tells-longer start front d e c told is w = breaks_longer start front d c told w ∙ ap (λ o. broken_or_breaks_after o w) is

  pub Tells-itself : (start : Direction) (front : List ℕ) (d : Direction) → Tells start front d → breaks_after properties start front ≡ false
  Tells-itself start front d told = ap (breaks_after properties start) (sym (append-nil front)) ∙ told [] ∙ breaks_after-nil d

  pub breaks_at-last : (start : Direction) (front : List ℕ) (d : Direction) (c : ℕ) → Tells start front d → lengthened properties d c ≡ None → breaks_after properties start (front ++ c ∷ []) ≡ true
  breaks_at-last start front d c told is =
      ap (breaks_after properties start) (sym (append-nil (front ++ c ∷ []))) ∙ breaks_longer start front d c told [] ∙ ap (λ o. broken_or_breaks_after o []) is

  -- ---- what is broken once is broken for good

  broken_or_breaks_after-more : (o : Option Direction) (w z : List ℕ) → ((d : Direction) → breaks_after properties d w ≡ true → breaks_after properties d (w ++ z) ≡ true) → broken_or_breaks_after o w ≡ true → broken_or_breaks_after o (w ++ z) ≡ true
  broken_or_breaks_after-more None w z more h = refl
  broken_or_breaks_after-more (Some d) w z more h = more d h

  pub breaks_after-more : (d : Direction) (w z : List ℕ) → breaks_after properties d w ≡ true → breaks_after properties d (w ++ z) ≡ true
  breaks_after-more d [] z h = let clash : false ≡ true = sym (breaks_after-nil d) ∙ h in cc
  breaks_after-more d (c ∷ w) z h =
      breaks_after-cons d c (w ++ z) ∙ broken_or_breaks_after-more (lengthened properties d c) w z (λ e. breaks_after-more e w z) (sym (breaks_after-cons d c w) ∙ h)

  breaks_at_first-more : (w z : List ℕ) → breaks_at_first properties w ≡ true → breaks_at_first properties (w ++ z) ≡ true
  breaks_at_first-more [] z h = let clash : false ≡ true = h in cc
  breaks_at_first-more (c ∷ w) z h =
      breaks_at_first-cons c (w ++ z) ∙ broken_or_breaks_after-more (begun_in properties c) w z (λ e. breaks_after-more e w z) (sym (breaks_at_first-cons c w) ∙ h)

  pub hyphens-more : (w z : List ℕ) → has_hyphens_third_and_fourth w ≡ true → has_hyphens_third_and_fourth (w ++ z) ≡ true
  hyphens-more [] z h = let clash : false ≡ true = h in cc
  hyphens-more (a ∷ []) z h = let clash : false ≡ true = h in cc
  hyphens-more (a ∷ b ∷ []) z h = let clash : false ≡ true = h in cc
  hyphens-more (a ∷ b ∷ c ∷ []) z h = let clash : false ≡ true = sym (and_false (c == 0x2D)) ∙ h in cc
    where
      and_false : (b : Bool) → (b && false) ≡ false
      and_false true = refl
      and_false false = refl
  hyphens-more (a ∷ b ∷ c ∷ d ∷ w) z h = h

  pub hopeless-more : (w z : List ℕ) → hopeless properties w ≡ true → hopeless properties (w ++ z) ≡ true
  unfolding hopeless
  hopeless-more w z h =
      elim (or_cases (breaks_at_first properties w) (has_hyphens_third_and_fourth w) h) [
        | inl breaks ↦ or_left _ _ (breaks_at_first-more w z breaks)
        | inr hyphens ↦ or_right (breaks_at_first properties (w ++ z)) _ (hyphens-more w z hyphens)
      ]

  -- ---- the hyphens of beginnings

  hyphens_of_three : (w : List ℕ) → slice_index w 3 ≡ 0 → has_hyphens_third_and_fourth w ≡ false
  hyphens_of_three w none = ap (λ c. (slice_index w 2 == 0x2D) && (c == 0x2D)) none ∙ and_false (slice_index w 2 == 0x2D)
    where
      and_false : (b : Bool) → (b && false) ≡ false
      and_false true = refl
      and_false false = refl

  pub hyphens-few : (w : List ℕ) (k : ℕ) → k < 4 → has_hyphens_third_and_fourth (take k w) ≡ false
  hyphens-few w zero few = refl
  hyphens-few [] (suc k) few = refl
  hyphens-few (a ∷ w) (suc zero) few = refl
  hyphens-few (a ∷ []) (suc (suc k)) few = refl
  hyphens-few (a ∷ b ∷ w) (suc (suc zero)) few = refl
  hyphens-few (a ∷ b ∷ []) (suc (suc (suc k))) few = refl
  hyphens-few (a ∷ b ∷ c ∷ w) (suc (suc (suc zero))) few = hyphens_of_three (a ∷ b ∷ c ∷ []) refl
  hyphens-few (a ∷ b ∷ c ∷ w) (suc (suc (suc (suc k)))) few = absurd (omega arith)

  pub hyphens-many : (w : List ℕ) (k : ℕ) → 4 ≤ k → has_hyphens_third_and_fourth (take k w) ≡ has_hyphens_third_and_fourth w
  hyphens-many [] k many = ap has_hyphens_third_and_fourth (take_nil k)
    where
      take_nil : (k : ℕ) → take {A = ℕ} k [] ≡ []
      take_nil zero = refl
      take_nil (suc k) = refl
  hyphens-many (a ∷ w) zero many = absurd (omega arith)
  hyphens-many (a ∷ w) (suc zero) many = absurd (omega arith)
  hyphens-many (a ∷ w) (suc (suc zero)) many = absurd (omega arith)
  hyphens-many (a ∷ w) (suc (suc (suc zero))) many = absurd (omega arith)
  hyphens-many (a ∷ []) (suc (suc (suc (suc k)))) many = refl
  hyphens-many (a ∷ b ∷ []) (suc (suc (suc (suc k)))) many = refl
  hyphens-many (a ∷ b ∷ c ∷ []) (suc (suc (suc (suc k)))) many = refl
  hyphens-many (a ∷ b ∷ c ∷ d ∷ w) (suc (suc (suc (suc k)))) many = refl

  -- fewer than four code points
  pub hyphens-short : (w : List ℕ) → length w < 4 → has_hyphens_third_and_fourth w ≡ false
  hyphens-short w few = ap has_hyphens_third_and_fourth (sym (take_all (length w) w (omega arith))) ∙ hyphens-few w (length w) few

  -- ---- dead by its two parts

  pub hopeless-none : (w : List ℕ) → breaks_at_first properties w ≡ false → has_hyphens_third_and_fourth w ≡ false → hopeless properties w ≡ false
  unfolding hopeless
  hopeless-none w keeps hyphens = rw (keeps, hyphens) refl

  pub hopeless-breaks : (w : List ℕ) → breaks_at_first properties w ≡ true → hopeless properties w ≡ true
  unfolding hopeless
  hopeless-breaks w breaks = or_left _ _ breaks

  pub hopeless-hyphens : (w : List ℕ) → has_hyphens_third_and_fourth w ≡ true → hopeless properties w ≡ true
  unfolding hopeless
  hopeless-hyphens w hyphens = or_right (breaks_at_first properties w) _ hyphens

  pub hopeless-nil : hopeless properties [] ≡ false
  unfolding hopeless
  hopeless-nil = refl
