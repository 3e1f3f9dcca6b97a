-- The part of the dead prefixes that is the Bidi rule: such classes fail, and fail with R after them; all others pass
-- in one of the two.
use Rattle.std.proofs.Common.{◌≡◌, ℕ, Bool, true, false, not, ◌&&◌, ◌||◌, ◌↔◌, List, [], ◌∷◌, ◌++◌, map, refl, sym, ap, ap₂, inl, inr, ◌∙◌}
use Rattle.std.specs.List.{list_any, list_all}
use Rattle.std.proofs.lemmas.Bool.{false_from_ne_true, both_ways, or_cases}
use Rattle.std.proofs.lemmas.List.{map-append}
use Rattle.idn_class.specs.declared.bidi_class.BidiClass.{BidiClass}
use Rattle.idn_class.specs.declared.bidi_class.BidiClass.TheVariants.{R, AL, AN}
use Rattle.idn_class.specs.declared.properties.Properties.{Properties}
use Rattle.idn_class.specs.declared.properties.Properties.TheVariants.{Profile, Unicode}
use Rattle.idn_class.specs.BidiClass.{bidi_class}
use Rattle.idn_class.specs.BidiRule.{is_rtl_class, is_allowed_in_rtl, is_allowed_in_ltr, is_end_of_rtl, is_end_of_ltr, PassesBidiRule}
use Rattle.idn_class.specs.DeadPrefixes.{breaks_bidi, is_barred_in_rtl}
use Rattle.idn_class.specs.Tests.{is_en, is_an, is_nsm, is_rtl, is_ltr, ends_in, rtl_passes, ltr_passes, bidi_rule, bidi_ok}
use Rattle.idn_class.proofs.BidiTests.{bidi_ok-PassesBidiRule}
use Rattle.idn_class.proofs.ComputedLabels.{rules}

and_true : (b : Bool) → (b && true) ≡ b
and_true true = refl
and_true false = refl

and_false : (b : Bool) → (b && false) ≡ false
and_false true = refl
and_false false = refl

or_true : (b : Bool) → (b || true) ≡ true
or_true true = refl
or_true false = refl

-- ---- with R after the classes

any_with : (test : BidiClass → Bool) → test R ≡ false → (ks : List BidiClass) → list_any test (ks ++ R ∷ []) ≡ list_any test ks
any_with test none [] = ap (λ b. b || false) none
any_with test none (k ∷ ks) = ap (λ b. test k || b) (any_with test none ks)

rtl_with : (ks : List BidiClass) → list_any is_rtl_class (ks ++ R ∷ []) ≡ true
rtl_with [] = refl
rtl_with (k ∷ ks) = ap (λ b. is_rtl_class k || b) (rtl_with ks) ∙ or_true (is_rtl_class k)

all_with : (ks : List BidiClass) → list_all is_allowed_in_rtl (ks ++ R ∷ []) ≡ list_all is_allowed_in_rtl ks
all_with [] = refl
all_with (k ∷ ks) = ap (λ b. is_allowed_in_rtl k && b) (all_with ks)

ends_with : (ks : List BidiClass) → ends_in is_end_of_rtl (ks ++ R ∷ []) ≡ true
ends_with [] = refl
ends_with (k ∷ ks) = ap (λ b. b || is_end_of_rtl k && list_all is_nsm (ks ++ R ∷ [])) (ends_with ks)

-- ---- after a first that is R or AL

barred : (ks : List BidiClass) → list_any is_barred_in_rtl ks ≡ not (list_all is_allowed_in_rtl ks)
barred [] = refl
barred (k ∷ ks) = ap (λ b. not (is_allowed_in_rtl k) || b) (barred ks) ∙ either (is_allowed_in_rtl k) (list_all is_allowed_in_rtl ks)
  where
    either : (a b : Bool) → (not a || not b) ≡ not (a && b)
    either true b = refl
    either false b = refl

pub asked_as_rtl : (ks : List BidiClass) → is_rtl ks ≡ true → bidi_rule (list_any is_rtl_class ks) ks ≡ rtl_passes true ks
asked_as_rtl (R ∷ ks) h = and_true (rtl_passes true (R ∷ ks))
asked_as_rtl (AL ∷ ks) h = and_true (rtl_passes true (AL ∷ ks))
asked_as_rtl _ h = cc

still_rtl : (ks : List BidiClass) → is_rtl ks ≡ true → is_rtl (ks ++ R ∷ []) ≡ true
still_rtl (R ∷ ks) h = refl
still_rtl (AL ∷ ks) h = refl
still_rtl _ h = cc

rtl_for_good : (all ends numbers : Bool) → (not all || numbers) ≡ (not (all && ends && not numbers) && not (all && true && not numbers))
rtl_for_good true true true = refl
rtl_for_good true true false = refl
rtl_for_good true false true = refl
rtl_for_good true false false = refl
rtl_for_good false ends numbers = refl

-- ---- after any other first

not_allowed : (k : BidiClass) → is_rtl_class k ≡ true → is_allowed_in_ltr k ≡ false
not_allowed R h = refl
not_allowed AL h = refl
not_allowed AN h = refl
not_allowed _ h = cc

not_all : (ks : List BidiClass) → list_any is_rtl_class ks ≡ true → list_all is_allowed_in_ltr ks ≡ false
not_all [] h = cc
not_all (k ∷ ks) h = elim (or_cases (is_rtl_class k) (list_any is_rtl_class ks) h) [
  | inl here ↦ ap (λ b. b && list_all is_allowed_in_ltr ks) (not_allowed k here)
  | inr later ↦ ap (λ b. is_allowed_in_ltr k && b) (not_all ks later) ∙ and_false (is_allowed_in_ltr k)
]

pub fails : (ks : List BidiClass) → list_any is_rtl_class ks ≡ true → is_rtl ks ≡ false → bidi_rule (list_any is_rtl_class ks) ks ≡ false
fails ks some other = ap (λ b. bidi_rule b ks) some ∙ by_kind (is_ltr ks) (is_rtl ks) other
  where
    by_kind : (ltr rtl : Bool) → rtl ≡ false → ((ltr || rtl) && rtl_passes rtl ks && ltr_passes ltr ks) ≡ false
    by_kind ltr true h = cc
    by_kind true false h = ap (λ b. b && ends_in is_end_of_ltr ks) (not_all ks some)
    by_kind false false h = refl

still_other : (ks : List BidiClass) → list_any is_rtl_class ks ≡ true → is_rtl ks ≡ false → is_rtl (ks ++ R ∷ []) ≡ false
still_other [] some h = cc
still_other (R ∷ ks) some h = cc
still_other (AL ∷ ks) some h = cc
still_other (k ∷ ks) some h = h

-- ---- both

abbrev ok : List BidiClass → Bool
ok ks = bidi_rule (list_any is_rtl_class ks) ks

ok_with : (ks : List BidiClass) → is_rtl ks ≡ true → ok (ks ++ R ∷ []) ≡ (list_all is_allowed_in_rtl ks && true && not (list_any is_en ks && list_any is_an ks))
ok_with ks h =
    asked_as_rtl (ks ++ R ∷ []) (still_rtl ks h)
    ∙ ap₂ (λ a b. a && b && not (list_any is_en (ks ++ R ∷ []) && list_any is_an (ks ++ R ∷ []))) (all_with ks) (ends_with ks)
    ∙ ap₂ (λ e a. list_all is_allowed_in_rtl ks && true && not (e && a)) (any_with is_en refl ks) (any_with is_an refl ks)

exact_rtl : (ks : List BidiClass) → is_rtl ks ≡ true → breaks_bidi true ks ≡ (not (ok ks) && not (ok (ks ++ R ∷ [])))
exact_rtl ks h =
    let numbers = list_any is_en ks && list_any is_an ks in
    ap (λ b. b || numbers) (barred ks)
    ∙ rtl_for_good (list_all is_allowed_in_rtl ks) (ends_in is_end_of_rtl ks) numbers
    ∙ ap₂ (λ a b. not a && not b) (sym (asked_as_rtl ks h)) (sym (ok_with ks h))

exact_other : (ks : List BidiClass) (some : Bool) → list_any is_rtl_class ks ≡ some → is_rtl ks ≡ false → some ≡ (not (ok ks) && not (ok (ks ++ R ∷ [])))
exact_other ks true some other = ap₂ (λ a b. not a && not b) (sym (fails ks some other)) (sym (fails (ks ++ R ∷ []) (rtl_with ks) (still_other ks some other)))
exact_other ks false none other = ap (λ b. not b && not (ok (ks ++ R ∷ []))) (sym (ap (λ b. bidi_rule b ks) none))

exact_either : (ks : List BidiClass) (rtl : Bool) → is_rtl ks ≡ rtl → breaks_bidi rtl ks ≡ (not (ok ks) && not (ok (ks ++ R ∷ [])))
exact_either ks true h = exact_rtl ks h
exact_either ks false h = exact_other ks (list_any is_rtl_class ks) refl h

exact_part : (ks : List BidiClass) → breaks_bidi (is_rtl ks) ks ≡ (not (ok ks) && not (ok (ks ++ R ∷ [])))
exact_part ks = exact_either ks (is_rtl ks) refl

-- ---- of a label

alef : (properties : Properties) → bidi_class properties 0x5D0 ≡ R
unfolding rules
alef Profile = refl
alef Unicode = refl

pub dead_exactly : (properties : Properties) (w : List ℕ) → (breaks_bidi (is_rtl (map (bidi_class properties) w)) (map (bidi_class properties) w) ≡ true) ↔ ((¬ PassesBidiRule properties w) × (¬ PassesBidiRule properties (w ++ 0x5D0 ∷ [])))
unfolding bidi_ok
dead_exactly properties w =
    let ks = map (bidi_class properties) w in
    let longer : map (bidi_class properties) (w ++ 0x5D0 ∷ []) ≡ ks ++ R ∷ [] = map-append (bidi_class properties) w (0x5D0 ∷ []) ∙ ap (λ k. ks ++ k ∷ []) (alef properties) in
    let is : breaks_bidi (is_rtl ks) ks ≡ (not (bidi_ok properties w) && not (bidi_ok properties (w ++ 0x5D0 ∷ []))) =
    exact_part ks ∙ ap (λ classes. not (bidi_ok properties w) && not (bidi_rule (list_any is_rtl_class classes) classes)) (sym longer) in (
      λ dead.
          let parts = neither (bidi_ok properties w) (bidi_ok properties (w ++ 0x5D0 ∷ [])) (sym is ∙ dead) in
          (λ passes. both_ways _ parts.0 ((bidi_ok-PassesBidiRule properties w).1 passes), λ passes. both_ways _ parts.1 ((bidi_ok-PassesBidiRule properties (w ++ 0x5D0 ∷ [])).1 passes)),
      λ fail.
          is
          ∙ ap₂ (λ a b. not a && not b) (false_from_ne_true _ (λ ok. fail.0 ((bidi_ok-PassesBidiRule properties w).0 ok)))
          (false_from_ne_true _ (λ ok. fail.1 ((bidi_ok-PassesBidiRule properties (w ++ 0x5D0 ∷ [])).0 ok))),
    )
  where
    neither : (a b : Bool) → (not a && not b) ≡ true → (a ≡ false) × (b ≡ false)
    neither true b h = cc
    neither false true h = cc
    neither false false h = (refl, refl)
