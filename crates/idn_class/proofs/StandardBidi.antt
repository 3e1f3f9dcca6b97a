-- The Bidi rule of the profile and of Unicode: of what the profile permits, the class is the same, or L where Unicode has a class that makes no label
-- right-to-left, or NSM of the eight marks that are L in Unicode.
use Rattle.std.proofs.Common.{◌≡◌, ◌≢◌, ◌↔◌, ℕ, zero, suc, Bool, true, false, not, ◌&&◌, ◌||◌, List, [], ◌∷◌, map, All, refl, sym, ap, ap₂, subst, ◌∙◌, arith}
use Rattle.std.specs.List.{AllByRecursion, list_any, list_all}
use Rattle.std.proofs.lemmas.Bool.{and_parts, and_from, and_right, or_parts, both_ways, false_from_ne_true}
use Rattle.std.proofs.lemmas.List.Elements.{recursion_from_All}
use Rattle.std.proofs.lemmas.List.Folds.{Any-from_list_any, list_any-from_Any}
use Rattle.ucd_table.proofs.Computing.{tables}
use Rattle.ucd_table.proofs.RangedFacts.{points_ok}
use Rattle.ucd_table.proofs.Stepped.{Stepped, of_ranges, zip_stepped}
use Rattle.ucd_table.proofs.StepsLemmas.{rises_from}
use Rattle.ucd_bidi.specs.declared.BidiClass.{BidiClass as UnicodeBidiClass}
use Rattle.ucd_bidi.specs.BidiClass.{bidi_class as unicode_bidi_class}
use Rattle.ucd_bidi.proofs.BidiClassLemmas.{bidi_class_stepped as unicode_bidi_class_stepped}
use Rattle.idn_class.specs.declared.bidi_class.BidiClass.{BidiClass}
use Rattle.idn_class.specs.declared.bidi_class.BidiClass.TheVariants.{L, R, AL, AN, EN, ES, BN, NSM}
use Rattle.idn_class.specs.declared.properties.Properties.TheVariants.{Profile, Unicode}
use Rattle.idn_class.specs.Barring.{is_barred}
use Rattle.idn_class.specs.BidiClass.{profile_bidi_class, named_class, standard_bidi_class}
use Rattle.idn_class.specs.BidiRule.{is_rtl_class, is_allowed_in_rtl, is_end_of_rtl, PassesBidiRule}
use Rattle.idn_class.specs.Class.{class_of}
use Rattle.idn_class.specs.Profile.{is_left_to_right_mark, left_to_right_marks, HasMarkInRtl}
use Rattle.idn_class.specs.Tests.{is_en, is_an, is_rtl, ends_in, bidi_rule, bidi_ok}
use Rattle.idn_class.proofs.BidiTests.{is_rtl-gives, is_rtl-from, bidi_ok-PassesBidiRule}
use Rattle.idn_class.proofs.CategoryLemmas.{none_fails}
use Rattle.idn_class.proofs.ClassNumbers.{class_from_number, class_number, class_number_stepped, from_number}
use Rattle.idn_class.proofs.DeadPrefixes.{asked_as_rtl, fails}
use Rattle.idn_class.proofs.FactSteps.{profile_bidi_class_stepped}

-- ---- by code point

marks_stepped : Stepped is_left_to_right_mark
unfolding is_left_to_right_mark rises_from
marks_stepped = of_ranges (map (λ mark. (mark, mark)) left_to_right_marks) refl

-- the number of a class that may be registered, or is left open
abbrev may_be : ℕ → Bool
may_be zero = false
may_be (suc zero) = true
may_be (suc (suc zero)) = true
may_be (suc (suc (suc zero))) = true
may_be (suc (suc (suc (suc zero)))) = false
may_be (suc (suc (suc (suc (suc zero))))) = true
may_be (suc (suc (suc (suc (suc (suc n)))))) = false

abbrev is_same : BidiClass → BidiClass → Bool
is_same L class = not (is_rtl_class class)
is_same R R = true
is_same AL AL = true
is_same AN AN = true
is_same EN EN = true
is_same ES ES = true
is_same BN BN = true
is_same NSM NSM = true
is_same _ _ = false

-- the class of one of the eight marks is NSM, and L by Unicode
abbrev is_alike : Bool → BidiClass → BidiClass → Bool
is_alike false class other = is_same class other
is_alike true NSM L = true
is_alike true _ _ = false

-- whether a code point may be registered, and whether it is one of the marks
abbrev asked_of : ℕ → Bool × Bool
asked_of c = (may_be (class_number Profile c), is_left_to_right_mark c)

abbrev agrees : Bool × Bool → BidiClass → UnicodeBidiClass → Bool
agrees asked class kit = not asked.0 || is_alike asked.1 class (named_class kit)

asked_stepped : Stepped asked_of
unfolding class_number_stepped marks_stepped
asked_stepped = zip_stepped (λ n mark. (may_be n, mark)) (class_number Profile) is_left_to_right_mark class_number_stepped marks_stepped

classes_agree : (c : ℕ) → agrees (asked_of c) (profile_bidi_class c) (unicode_bidi_class c) ≡ true
unfolding tables points_ok asked_stepped profile_bidi_class_stepped unicode_bidi_class_stepped
classes_agree =
    none_fails _
    (zip_stepped (λ (asked : Bool × Bool) (classes : BidiClass × UnicodeBidiClass). agrees asked classes.0 classes.1) asked_of (λ c. (profile_bidi_class c, unicode_bidi_class c)) asked_stepped
    (zip_stepped (λ class kit. (class, kit)) profile_bidi_class unicode_bidi_class profile_bidi_class_stepped unicode_bidi_class_stepped)) refl

allowed : (n : ℕ) → (n ≢ 5 → is_barred (class_from_number n) ≡ false) → may_be n ≡ true
allowed zero h = let clash : true ≡ false = h (λ five. absurd (omega arith)) in cc
allowed (suc zero) h = refl
allowed (suc (suc zero)) h = refl
allowed (suc (suc (suc zero))) h = refl
allowed (suc (suc (suc (suc zero)))) h = let clash : true ≡ false = h (λ five. absurd (omega arith)) in cc
allowed (suc (suc (suc (suc (suc zero))))) h = refl
allowed (suc (suc (suc (suc (suc (suc n)))))) h = let clash : true ≡ false = h (λ five. absurd (omega arith)) in cc

abbrev IsAlike : ℕ → Type 0
IsAlike c = is_alike (is_left_to_right_mark c) (profile_bidi_class c) (standard_bidi_class c) ≡ true

alike : (c : ℕ) → is_barred (class_of Profile c) ≡ false → IsAlike c
unfolding standard_bidi_class
alike c free =
    let asked = allowed (class_number Profile c) (λ known. ap is_barred (from_number Profile c (class_number Profile c) refl known) ∙ free) in
    sym (ap (λ a. not a || is_alike (is_left_to_right_mark c) (profile_bidi_class c) (named_class (unicode_bidi_class c))) asked) ∙ classes_agree c

-- ---- one class

rtl_same : (k s : BidiClass) → is_same k s ≡ true → is_rtl_class k ≡ is_rtl_class s
rtl_same L s h = not_true (is_rtl_class s) h
  where
    not_true : (b : Bool) → not b ≡ true → false ≡ b
    not_true false h = refl
    not_true true h = cc
rtl_same R R h = refl
rtl_same AL AL h = refl
rtl_same AN AN h = refl
rtl_same EN EN h = refl
rtl_same ES ES h = refl
rtl_same BN BN h = refl
rtl_same NSM NSM h = refl
rtl_same _ _ h = cc

rtl_alike : (mark : Bool) (k s : BidiClass) → is_alike mark k s ≡ true → is_rtl_class k ≡ is_rtl_class s
rtl_alike false k s h = rtl_same k s h
rtl_alike true NSM L h = refl
rtl_alike true NSM _ h = cc
rtl_alike true _ s h = cc

allowed_same : (k s : BidiClass) → is_same k s ≡ true → is_allowed_in_rtl k ≡ true → k ≡ s
allowed_same L s h may = cc
allowed_same R R h may = refl
allowed_same AL AL h may = refl
allowed_same AN AN h may = refl
allowed_same EN EN h may = refl
allowed_same ES ES h may = refl
allowed_same BN BN h may = refl
allowed_same NSM NSM h may = refl
allowed_same _ _ h may = cc

unmarked : (mark : Bool) (k s : BidiClass) → mark ≡ false → is_alike mark k s ≡ true → is_same k s ≡ true
unmarked false k s none h = h
unmarked true k s none h = cc

rtl_first : (mark : Bool) (k s : BidiClass) (ks ss : List BidiClass) → is_alike mark k s ≡ true → is_rtl (k ∷ ks) ≡ true → is_rtl (s ∷ ss) ≡ true
rtl_first false R R ks ss h rtl = refl
rtl_first false AL AL ks ss h rtl = refl
rtl_first false R _ ks ss h rtl = cc
rtl_first false AL _ ks ss h rtl = cc
rtl_first true R s ks ss h rtl = cc
rtl_first true AL s ks ss h rtl = cc
rtl_first _ _ s ks ss h rtl = cc

some_rtl : (ks : List BidiClass) → is_rtl ks ≡ true → list_any is_rtl_class ks ≡ true
some_rtl (R ∷ ks) rtl = refl
some_rtl (AL ∷ ks) rtl = refl
some_rtl _ rtl = cc

-- one of the marks, or a code point after it, is barred by Unicode
barred_from : (mark : Bool) (k s : BidiClass) (later all : Bool) → is_alike mark k s ≡ true → (mark || later) ≡ true → (later ≡ true → all ≡ false)
    → (is_allowed_in_rtl s && all) ≡ false
barred_from false k s later all h some rest = and_right (is_allowed_in_rtl s) all (rest some)
barred_from true NSM L later all h some rest = refl
barred_from true NSM _ later all h some rest = cc
barred_from true _ s later all h some rest = cc

-- ---- a label

any_same : (label : List ℕ) → AllByRecursion IsAlike label → list_any is_rtl_class (map profile_bidi_class label) ≡ list_any is_rtl_class (map standard_bidi_class label)
any_same [] all = refl
any_same (c ∷ label) all = ap₂ (λ a b. a || b) (rtl_alike (is_left_to_right_mark c) (profile_bidi_class c) (standard_bidi_class c) all.0) (any_same label all.1)

first_same : (label : List ℕ) → AllByRecursion IsAlike label → is_rtl (map profile_bidi_class label) ≡ true → is_rtl (map standard_bidi_class label) ≡ true
first_same [] all rtl = rtl
first_same (c ∷ label) all rtl =
    rtl_first (is_left_to_right_mark c) (profile_bidi_class c) (standard_bidi_class c) (map profile_bidi_class label) (map standard_bidi_class label) all.0 rtl

all_same : (label : List ℕ) → AllByRecursion IsAlike label → list_any is_left_to_right_mark label ≡ false → list_all is_allowed_in_rtl (map profile_bidi_class label) ≡ true → map profile_bidi_class label ≡ map standard_bidi_class label
all_same [] all none may = refl
all_same (c ∷ label) all none may =
    let marks = or_parts (is_left_to_right_mark c) (list_any is_left_to_right_mark label) none in
    let parts = and_parts (is_allowed_in_rtl (profile_bidi_class c)) (list_all is_allowed_in_rtl (map profile_bidi_class label)) may in
    let same = unmarked (is_left_to_right_mark c) (profile_bidi_class c) (standard_bidi_class c) marks.0 all.0 in
    ap₂ (λ k ks. k ∷ ks) (allowed_same (profile_bidi_class c) (standard_bidi_class c) same parts.0) (all_same label all.1 marks.1 parts.1)

barred_by_mark : (label : List ℕ) → AllByRecursion IsAlike label → list_any is_left_to_right_mark label ≡ true → list_all is_allowed_in_rtl (map standard_bidi_class label) ≡ false
barred_by_mark [] all some = cc
barred_by_mark (c ∷ label) all some =
    barred_from (is_left_to_right_mark c) (profile_bidi_class c) (standard_bidi_class c) (list_any is_left_to_right_mark label)
    (list_all is_allowed_in_rtl (map standard_bidi_class label)) all.0 some (barred_by_mark label all.1)

-- what passes by the profile passes by Unicode, but for an RTL label with one of the marks
ok_by_standard : (label : List ℕ) → AllByRecursion IsAlike label → bidi_ok Profile label ≡ true
    → bidi_ok Unicode label ≡ not (is_rtl (map profile_bidi_class label) && list_any is_left_to_right_mark label)
unfolding bidi_ok
ok_by_standard label all ok = by_kind (list_any is_rtl_class ks) (is_rtl ks) (list_any is_left_to_right_mark label) refl refl refl
  where
    ks : List BidiClass
    ks = map profile_bidi_class label

    ss : List BidiClass
    ss = map standard_bidi_class label

    by_kind : (some rtl marks : Bool) → list_any is_rtl_class ks ≡ some → is_rtl ks ≡ rtl → list_any is_left_to_right_mark label ≡ marks
        → bidi_rule (list_any is_rtl_class ss) ss ≡ not (rtl && marks)
    by_kind true false marks some r m = absurd (both_ways _ (fails ks some r) ok)
    by_kind false false marks none r m = ap (λ b. bidi_rule b ss) (sym (any_same label all) ∙ none)
    by_kind false true marks none r m = let clash : true ≡ false = sym (some_rtl ks r) ∙ none in cc
    by_kind true true true some r m =
        asked_as_rtl ss (first_same label all r)
        ∙ ap (λ b. b && ends_in is_end_of_rtl ss && not (list_any is_en ss && list_any is_an ss)) (barred_by_mark label all m)
    by_kind true true false some r m =
        let both = and_parts (list_all is_allowed_in_rtl ks && ends_in is_end_of_rtl ks) (not (list_any is_en ks && list_any is_an ks)) (sym (asked_as_rtl ks r) ∙ ok) in
        let parts = and_parts (list_all is_allowed_in_rtl ks) (ends_in is_end_of_rtl ks) both.0 in
        subst (λ classes. bidi_rule (list_any is_rtl_class classes) classes ≡ true) (all_same label all m parts.0) ok

pub bidi-standard : (label : List ℕ) → All (λ c. is_barred (class_of Profile c) ≡ false) label → PassesBidiRule Profile label
    → PassesBidiRule Unicode label ↔ ¬ HasMarkInRtl label
bidi-standard label free passes = (no_mark, passing)
  where
    ks : List BidiClass
    ks = map profile_bidi_class label

    told : bidi_ok Unicode label ≡ not (is_rtl ks && list_any is_left_to_right_mark label)
    told = ok_by_standard label (recursion_from_All IsAlike label (λ k d lt. alike _ (free k d lt))) ((bidi_ok-PassesBidiRule Profile label).1 passes)

    no_mark : PassesBidiRule Unicode label → ¬ HasMarkInRtl label
    no_mark met has =
        let both = and_from (is_rtl ks) (list_any is_left_to_right_mark label) (is_rtl-from ks has.0) (list_any-from_Any is_left_to_right_mark label has.1) in
        let clash : true ≡ false = sym ((bidi_ok-PassesBidiRule Unicode label).1 met) ∙ told ∙ ap not both in
        cc

    passing : ¬ HasMarkInRtl label → PassesBidiRule Unicode label
    passing none =
        let neither = false_from_ne_true (is_rtl ks && list_any is_left_to_right_mark label)
        (λ both. let parts = and_parts (is_rtl ks) (list_any is_left_to_right_mark label) both in
        none (is_rtl-gives ks parts.0, Any-from_list_any is_left_to_right_mark label parts.1)) in
        (bidi_ok-PassesBidiRule Unicode label).0 (told ∙ ap not neither)
