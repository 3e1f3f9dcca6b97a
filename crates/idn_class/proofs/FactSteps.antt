-- The facts of a code point, as a number of a property whose steps are known.
use Rattle.std.proofs.Common.{◌≡◌, ◌≢◌, ℕ, suc, ◌+◌, ◌*◌, ◌/◌, ◌%◌, Bool, true, false, not, ◌&&◌, ◌||◌, ◌==◌, nat_lt, cond, List, [], ◌∷◌, length, refl, sym, ap, ◌∙◌, inl, inr, arith, eqb-true, eq-eqb}
use Rattle.std.specs.Int.{bit_at}
use Rattle.std.proofs.lemmas.Nat.Bits.{bit_at_lowest, bit_at-suc}
use Rattle.std.proofs.lemmas.Bool.{or_right, cases_Bool, true≢false}
use Rattle.ucd_table.proofs.Stepped.{Stepped, of_ranges, map_stepped, zip_stepped}
use Rattle.ucd_table.proofs.StepsLemmas.{rises_from}
use Rattle.unicode.specs.CaseFolding.{full_folding}
use Rattle.unicode.proofs.CaseFoldingLemmas.{full_folding_stepped}
use Rattle.unicode.specs.GeneralCategory.{general_category}
use Rattle.unicode.proofs.GeneralCategoryLemmas.{general_category_stepped}
use Rattle.ucd_bidi.specs.BidiClass.{bidi_class as unicode_bidi_class}
use Rattle.ucd_bidi.proofs.BidiClassLemmas.{bidi_class_stepped as unicode_bidi_class_stepped}
use Rattle.ucd_idna_map.specs.IdnaStatus.{idna_status}
use Rattle.ucd_idna_map.proofs.IdnaStatusLemmas.{idna_status_stepped}
use Rattle.ucd_normal.specs.declared.forms.Form.TheVariants.{Nfc, Nfkd, Nfkc}
use Rattle.ucd_normal.specs.declared.forms.QuickCheck.{QuickCheck}
use Rattle.ucd_normal.specs.CanonicalCombiningClass.{canonical_combining_class}
use Rattle.ucd_normal.specs.QuickCheck.{quick_check}
use Rattle.ucd_normal.proofs.CanonicalCombiningClassLemmas.{canonical_combining_class_stepped}
use Rattle.ucd_normal.proofs.QuickCheckLemmas.{quick_check_stepped}
use Rattle.idn_class.specs.declared.bidi_class.BidiClass.{BidiClass}
use Rattle.idn_class.specs.declared.bidi_class.BidiClass.TheVariants.{L, R, AL, AN, EN, ES, BN, NSM}
use Rattle.idn_class.specs.Barring.{is_barred}
use Rattle.idn_class.specs.BidiClass.{is_boundary_neutral, is_european_separator, is_european_number, is_arabic_number, is_nonspacing_or_enclosing, is_nonspacing, is_right_to_left, is_arabic_letter, profile_bidi_class, named_class, standard_bidi_class, bidi_class}
use Rattle.idn_class.specs.BidiRule.{is_rtl_class}
use Rattle.idn_class.specs.Class.{class_of, is_unstable, is_pvalid_exception, is_letter_or_digit, is_undecided, is_stability_open, is_left_open}
use Rattle.idn_class.specs.declared.class.Class.{Class}
use Rattle.idn_class.specs.declared.class.Class.TheVariants.{Pvalid, Disallowed, Unassigned}
use Rattle.idn_class.specs.declared.facts.Fact.{Fact}
use Rattle.idn_class.specs.declared.facts.Fact.TheVariants.{MayBeBarred, Contextj, Contexto, MayCompose, Mark, RightToLeft, NotKept}
use Rattle.idn_class.specs.Facts.{is_contextj, is_contexto, is_yes, is_kept_status, fact_holds, place_of}
use Rattle.idn_class.specs.LeadingMark.{is_mark_category, is_mark}
use Rattle.idn_class.proofs.ClassNumbers.{class_from_number, class_number, class_number_stepped, from_number, from_five, five_open}
use Rattle.idn_class.specs.declared.properties.Properties.TheVariants.{Profile, Unicode}

-- ---- the parts

left_open_stepped : Stepped is_left_open
unfolding is_left_open is_stability_open is_pvalid_exception rises_from general_category_stepped quick_check_stepped full_folding_stepped
left_open_stepped =
    let checks = zip_stepped (λ (v w : QuickCheck). (v, w)) (quick_check Nfkc) (quick_check Nfkd) (quick_check_stepped Nfkc) (quick_check_stepped Nfkd) in
    let undecided = zip_stepped (λ (vs : QuickCheck × QuickCheck) (table : List ℕ). is_undecided vs.0 vs.1 (nat_lt 1 (length table))) (λ c. (quick_check Nfkc c, quick_check Nfkd c)) full_folding checks full_folding_stepped in
    let letters = zip_stepped (λ a v. not a && is_letter_or_digit v) is_pvalid_exception general_category (of_ranges _ refl) general_category_stepped in
    zip_stepped (λ a b. a && b) (λ c. not (is_pvalid_exception c) && is_letter_or_digit (general_category c)) is_stability_open letters undecided

mark_stepped : Stepped is_mark
unfolding is_mark general_category_stepped
mark_stepped = map_stepped is_mark_category general_category general_category_stepped

abbrev either_class : (class : BidiClass) (test : ℕ → Bool) (rest : ℕ → BidiClass) → Stepped test → Stepped rest → Stepped (λ c. cond (test c) class (rest c))
either_class class test rest s t = zip_stepped (λ b other. cond b class other) test rest s t

nonspacing_stepped : Stepped is_nonspacing
unfolding is_nonspacing general_category_stepped
nonspacing_stepped = map_stepped is_nonspacing_or_enclosing general_category general_category_stepped

-- Bidi_Class by the profile
unfoldable pub profile_bidi_class_stepped : Stepped profile_bidi_class
unfolding profile_bidi_class is_boundary_neutral is_european_separator is_european_number is_arabic_number is_right_to_left is_arabic_letter rises_from nonspacing_stepped
profile_bidi_class_stepped =
    let al = map_stepped (λ b. cond b AL L) is_arabic_letter (of_ranges ((0x600, 0x7BF) ∷ (0x860, 0x8FF) ∷ []) refl) in
    let r = either_class R is_right_to_left _ (of_ranges ((0x590, 0x5FF) ∷ (0x7C0, 0x85F) ∷ []) refl) al in
    let nsm = either_class NSM is_nonspacing _ nonspacing_stepped r in
    let an = either_class AN is_arabic_number _ (of_ranges ((0x660, 0x669) ∷ []) refl) nsm in
    let en = either_class EN is_european_number _ (of_ranges ((0x30, 0x39) ∷ (0x6F0, 0x6F9) ∷ []) refl) an in
    let es = either_class ES is_european_separator _ (of_ranges ((0x2D, 0x2D) ∷ []) refl) en in
    either_class BN is_boundary_neutral _ (of_ranges ((0x200C, 0x200D) ∷ []) refl) es

-- ---- the facts by steps

abbrev or_stepped : (p q : ℕ → Bool) → Stepped p → Stepped q → Stepped (λ c. p c || q c)
or_stepped p q s t = zip_stepped (λ a b. a || b) p q s t

-- a test of the class, by its number
abbrev by_number : (Class → Bool) → ℕ → Bool
by_number test c = test (class_from_number (class_number Profile c))

-- the fact again, by the number of the class
abbrev fact_by_steps : Fact → ℕ → Bool
fact_by_steps MayBeBarred c = by_number is_barred c || is_left_open c
fact_by_steps Contextj c = by_number is_contextj c
fact_by_steps Contexto c = by_number is_contexto c
fact_by_steps MayCompose c = not (is_yes (quick_check Nfc c) && (canonical_combining_class c == 0))
fact_by_steps Mark c = is_mark c
fact_by_steps RightToLeft c = is_rtl_class (bidi_class Profile c) || is_rtl_class (bidi_class Unicode c)
fact_by_steps NotKept c = not (is_kept_status (idna_status c))

by_number_stepped : (test : Class → Bool) → Stepped (by_number test)
unfolding class_number_stepped
by_number_stepped test = map_stepped (λ n. test (class_from_number n)) (class_number Profile) class_number_stepped

compose_stepped : Stepped (fact_by_steps MayCompose)
unfolding quick_check_stepped canonical_combining_class_stepped
compose_stepped =
    zip_stepped (λ check (n : ℕ). not (is_yes check && (n == 0))) (quick_check Nfc) canonical_combining_class (quick_check_stepped Nfc) canonical_combining_class_stepped

rtl_stepped : Stepped (fact_by_steps RightToLeft)
unfolding standard_bidi_class unicode_bidi_class_stepped profile_bidi_class_stepped
rtl_stepped =
    or_stepped _ _ (map_stepped is_rtl_class profile_bidi_class profile_bidi_class_stepped)
    (map_stepped (λ class. is_rtl_class (named_class class)) unicode_bidi_class unicode_bidi_class_stepped)

kept_stepped : Stepped (fact_by_steps NotKept)
unfolding idna_status_stepped
kept_stepped = map_stepped (λ status. not (is_kept_status status)) idna_status idna_status_stepped

so_stepped : (fact : Fact) → Stepped (fact_by_steps fact)
unfolding by_number_stepped left_open_stepped compose_stepped mark_stepped rtl_stepped kept_stepped
so_stepped MayBeBarred = or_stepped _ _ (by_number_stepped is_barred) left_open_stepped
so_stepped Contextj = by_number_stepped is_contextj
so_stepped Contexto = by_number_stepped is_contexto
so_stepped MayCompose = compose_stepped
so_stepped Mark = mark_stepped
so_stepped RightToLeft = rtl_stepped
so_stepped NotKept = kept_stepped

-- ---- the number of the table: a bit for each fact that is absent

-- the bit below others
abbrev with_bit : Bool → ℕ → ℕ
with_bit true others = 2 * others
with_bit false others = 2 * others + 1

abbrev absent_6 : ℕ → ℕ
absent_6 c = with_bit (fact_by_steps NotKept c) 0

abbrev absent_5 : ℕ → ℕ
absent_5 c = with_bit (fact_by_steps RightToLeft c) (absent_6 c)

abbrev absent_4 : ℕ → ℕ
absent_4 c = with_bit (fact_by_steps Mark c) (absent_5 c)

abbrev absent_3 : ℕ → ℕ
absent_3 c = with_bit (fact_by_steps MayCompose c) (absent_4 c)

abbrev absent_2 : ℕ → ℕ
absent_2 c = with_bit (fact_by_steps Contexto c) (absent_3 c)

abbrev absent_1 : ℕ → ℕ
absent_1 c = with_bit (fact_by_steps Contextj c) (absent_2 c)

unfoldable pub absent_facts : ℕ → ℕ
absent_facts c = with_bit (fact_by_steps MayBeBarred c) (absent_1 c)

unfoldable pub absent_facts_stepped : Stepped absent_facts
unfolding absent_facts so_stepped
absent_facts_stepped =
    let s6 = map_stepped (λ b. with_bit b 0) (fact_by_steps NotKept) (so_stepped NotKept) in
    let s5 = zip_stepped with_bit (fact_by_steps RightToLeft) absent_6 (so_stepped RightToLeft) s6 in
    let s4 = zip_stepped with_bit (fact_by_steps Mark) absent_5 (so_stepped Mark) s5 in
    let s3 = zip_stepped with_bit (fact_by_steps MayCompose) absent_4 (so_stepped MayCompose) s4 in
    let s2 = zip_stepped with_bit (fact_by_steps Contexto) absent_3 (so_stepped Contexto) s3 in
    let s1 = zip_stepped with_bit (fact_by_steps Contextj) absent_2 (so_stepped Contextj) s2 in
    zip_stepped with_bit (fact_by_steps MayBeBarred) absent_1 (so_stepped MayBeBarred) s1

-- ---- its bits

lowest : (b : Bool) (others : ℕ) → (bit_at (with_bit b others) 0 == 0) ≡ b
lowest true others = ap (λ n. n == 0) (bit_at_lowest (2 * others) ∙ even others)
  where
    even : (n : ℕ) → (2 * n) % 2 ≡ 0
    even n = omega arith
lowest false others = ap (λ n. n == 0) (bit_at_lowest (2 * others + 1) ∙ odd others)
  where
    odd : (n : ℕ) → (2 * n + 1) % 2 ≡ 1
    odd n = omega arith

higher : (b : Bool) (others i : ℕ) → bit_at (with_bit b others) (suc i) ≡ bit_at others i
higher true others i = bit_at-suc (2 * others) i ∙ ap (λ n. bit_at n i) (half others)
  where
    half : (n : ℕ) → (2 * n) / 2 ≡ n
    half n = omega arith
higher false others i = bit_at-suc (2 * others + 1) i ∙ ap (λ n. bit_at n i) (half others)
  where
    half : (n : ℕ) → (2 * n + 1) / 2 ≡ n
    half n = omega arith

after : (b : Bool) (others i : ℕ) (answer : Bool) → (bit_at others i == 0) ≡ answer → (bit_at (with_bit b others) (suc i) == 0) ≡ answer
after b others i answer is = ap (λ n. n == 0) (higher b others i) ∙ is

pub absent_facts-bit : (c : ℕ) (fact : Fact) → (bit_at (absent_facts c) (place_of fact) == 0) ≡ fact_by_steps fact c
unfolding absent_facts
absent_facts-bit c fact =
    let b0 = fact_by_steps MayBeBarred c in
    let b1 = fact_by_steps Contextj c in
    let b2 = fact_by_steps Contexto c in
    let b3 = fact_by_steps MayCompose c in
    let b4 = fact_by_steps Mark c in
    let b5 = fact_by_steps RightToLeft c in
    let b6 = fact_by_steps NotKept c in
    elim fact as (λ f. (bit_at (absent_facts c) (place_of f) == 0) ≡ fact_by_steps f c) [
      | MayBeBarred ↦ lowest b0 (absent_1 c)
      | Contextj ↦ after b0 (absent_1 c) 0 b1 (lowest b1 (absent_2 c))
      | Contexto ↦ after b0 (absent_1 c) 1 b2 (after b1 (absent_2 c) 0 b2 (lowest b2 (absent_3 c)))
      | MayCompose ↦ after b0 (absent_1 c) 2 b3 (after b1 (absent_2 c) 1 b3 (after b2 (absent_3 c) 0 b3 (lowest b3 (absent_4 c))))
      | Mark ↦ after b0 (absent_1 c) 3 b4 (after b1 (absent_2 c) 2 b4 (after b2 (absent_3 c) 1 b4 (after b3 (absent_4 c) 0 b4 (lowest b4 (absent_5 c)))))
      | RightToLeft ↦
          after b0 (absent_1 c) 4 b5
          (after b1 (absent_2 c) 3 b5 (after b2 (absent_3 c) 2 b5 (after b3 (absent_4 c) 1 b5 (after b4 (absent_5 c) 0 b5 (lowest b5 (absent_6 c))))))
      | NotKept ↦
          after b0 (absent_1 c) 5 b6
          (after b1 (absent_2 c) 4 b6
          (after b2 (absent_3 c) 3 b6 (after b3 (absent_4 c) 2 b6 (after b4 (absent_5 c) 1 b6 (after b5 (absent_6 c) 0 b6 (lowest b6 0))))))
    ]

-- ---- the facts by steps are the facts

-- what holds of no class that stability decides between is told by the number alone
by_number-class_of : (test : Class → Bool) → test Unassigned ≡ test Disallowed → test Unassigned ≡ test Pvalid → (c : ℕ) → by_number test c ≡ test (class_of Profile c)
by_number-class_of test disallowed pvalid c =
    elim (cases_Bool (class_number Profile c == 5)) [
      | inl is ↦
          let five : class_number Profile c ≡ 5 = eqb-true (class_number Profile c) 5 is in
          ap (λ n. test (class_from_number n)) five ∙ stable (is_unstable c) ∙ ap test (sym (from_five Profile c (class_number Profile c) refl five))
      | inr other ↦ ap test (from_number Profile c (class_number Profile c) refl (λ five. true≢false (sym (eq-eqb (class_number Profile c) 5 five) ∙ other)))
    ]
  where
    stable : (b : Bool) → test Unassigned ≡ test (cond b Disallowed Pvalid)
    stable true = disallowed
    stable false = pvalid

barred : (c : ℕ) → (by_number is_barred c || is_left_open c) ≡ (is_barred (class_of Profile c) || is_left_open c)
barred c =
    elim (cases_Bool (is_left_open c)) [
      | inl left_open ↦ or_right _ _ left_open ∙ sym (or_right _ _ left_open)
      | inr closed ↦
          let known : class_number Profile c ≢ 5 = λ five. true≢false (sym (five_open Profile c (class_number Profile c) refl five) ∙ closed) in
          ap (λ class. is_barred class || is_left_open c) (from_number Profile c (class_number Profile c) refl known)
    ]

pub fact_by_steps-fact_holds : (fact : Fact) (c : ℕ) → fact_by_steps fact c ≡ fact_holds fact c
unfolding fact_holds
fact_by_steps-fact_holds MayBeBarred c = barred c
fact_by_steps-fact_holds Contextj c = by_number-class_of is_contextj refl refl c
fact_by_steps-fact_holds Contexto c = by_number-class_of is_contexto refl refl c
fact_by_steps-fact_holds MayCompose c = refl
fact_by_steps-fact_holds Mark c = refl
fact_by_steps-fact_holds RightToLeft c = refl
fact_by_steps-fact_holds NotKept c = refl
