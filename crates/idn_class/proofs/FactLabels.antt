-- A label of which no code point has a fact passes the test that the fact stands for.
use Rattle.std.proofs.Common.{◌≡◌, ℕ, ◌≤◌, Bool, true, false, ◌==◌, nat_le, not, cond, List, [], ◌∷◌, map, All, get_or, Some, refl, sym, ap, ◌∙◌, eqb-true, arith}
use Rattle.std.specs.List.{list_any}
use Rattle.std.proofs.lemmas.Bool.{and_parts, true≢false, not-false, or_parts}
use Rattle.std.proofs.lemmas.Bool.Decides.{nat_tests}
use Rattle.std.proofs.lemmas.List.Elements.{All-nil, All-cons, All-weaker, All-map}
use Rattle.std.proofs.lemmas.List.Folds.{list_any_none}
use Rattle.ucd_idna_map.specs.IdnaStatus.{idna_status}
use Rattle.ucd_normal.specs.declared.forms.Form.TheVariants.{Nfc}
use Rattle.ucd_normal.specs.declared.forms.QuickCheck.TheVariants.{Yes}
use Rattle.ucd_normal.specs.CanonicalCombiningClass.{canonical_combining_class}
use Rattle.ucd_normal.specs.QuickCheck.{quick_check}
use Rattle.unicode_normalization.specs.Forms.{nfc, is_nfc}
use Rattle.unicode_normalization.proofs.FormsLemmas.{quick_check_text-Yes, is_in_form_from}
use Rattle.unicode_normalization.proofs.QuickCheckLemmas.{checked_after, checked_after-start, checked_after-step, checked_after-end}
use Rattle.idn_class.specs.declared.class.Class.{Class}
use Rattle.idn_class.specs.declared.class.Class.TheVariants.{Contextj as Contextj_class, Contexto as Contexto_class, Disallowed as Disallowed_class}
use Rattle.idn_class.specs.declared.facts.Fact.{Fact}
use Rattle.idn_class.specs.declared.facts.Fact.TheVariants.{MayBeBarred, Contextj, Contexto, MayCompose, Mark, RightToLeft, NotKept}
use Rattle.idn_class.specs.Barring.{is_barred}
use Rattle.idn_class.specs.BidiClass.{bidi_class}
use Rattle.idn_class.specs.BidiRule.{is_rtl_class}
use Rattle.idn_class.specs.Class.{class_of, is_left_open, is_scalar, is_outside_profile}
use Rattle.idn_class.specs.ContextO.{is_arabic_digit, is_extended_arabic_digit}
use Rattle.idn_class.specs.Facts.{is_contextj, is_contexto, is_yes, is_kept_status, fact_holds, has_fact}
use Rattle.idn_class.specs.declared.direction.Direction.TheVariants.{Ltr}
use Rattle.idn_class.specs.Directions.{lengthened}
use Rattle.idn_class.specs.LeadingMark.{is_mark}
use Rattle.idn_class.specs.WorkedRows.{HasClasses}
use Rattle.idn_class.specs.Tests.{leading_mark, contextj_ok, contexto_ok, bidi_ok}
use Rattle.idn_class.proofs.ComputedLabels.{in_table, HasClasses-rows_ok}
use Rattle.idn_class.proofs.ContextJTests.{contextj_ok-PassesContextJ}
use Rattle.idn_class.proofs.ContextOTests.{contexto_ok-PassesContextO}
use Rattle.idn_class.proofs.ClassNumbers.{is_yes-true}
use Rattle.idn_class.specs.declared.properties.Properties.{Properties}
use Rattle.idn_class.specs.declared.properties.Properties.TheVariants.{Profile, Unicode}

-- ---- code points

-- a code point that has not the fact
pub without : (fact : Fact) (c : ℕ) → has_fact fact c ≡ false → fact_holds fact c ≡ false
without fact c none = (or_parts (nat_le 0x11_0000 c) (fact_holds fact c) none).1

-- what may be registered by the profile has the same class by the standard
same_class : (s o : Bool) (rest : Class) → is_barred (cond (not s) Disallowed_class (cond o Disallowed_class rest)) ≡ false
    → cond (not s) Disallowed_class (cond false Disallowed_class rest) ≡ cond (not s) Disallowed_class (cond o Disallowed_class rest)
same_class false o rest free = refl
same_class true true rest free = let clash : true ≡ false = free in cc
same_class true false rest free = refl

pub class_of-standard : (c : ℕ) → is_barred (class_of Profile c) ≡ false → class_of Unicode c ≡ class_of Profile c
unfolding class_of
class_of-standard c free = same_class (is_scalar c) (is_outside_profile c) _ free

-- and so has what the profile covers
pub class_of-covered : (c : ℕ) → is_outside_profile c ≡ false → class_of Unicode c ≡ class_of Profile c
unfolding class_of
class_of-covered c covered = rw covered refl

pub unbarred_by : (properties : Properties) (c : ℕ) → is_barred (class_of Profile c) ≡ false → is_barred (class_of properties c) ≡ false
unbarred_by Profile c free = free
unbarred_by Unicode c free = ap is_barred (class_of-standard c free) ∙ free

pub class_without : (c : ℕ) → has_fact MayBeBarred c ≡ false → (is_barred (class_of Profile c) ≡ false) × (is_left_open c ≡ false)
unfolding fact_holds
class_without c none = or_parts _ _ (without MayBeBarred c none)

pub contextj_without : (c : ℕ) → has_fact Contextj c ≡ false → is_contextj (class_of Profile c) ≡ false
unfolding fact_holds
contextj_without c none = without Contextj c none

contexto_without : (c : ℕ) → has_fact Contexto c ≡ false → is_contexto (class_of Profile c) ≡ false
unfolding fact_holds
contexto_without c none = without Contexto c none

pub compose_without : (c : ℕ) → has_fact MayCompose c ≡ false → (quick_check Nfc c ≡ Yes) × (canonical_combining_class c ≡ 0)
unfolding fact_holds
compose_without c none =
    let parts = and_parts (is_yes (quick_check Nfc c)) (canonical_combining_class c == 0) (not-false _ (without MayCompose c none)) in
    (is_yes-true _ parts.0, eqb-true _ 0 parts.1)

pub mark_without : (c : ℕ) → has_fact Mark c ≡ false → is_mark c ≡ false
unfolding fact_holds
mark_without c none = without Mark c none

pub rtl_without : (properties : Properties) (c : ℕ) → has_fact RightToLeft c ≡ false → is_rtl_class (bidi_class properties c) ≡ false
unfolding fact_holds
rtl_without Profile c none = (or_parts _ _ (without RightToLeft c none)).0
rtl_without Unicode c none = (or_parts _ _ (without RightToLeft c none)).1

-- a code point that is neither R, AL nor AN keeps the direction of an LTR label
pub lengthened-ltr : (properties : Properties) (c : ℕ) → has_fact RightToLeft c ≡ false → lengthened properties Ltr c ≡ Some Ltr
lengthened-ltr properties c none = rw (rtl_without properties c none) refl

pub ruleset left_to_right = (lengthened-ltr)

pub kept_without : (c : ℕ) → has_fact NotKept c ≡ false → is_kept_status (idna_status c) ≡ true
unfolding fact_holds
kept_without c none = not-false _ (without NotKept c none)

-- ---- the code points that have a rule of their own

of_class : (test : Class → Bool) (first last : ℕ) (class : Class) → HasClasses Profile ((first, last, class) ∷ []) → test class ≡ true → (c : ℕ) → test (class_of Profile c) ≡ false → first ≤ c → c ≤ last → ⊥
of_class test first last class row is c other low high = true≢false (sym is ∙ ap test (sym (row.0 c low high)) ∙ other)

no_joiner : (c : ℕ) → is_contextj (class_of Profile c) ≡ false → 0x200C ≤ c → c ≤ 0x200D → ⊥
unfolding in_table
no_joiner = of_class is_contextj 0x200C 0x200D Contextj_class (HasClasses-rows_ok Profile ((0x200C, 0x200D, Contextj_class) ∷ []) refl) refl

no_middle_dot : (c : ℕ) → is_contexto (class_of Profile c) ≡ false → 0xB7 ≤ c → c ≤ 0xB7 → ⊥
unfolding in_table
no_middle_dot = of_class is_contexto 0xB7 0xB7 Contexto_class (HasClasses-rows_ok Profile ((0xB7, 0xB7, Contexto_class) ∷ []) refl) refl

no_keraia : (c : ℕ) → is_contexto (class_of Profile c) ≡ false → 0x375 ≤ c → c ≤ 0x375 → ⊥
unfolding in_table
no_keraia = of_class is_contexto 0x375 0x375 Contexto_class (HasClasses-rows_ok Profile ((0x375, 0x375, Contexto_class) ∷ []) refl) refl

no_geresh : (c : ℕ) → is_contexto (class_of Profile c) ≡ false → 0x5F3 ≤ c → c ≤ 0x5F4 → ⊥
unfolding in_table
no_geresh = of_class is_contexto 0x5F3 0x5F4 Contexto_class (HasClasses-rows_ok Profile ((0x5F3, 0x5F4, Contexto_class) ∷ []) refl) refl

no_katakana_middle_dot : (c : ℕ) → is_contexto (class_of Profile c) ≡ false → 0x30FB ≤ c → c ≤ 0x30FB → ⊥
unfolding in_table
no_katakana_middle_dot = of_class is_contexto 0x30FB 0x30FB Contexto_class (HasClasses-rows_ok Profile ((0x30FB, 0x30FB, Contexto_class) ∷ []) refl) refl

no_arabic_digit : (c : ℕ) → is_contexto (class_of Profile c) ≡ false → 0x660 ≤ c → c ≤ 0x669 → ⊥
unfolding in_table
no_arabic_digit = of_class is_contexto 0x660 0x669 Contexto_class (HasClasses-rows_ok Profile ((0x660, 0x669, Contexto_class) ∷ []) refl) refl

no_extended_arabic_digit : (c : ℕ) → is_contexto (class_of Profile c) ≡ false → 0x6F0 ≤ c → c ≤ 0x6F9 → ⊥
unfolding in_table
no_extended_arabic_digit = of_class is_contexto 0x6F0 0x6F9 Contexto_class (HasClasses-rows_ok Profile ((0x6F0, 0x6F9, Contexto_class) ∷ []) refl) refl

-- ---- labels

-- no code point of the label has the fact
abbrev pub Lacks : Fact → List ℕ → Type 0
Lacks fact label = list_any (has_fact fact) label ≡ false

pub each_lacks : (fact : Fact) (label : List ℕ) → Lacks fact label → All (λ c. has_fact fact c ≡ false) label
each_lacks fact [] none = All-nil (λ c. has_fact fact c ≡ false)
each_lacks fact (c ∷ label) none =
    let parts = or_parts (has_fact fact c) (list_any (has_fact fact) label) none in
    All-cons (λ c. has_fact fact c ≡ false) c label parts.0 (each_lacks fact label parts.1)

pub leading_mark-lacks : (label : List ℕ) → Lacks Mark label → leading_mark label ≡ false
leading_mark-lacks [] none = refl
leading_mark-lacks (c ∷ label) none = mark_without c (or_parts (has_fact Mark c) (list_any (has_fact Mark) label) none).0

pub contextj_ok-lacks : (properties : Properties) (label : List ℕ) → Lacks Contextj label → contextj_ok properties label ≡ true
contextj_ok-lacks properties label none =
    (contextj_ok-PassesContextJ properties label).1
    (λ k lt.
    let c = get_or label k 0 in
    let other : is_contextj (class_of Profile c) ≡ false = contextj_without c (each_lacks Contextj label none k 0 lt) in
    record {
      non_joiner = λ is. absurd (no_joiner c other (omega arith) (omega arith));
      joiner = λ is. absurd (no_joiner c other (omega arith) (omega arith));
    })

pub contexto_ok-lacks : (label : List ℕ) → Lacks Contexto label → contexto_ok label ≡ true
contexto_ok-lacks label none =
    (contexto_ok-PassesContextO label).1
    (λ k lt.
    let c = get_or label k 0 in
    let other : is_contexto (class_of Profile c) ≡ false = contexto_without c (each_lacks Contexto label none k 0 lt) in
    record {
      middle_dot = λ is. absurd (no_middle_dot c other (omega arith) (omega arith));
      keraia = λ is. absurd (no_keraia c other (omega arith) (omega arith));
      geresh = λ is. absurd (no_geresh c other (omega arith) (omega arith));
      gershayim = λ is. absurd (no_geresh c other (omega arith) (omega arith));
      katakana_middle_dot = λ is. absurd (no_katakana_middle_dot c other (omega arith) (omega arith));
      arabic_digit = λ is. let range = arabic c is in absurd (no_arabic_digit c other range.0 range.1);
      extended_arabic_digit = λ is. let range = extended c is in absurd (no_extended_arabic_digit c other range.0 range.1);
    })
  where
    arabic : (c : ℕ) → is_arabic_digit c ≡ true → (0x660 ≤ c) × (c ≤ 0x669)
    arabic c is = (grind (arith, nat_tests), grind (arith, nat_tests))

    extended : (c : ℕ) → is_extended_arabic_digit c ≡ true → (0x6F0 ≤ c) × (c ≤ 0x6F9)
    extended c is = (grind (arith, nat_tests), grind (arith, nat_tests))

pub bidi_ok-lacks : (properties : Properties) (label : List ℕ) → Lacks RightToLeft label → bidi_ok properties label ≡ true
unfolding bidi_ok
bidi_ok-lacks properties label lacks =
    let none : list_any is_rtl_class (map (bidi_class properties) label) ≡ false = list_any_none is_rtl_class (map (bidi_class properties) label) (All-map (λ class. is_rtl_class class ≡ false) (bidi_class properties) label (All-weaker (λ c. has_fact RightToLeft c ≡ false) (λ c. is_rtl_class (bidi_class properties c) ≡ false) (λ c h. rtl_without properties c h) label (each_lacks RightToLeft label lacks))) in
    rw none refl

-- the quick check of NFC passes it
checked-lacks : (last : ℕ) (label : List ℕ) → Lacks MayCompose label → checked_after false Nfc last 0 Yes label ≡ Yes
checked-lacks last [] none = checked_after-end false Nfc last 0 Yes
checked-lacks last (c ∷ label) none =
    let parts = or_parts (has_fact MayCompose c) (list_any (has_fact MayCompose) label) none in
    let kept = compose_without c parts.0 in
    let starter : canonical_combining_class c ≡ 0 = kept.1 in
    checked_after-step false Nfc last 0 0 Yes Yes c label (λ mark. absurd (omega arith)) (sym kept.0) (λ safe. absurd (let clash : false ≡ true = safe in cc))
    ∙ checked-lacks (canonical_combining_class c) label parts.1

pub nfc-lacks : (label : List ℕ) → Lacks MayCompose label → nfc label ≡ label
nfc-lacks label none = quick_check_text-Yes Nfc label (checked_after-start false Nfc label ∙ checked-lacks 0 label none)

pub is_nfc-lacks : (label : List ℕ) → Lacks MayCompose label → is_nfc label ≡ true
is_nfc-lacks label none = is_in_form_from Nfc label (nfc-lacks label none)
