-- The lists of the profile: which code points have each class and type.
use Rattle.std.proofs.Common.{◌≡◌, ℕ, ◌≤◌, ◌⊎◌, Bool, true, false, not, ◌&&◌, ◌||◌, if◌then◌else◌, List, [], ◌∷◌, map, nat_le, refl, sym, ap, subst, ◌∙◌, inl, inr, leb-true, le-leb, arith}
use Rattle.std.specs.List.{list_all}
use Rattle.std.proofs.lemmas.Bool.{and_parts, and_from, or_cases, or_left, or_right, false_from_ne_true}
use Rattle.unicode.specs.GeneralCategory.{general_category}
use Rattle.unicode.proofs.GeneralCategoryLemmas.{general_category_stepped}
use Rattle.ucd_category.specs.declared.GeneralCategory.{GeneralCategory}
use Rattle.ucd_category.specs.declared.GeneralCategory.TheVariants.{NonspacingMark, EnclosingMark}
use Rattle.ucd_table.specs.Rows.{Range, in_ranges}
use Rattle.ucd_table.proofs.Computing.{tables}
use Rattle.ucd_table.proofs.RangedFacts.{points_ok}
use Rattle.ucd_table.proofs.Stepped.{of_ranges, zip_stepped}
use Rattle.idn_class.specs.declared.bidi_class.BidiClass.{BidiClass}
use Rattle.idn_class.specs.declared.bidi_class.BidiClass.TheVariants.{L, R, AL, AN, EN, ES, ET, CS, ON, BN, NSM}
use Rattle.idn_class.specs.declared.joining_type.JoiningType.{JoiningType}
use Rattle.idn_class.specs.declared.joining_type.JoiningType.TheVariants.{Right, Dual, Left, Transparent, NonJoining}
use Rattle.idn_class.specs.BidiClass.{profile_bidi_class, is_boundary_neutral, is_european_separator, is_european_number, is_arabic_number, is_nonspacing, is_nonspacing_or_enclosing, is_right_to_left, is_arabic_letter}
use Rattle.idn_class.specs.JoiningType.{is_profile_virama, is_right_joining, is_dual_joining, is_transparent, is_nonspacing_mark, profile_joining_type, right_joining, dual_joining}
use Rattle.idn_class.specs.Profile.{IsIn, IsNonspacing, IsOneOf, arabic_blocks, arabic_digits, european_digits, right_to_left_blocks, BidiClassesOfTheProfile, JoiningTypesOfTheProfile, ViramasOfTheProfile}
use Rattle.idn_class.proofs.CategoryLemmas.{none_fails}

-- ---- ranges

in_ranges-gives : (ranges : List Range) (c : ℕ) → in_ranges ranges c ≡ true → IsIn ranges c
unfolding in_ranges
in_ranges-gives [] c h = let clash : false ≡ true = h in cc
in_ranges-gives (r ∷ rs) c h =
    elim (or_cases _ (in_ranges rs c) h) [
      | inl here ↦ let parts = and_parts _ _ here in inl (leb-true _ _ parts.0, leb-true _ _ parts.1)
      | inr later ↦ inr (in_ranges-gives rs c later)
    ]

in_ranges-from : (ranges : List Range) (c : ℕ) → IsIn ranges c → in_ranges ranges c ≡ true
unfolding in_ranges
in_ranges-from [] c h = absurd h
in_ranges-from (r ∷ rs) c h =
    elim h [
      | inl here ↦ or_left _ (in_ranges rs c) (and_from _ _ (le-leb _ _ here.0) (le-leb _ _ here.1))
      | inr later ↦ or_right _ _ (in_ranges-from rs c later)
    ]

in_ranges-out : (ranges : List Range) (c : ℕ) → ¬ IsIn ranges c → in_ranges ranges c ≡ false
in_ranges-out ranges c out = false_from_ne_true _ (λ inside. out (in_ranges-gives ranges c inside))

-- ---- marks

is_nonspacing_or_enclosing-gives : (v : GeneralCategory) → is_nonspacing_or_enclosing v ≡ true → (v ≡ NonspacingMark) ⊎ (v ≡ EnclosingMark)
is_nonspacing_or_enclosing-gives NonspacingMark h = inl refl
is_nonspacing_or_enclosing-gives EnclosingMark h = inr refl
is_nonspacing_or_enclosing-gives _ h = let clash : false ≡ true = h in cc

is_nonspacing-gives : (c : ℕ) → is_nonspacing c ≡ true → IsNonspacing c
unfolding is_nonspacing
is_nonspacing-gives c h = is_nonspacing_or_enclosing-gives (general_category c) h

is_nonspacing-from : (c : ℕ) → IsNonspacing c → is_nonspacing c ≡ true
unfolding is_nonspacing
is_nonspacing-from c h = elim h [ inl mark ↦ ap is_nonspacing_or_enclosing mark | inr mark ↦ ap is_nonspacing_or_enclosing mark ]

is_nonspacing-out : (c : ℕ) → ¬ IsNonspacing c → is_nonspacing c ≡ false
is_nonspacing-out c out = false_from_ne_true _ (λ inside. out (is_nonspacing-gives c inside))

-- the hyphen, digits and joiners, which are no marks
abbrev no_marks : List Range
no_marks = (0x2D, 0x2D) ∷ (0x30, 0x39) ∷ (0x660, 0x669) ∷ (0x6F0, 0x6F9) ∷ (0x200C, 0x200D) ∷ []

abbrev unmarked : GeneralCategory → Bool → Bool
unmarked v inside = not inside || not (is_nonspacing_or_enclosing v)

no_marks-unmarked : (c : ℕ) → unmarked (general_category c) (in_ranges no_marks c) ≡ true
unfolding tables points_ok general_category_stepped
no_marks-unmarked = none_fails _ (zip_stepped unmarked general_category (in_ranges no_marks) general_category_stepped (of_ranges no_marks refl)) refl

-- a mark is none of these
no_mark : (c : ℕ) → is_nonspacing c ≡ true → in_ranges no_marks c ≡ false
unfolding is_nonspacing
no_mark c mark =
    false_from_ne_true _ (λ inside. let clash : false ≡ true = (rw (inside, mark) at (no_marks-unmarked c)) in cc)

-- ---- the chain of tests

chain : (bn es en an nsm r al : Bool) → BidiClass
chain true es en an nsm r al = BN
chain false true en an nsm r al = ES
chain false false true an nsm r al = EN
chain false false false true nsm r al = AN
chain false false false false true r al = NSM
chain false false false false false true al = R
chain false false false false false false true = AL
chain false false false false false false false = L

chained : (bn es en an nsm r al : Bool) →
    (if bn then BN else (if es then ES else (if en then EN else (if an then AN else (if nsm then NSM else (if r then R else (if al then AL else L)))))))
    ≡ chain bn es en an nsm r al
unfolding chain
chained true es en an nsm r al = refl
chained false true en an nsm r al = refl
chained false false true an nsm r al = refl
chained false false false true nsm r al = refl
chained false false false false true r al = refl
chained false false false false false true al = refl
chained false false false false false false true = refl
chained false false false false false false false = refl

-- what the tests say of a code point of this class
abbrev Tested : BidiClass → (bn es en an nsm r al : Bool) → Type 0
Tested BN bn es en an nsm r al = bn ≡ true
Tested ES bn es en an nsm r al = es ≡ true
Tested EN bn es en an nsm r al = en ≡ true
Tested AN bn es en an nsm r al = an ≡ true
Tested NSM bn es en an nsm r al = nsm ≡ true
Tested R bn es en an nsm r al = (r ≡ true) × (nsm ≡ false)
Tested AL bn es en an nsm r al = (al ≡ true) × (nsm ≡ false) × (an ≡ false) × (en ≡ false)
Tested L bn es en an nsm r al = Unit {0}
Tested _ bn es en an nsm r al = ⊥

chain-Tested : (bn es en an nsm r al : Bool) → Tested (chain bn es en an nsm r al) bn es en an nsm r al
unfolding chain
chain-Tested true es en an nsm r al = refl
chain-Tested false true en an nsm r al = refl
chain-Tested false false true an nsm r al = refl
chain-Tested false false false true nsm r al = refl
chain-Tested false false false false true r al = refl
chain-Tested false false false false false true al = (refl, refl)
chain-Tested false false false false false false true = (refl, refl, refl, refl)
chain-Tested false false false false false false false = tt

abbrev tested_at : BidiClass → ℕ → Type 0
tested_at class c =
    Tested class (is_boundary_neutral c) (is_european_separator c) (is_european_number c) (is_arabic_number c) (is_nonspacing c)
    (is_right_to_left c) (is_arabic_letter c)

profile_bidi_class-chain : (c : ℕ) → profile_bidi_class c
    ≡ chain (is_boundary_neutral c) (is_european_separator c) (is_european_number c) (is_arabic_number c) (is_nonspacing c)
    (is_right_to_left c) (is_arabic_letter c)
unfolding profile_bidi_class
profile_bidi_class-chain c = chained _ _ _ _ _ _ _

profile_bidi_class-tested : (c : ℕ) (class : BidiClass) → profile_bidi_class c ≡ class → tested_at class c
profile_bidi_class-tested c class same =
    subst (λ (v : BidiClass). tested_at v c) (sym (profile_bidi_class-chain c) ∙ same) (chain-Tested _ _ _ _ _ _ _)

-- from the tests to the class
chain-BN : (bn es en an nsm r al : Bool) → bn ≡ true → chain bn es en an nsm r al ≡ BN
unfolding chain
chain-BN bn es en an nsm r al h = rw h

chain-ES : (bn es en an nsm r al : Bool) → bn ≡ false → es ≡ true → chain bn es en an nsm r al ≡ ES
unfolding chain
chain-ES bn es en an nsm r al h1 h2 = rw (h1, h2)

chain-EN : (bn es en an nsm r al : Bool) → bn ≡ false → es ≡ false → en ≡ true → chain bn es en an nsm r al ≡ EN
unfolding chain
chain-EN bn es en an nsm r al h1 h2 h3 = rw (h1, h2, h3)

chain-AN : (bn es en an nsm r al : Bool) → bn ≡ false → es ≡ false → en ≡ false → an ≡ true → chain bn es en an nsm r al ≡ AN
unfolding chain
chain-AN bn es en an nsm r al h1 h2 h3 h4 = rw (h1, h2, h3, h4)

chain-NSM : (bn es en an nsm r al : Bool) → bn ≡ false → es ≡ false → en ≡ false → an ≡ false → nsm ≡ true → chain bn es en an nsm r al ≡ NSM
unfolding chain
chain-NSM bn es en an nsm r al h1 h2 h3 h4 h5 = rw (h1, h2, h3, h4, h5)

chain-R : (bn es en an nsm r al : Bool) → bn ≡ false → es ≡ false → en ≡ false → an ≡ false → nsm ≡ false → r ≡ true → chain bn es en an nsm r al ≡ R
unfolding chain
chain-R bn es en an nsm r al h1 h2 h3 h4 h5 h6 = rw (h1, h2, h3, h4, h5, h6)

chain-AL : (bn es en an nsm r al : Bool) → bn ≡ false → es ≡ false → en ≡ false → an ≡ false → nsm ≡ false → r ≡ false → al ≡ true → chain bn es en an nsm r al ≡ AL
unfolding chain
chain-AL bn es en an nsm r al h1 h2 h3 h4 h5 h6 h7 = rw (h1, h2, h3, h4, h5, h6, h7)

-- ---- the tests by their ranges

abbrev joiners : List Range
joiners = (0x200C, 0x200D) ∷ []

abbrev hyphen : List Range
hyphen = (0x2D, 0x2D) ∷ []

neutral : (c : ℕ) → is_boundary_neutral c ≡ in_ranges joiners c
unfolding is_boundary_neutral
neutral c = refl

separator : (c : ℕ) → is_european_separator c ≡ in_ranges hyphen c
unfolding is_european_separator
separator c = refl

european : (c : ℕ) → is_european_number c ≡ in_ranges european_digits c
unfolding is_european_number
european c = refl

arabic : (c : ℕ) → is_arabic_number c ≡ in_ranges arabic_digits c
unfolding is_arabic_number
arabic c = refl

right : (c : ℕ) → is_right_to_left c ≡ in_ranges right_to_left_blocks c
unfolding is_right_to_left
right c = refl

letter : (c : ℕ) → is_arabic_letter c ≡ in_ranges arabic_blocks c
unfolding is_arabic_letter
letter c = refl

-- ---- the classes

-- a mark is in none of the ranges that the chain asks first
no_mark_in : (c : ℕ) → is_nonspacing c ≡ true → ¬ IsIn no_marks c
no_mark_in c mark inside = let clash : true ≡ false = sym (in_ranges-from no_marks c inside) ∙ no_mark c mark in cc

not_neutral : (c : ℕ) → ¬ IsIn joiners c → is_boundary_neutral c ≡ false
not_neutral c out = neutral c ∙ in_ranges-out joiners c out

not_hyphen : (c : ℕ) → ¬ IsIn hyphen c → is_european_separator c ≡ false
not_hyphen c out = separator c ∙ in_ranges-out hyphen c out

not_european : (c : ℕ) → ¬ IsIn european_digits c → is_european_number c ≡ false
not_european c out = european c ∙ in_ranges-out european_digits c out

not_arabic : (c : ℕ) → ¬ IsIn arabic_digits c → is_arabic_number c ≡ false
not_arabic c out = arabic c ∙ in_ranges-out arabic_digits c out

right_to_left-given : (c : ℕ) → profile_bidi_class c ≡ R → IsIn right_to_left_blocks c × ¬ IsNonspacing c
right_to_left-given c same =
    let tested = profile_bidi_class-tested c R same in (
      in_ranges-gives right_to_left_blocks c (sym (right c) ∙ tested.0),
      λ mark. let clash : true ≡ false = sym (is_nonspacing-from c mark) ∙ tested.1 in cc,
    )

right_to_left-from : (c : ℕ) → IsIn right_to_left_blocks c → ¬ IsNonspacing c → profile_bidi_class c ≡ R
right_to_left-from c inside unmarked =
    profile_bidi_class-chain c ∙ chain-R _ _ _ _ _ _ _
    (not_neutral c (λ h. grind arith)) (not_hyphen c (λ h. grind arith)) (not_european c (λ h. grind arith))
    (not_arabic c (λ h. grind arith)) (is_nonspacing-out c unmarked) (right c ∙ in_ranges-from right_to_left_blocks c inside)

arabic_letter-given : (c : ℕ) → profile_bidi_class c ≡ AL →
    IsIn arabic_blocks c × (¬ IsNonspacing c) × (¬ IsIn arabic_digits c) × (¬ IsIn european_digits c)
arabic_letter-given c same =
    let tested = profile_bidi_class-tested c AL same in (
      in_ranges-gives arabic_blocks c (sym (letter c) ∙ tested.0),
      (λ mark. let clash : true ≡ false = sym (is_nonspacing-from c mark) ∙ tested.1 in cc),
      (λ inside. let clash : true ≡ false = sym (in_ranges-from arabic_digits c inside) ∙ sym (arabic c) ∙ tested.2 in cc),
      λ inside. let clash : true ≡ false = sym (in_ranges-from european_digits c inside) ∙ sym (european c) ∙ tested.3 in cc,
    )

arabic_letter-from : (c : ℕ) → IsIn arabic_blocks c → ¬ IsNonspacing c → ¬ IsIn arabic_digits c → ¬ IsIn european_digits c → profile_bidi_class c ≡ AL
arabic_letter-from c inside unmarked not_an not_en =
    profile_bidi_class-chain c ∙ chain-AL _ _ _ _ _ _ _
    (not_neutral c (λ h. grind arith)) (not_hyphen c (λ h. grind arith)) (not_european c not_en) (not_arabic c not_an)
    (is_nonspacing-out c unmarked) (right c ∙ in_ranges-out right_to_left_blocks c (λ h. grind arith))
    (letter c ∙ in_ranges-from arabic_blocks c inside)

arabic_number-given : (c : ℕ) → profile_bidi_class c ≡ AN → IsIn arabic_digits c
arabic_number-given c same = in_ranges-gives arabic_digits c (sym (arabic c) ∙ profile_bidi_class-tested c AN same)

arabic_number-from : (c : ℕ) → IsIn arabic_digits c → profile_bidi_class c ≡ AN
arabic_number-from c inside =
    profile_bidi_class-chain c ∙ chain-AN _ _ _ _ _ _ _
    (not_neutral c (λ h. grind arith)) (not_hyphen c (λ h. grind arith)) (not_european c (λ h. grind arith))
    (arabic c ∙ in_ranges-from arabic_digits c inside)

european_number-given : (c : ℕ) → profile_bidi_class c ≡ EN → IsIn european_digits c
european_number-given c same = in_ranges-gives european_digits c (sym (european c) ∙ profile_bidi_class-tested c EN same)

european_number-from : (c : ℕ) → IsIn european_digits c → profile_bidi_class c ≡ EN
european_number-from c inside =
    profile_bidi_class-chain c ∙ chain-EN _ _ _ _ _ _ _
    (not_neutral c (λ h. grind arith)) (not_hyphen c (λ h. grind arith)) (european c ∙ in_ranges-from european_digits c inside)

european_separator-given : (c : ℕ) → profile_bidi_class c ≡ ES → c ≡ 0x2D
european_separator-given c same =
    let inside = in_ranges-gives hyphen c (sym (separator c) ∙ profile_bidi_class-tested c ES same) in grind arith

european_separator-from : (c : ℕ) → c ≡ 0x2D → profile_bidi_class c ≡ ES
european_separator-from c same =
    profile_bidi_class-chain c ∙ chain-ES _ _ _ _ _ _ _
    (not_neutral c (λ h. grind arith)) (separator c ∙ in_ranges-from hyphen c (inl (omega arith, omega arith)))

boundary_neutral-given : (c : ℕ) → profile_bidi_class c ≡ BN → IsIn joiners c
boundary_neutral-given c same = in_ranges-gives joiners c (sym (neutral c) ∙ profile_bidi_class-tested c BN same)

boundary_neutral-from : (c : ℕ) → IsIn joiners c → profile_bidi_class c ≡ BN
boundary_neutral-from c inside =
    profile_bidi_class-chain c ∙ chain-BN _ _ _ _ _ _ _ (neutral c ∙ in_ranges-from joiners c inside)

nonspacing-given : (c : ℕ) → profile_bidi_class c ≡ NSM → IsNonspacing c
nonspacing-given c same = is_nonspacing-gives c (profile_bidi_class-tested c NSM same)

nonspacing-from : (c : ℕ) → IsNonspacing c → profile_bidi_class c ≡ NSM
nonspacing-from c mark =
    let is_mark = is_nonspacing-from c mark in
    let out = no_mark_in c is_mark in
    profile_bidi_class-chain c ∙ chain-NSM _ _ _ _ _ _ _
    (not_neutral c (λ h. out (grind arith))) (not_hyphen c (λ h. out (grind arith)))
    (not_european c (λ h. out (grind arith))) (not_arabic c (λ h. out (grind arith))) is_mark

pub bidi_classes : BidiClassesOfTheProfile
bidi_classes = record {
  right_to_left = λ c. (right_to_left-given c, λ both. right_to_left-from c both.0 both.1);
  arabic_letter = λ c. (arabic_letter-given c, λ all. arabic_letter-from c all.0 all.1 all.2 all.3);
  arabic_number = λ c. (arabic_number-given c, arabic_number-from c);
  european_number = λ c. (european_number-given c, european_number-from c);
  european_separator = λ c. (european_separator-given c, european_separator-from c);
  boundary_neutral = λ c. (boundary_neutral-given c, boundary_neutral-from c);
  nonspacing = λ c. (nonspacing-given c, nonspacing-from c);
  no_other = λ c. ((λ same. profile_bidi_class-tested c ET same), (λ same. profile_bidi_class-tested c CS same), λ same. profile_bidi_class-tested c ON same);
}

-- ---- joining types

abbrev arabic_block : List Range
arabic_block = (0x600, 0x6FF) ∷ []

chain_of_types : (r d t : Bool) → JoiningType
chain_of_types true d t = Right
chain_of_types false true t = Dual
chain_of_types false false true = Transparent
chain_of_types false false false = NonJoining

chained_types : (r d t : Bool) → (if r then Right else (if d then Dual else (if t then Transparent else NonJoining))) ≡ chain_of_types r d t
unfolding chain_of_types
chained_types true d t = refl
chained_types false true t = refl
chained_types false false true = refl
chained_types false false false = refl

profile_joining_type-chain : (c : ℕ) → profile_joining_type c ≡ chain_of_types (is_right_joining c) (is_dual_joining c) (is_transparent c)
unfolding profile_joining_type
profile_joining_type-chain c = chained_types _ _ _

abbrev TestedType : JoiningType → (r d t : Bool) → Type 0
TestedType Right r d t = r ≡ true
TestedType Dual r d t = d ≡ true
TestedType Transparent r d t = t ≡ true
TestedType NonJoining r d t = Unit {0}
TestedType Left r d t = ⊥

chain-TestedType : (r d t : Bool) → TestedType (chain_of_types r d t) r d t
unfolding chain_of_types
chain-TestedType true d t = refl
chain-TestedType false true t = refl
chain-TestedType false false true = refl
chain-TestedType false false false = tt

profile_joining_type-tested : (c : ℕ) (type : JoiningType) → profile_joining_type c ≡ type → TestedType type (is_right_joining c) (is_dual_joining c) (is_transparent c)
profile_joining_type-tested c type same =
    subst (λ (v : JoiningType). TestedType v (is_right_joining c) (is_dual_joining c) (is_transparent c))
    (sym (profile_joining_type-chain c) ∙ same) (chain-TestedType _ _ _)

-- what is in ranges that lie between two bounds lies between them
between : (ranges : List Range) (low high c : ℕ) → list_all (λ r. nat_le low r.0 && nat_le r.1 high) ranges ≡ true →
    IsIn ranges c → IsIn ((low, high) ∷ []) c
between [] low high c within inside = absurd inside
between (r ∷ rs) low high c within inside =
    let parts : ((nat_le low r.0 && nat_le r.1 high) ≡ true) × (list_all (λ q. nat_le low q.0 && nat_le q.1 high) rs ≡ true) = and_parts _ _ within in
    let lower : low ≤ r.0 = leb-true low r.0 (and_parts (nat_le low r.0) (nat_le r.1 high) parts.0).0 in
    let upper : r.1 ≤ high = leb-true r.1 high (and_parts (nat_le low r.0) (nat_le r.1 high) parts.0).1 in
    elim inside [
      | inl here ↦ let from : r.0 ≤ c = here.0 in let to : c ≤ r.1 = here.1 in inl (omega arith, omega arith)
      | inr later ↦ between rs low high c parts.1 later
    ]

right-in_block : (c : ℕ) → is_right_joining c ≡ true → IsIn arabic_block c
unfolding is_right_joining
right-in_block c h = between right_joining 0x600 0x6FF c refl (in_ranges-gives right_joining c h)

dual-in_block : (c : ℕ) → is_dual_joining c ≡ true → IsIn arabic_block c
unfolding is_dual_joining
dual-in_block c h = between dual_joining 0x600 0x6FF c refl (in_ranges-gives dual_joining c h)

is_nonspacing_mark-gives : (v : GeneralCategory) → is_nonspacing_mark v ≡ true → v ≡ NonspacingMark
is_nonspacing_mark-gives NonspacingMark h = refl
is_nonspacing_mark-gives _ h = let clash : false ≡ true = h in cc

is_transparent-gives : (c : ℕ) → is_transparent c ≡ true → general_category c ≡ NonspacingMark
unfolding is_transparent
is_transparent-gives c h = is_nonspacing_mark-gives (general_category c) h

-- no letter that joins is a nonspacing mark
abbrev unmarked_joining : GeneralCategory → Bool → Bool
unmarked_joining v joins = not joins || not (is_nonspacing_or_enclosing v)

right-unmarked : (c : ℕ) → unmarked_joining (general_category c) (in_ranges right_joining c) ≡ true
unfolding tables points_ok general_category_stepped
right-unmarked = none_fails _ (zip_stepped unmarked_joining general_category (in_ranges right_joining) general_category_stepped (of_ranges right_joining refl)) refl

dual-unmarked : (c : ℕ) → unmarked_joining (general_category c) (in_ranges dual_joining c) ≡ true
unfolding tables points_ok general_category_stepped
dual-unmarked = none_fails _ (zip_stepped unmarked_joining general_category (in_ranges dual_joining) general_category_stepped (of_ranges dual_joining refl)) refl

not_joining : (v : GeneralCategory) (joins : Bool) → v ≡ NonspacingMark → unmarked_joining v joins ≡ true → joins ≡ false
not_joining v true mark h = let clash : false ≡ true = ap (λ w. unmarked_joining w true) (sym mark) ∙ h in cc
not_joining v false mark h = refl

transparent-from : (c : ℕ) → general_category c ≡ NonspacingMark → profile_joining_type c ≡ Transparent
unfolding chain_of_types is_transparent is_right_joining is_dual_joining
transparent-from c mark =
    profile_joining_type-chain c
    ∙ rw (not_joining _ (in_ranges right_joining c) mark (right-unmarked c), not_joining _ (in_ranges dual_joining c) mark (dual-unmarked c), mark)

pub joining_types : JoiningTypesOfTheProfile
joining_types = record {
  right = λ c same. right-in_block c (profile_joining_type-tested c Right same);
  dual = λ c same. dual-in_block c (profile_joining_type-tested c Dual same);
  transparent = λ c. ((λ same. is_transparent-gives c (profile_joining_type-tested c Transparent same)), transparent-from c);
  left = λ c same. profile_joining_type-tested c Left same;
}

-- ---- viramas

-- ranges of one code point each
abbrev singles : List ℕ → List Range
singles points = map (λ point. (point, point)) points

single-gives : (points : List ℕ) (c : ℕ) → IsIn (singles points) c → IsOneOf points c
single-gives [] c h = h
single-gives (point ∷ points) c h =
    elim h [ inl here ↦ let from = here.0 in let to = here.1 in inl (omega arith) | inr later ↦ inr (single-gives points c later) ]

single-from : (points : List ℕ) (c : ℕ) → IsOneOf points c → IsIn (singles points) c
single-from [] c h = h
single-from (point ∷ points) c h =
    elim h [ inl here ↦ inl (omega arith, omega arith) | inr later ↦ inr (single-from points c later) ]

abbrev ten : List ℕ
ten = 0x94D ∷ 0x9CD ∷ 0xA4D ∷ 0xACD ∷ 0xB4D ∷ 0xBCD ∷ 0xC4D ∷ 0xCCD ∷ 0xD4D ∷ 0xDCA ∷ []

is_profile_virama-singles : (c : ℕ) → is_profile_virama c ≡ in_ranges (singles ten) c
unfolding is_profile_virama
is_profile_virama-singles c = refl

pub viramas : ViramasOfTheProfile
viramas c = (
  (λ virama. single-gives ten c (in_ranges-gives (singles ten) c (sym (is_profile_virama-singles c) ∙ virama))),
  λ one. is_profile_virama-singles c ∙ in_ranges-from (singles ten) c (single-from ten c one),
)
