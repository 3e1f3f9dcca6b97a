-- Labels of letters of Hebrew and Arabic with their marks, digits and hyphens, a letter first and no hyphen last, meet the Bidi rule.
use Rattle.std.proofs.Common.{◌≡◌, ℕ, ◌+◌, ◌-◌, ◌*◌, ◌<◌, ◌≤◌, Bool, true, false, not, nat_le, ◌&&◌, ◌||◌, ◌==◌, List, [], ◌∷◌, ◌++◌, map, fold, length, take, get_or, if◌then◌else◌, refl, ap, ap₂, ◌∙◌, append_assoc, arith}
use Rattle.std.specs.Char.{encode_utf8, is_ascii_digit}
use Rattle.std.specs.Int.{bit_at}
use Rattle.std.specs.List.{list_all}
use Rattle.std.proofs.lemmas.Bool.{and_parts}
use Rattle.std.proofs.lemmas.Bool.Decides.{nat_tests}
use Rattle.std.proofs.lemmas.List.{take_more}
use Rattle.ucd_bidi.specs.declared.BidiClass.{BidiClass}
use Rattle.ucd_bidi.specs.declared.BidiClass.TheVariants.{RightToLeft, ArabicLetter, ArabicNumber, EuropeanNumber, EuropeanSeparator, NonspacingMark}
use Rattle.ucd_bidi.specs.BidiClass.{bidi_class, bidi_class_eq}
use Rattle.ucd_bidi.specs.BidiClassRows.{bidi_class_rows}
use Rattle.ucd_table.proofs.Computing.{tables}
use Rattle.idna.specs.BidiRule.{end_class, has_class, is_rtl, is_allowed_in_both, passes_as_rtl, passes_by_first, passes_bidi_rule}
use Rattle.idn_class.specs.Tests.{all_places}
use Rattle.idn_class.proofs.TestLemmas.{all_places-at}
use Rattle.idn_text.specs.Points.{IsScalarValue}
use Rattle.idn_text.proofs.Utf8Lemmas.{encode_utf8-two}
use Rattle.idn_label.specs.inner.BidiNames.{TellsCharacters, are_character, is_rtl_letter, is_rtl_letter_or_mark}
use Rattle.idn_label.specs.inner.Octets.{is_tail}

-- what may stand last, but for marks
abbrev pub is_last : BidiClass → Bool
is_last EuropeanNumber = true
is_last k = is_rtl_letter k

-- what may stand in the label
abbrev pub is_part : BidiClass → Bool
is_part EuropeanSeparator = true
is_part EuropeanNumber = true
is_part k = is_rtl_letter_or_mark k

abbrev pub is_rtl_part : ℕ → Bool
is_rtl_part c = is_part (bidi_class c)

abbrev pub ends_well : List ℕ → Bool
ends_well label = is_last (end_class (map bidi_class label))

-- a letter is first, if there is one
abbrev pub begins_with_letter : List ℕ → Bool
begins_with_letter [] = true
begins_with_letter (c ∷ label) = is_rtl_letter (bidi_class c)

-- ---- classes

abbrev ascii_tests : ℕ → Bool
ascii_tests c = not (is_ascii_digit c) || bidi_class_eq (bidi_class c) EuropeanNumber

digits : all_places 58 ascii_tests ≡ true
unfolding tables bidi_class bidi_class_rows
digits = refl

hyphen : bidi_class 0x2D ≡ EuropeanSeparator
unfolding tables bidi_class bidi_class_rows
hyphen = refl

implied : (a b : Bool) → a ≡ true → (not a || b) ≡ true → b ≡ true
implied true b is h = h
implied false b is h = let clash : false ≡ true = is in cc

number : (k : BidiClass) → bidi_class_eq k EuropeanNumber ≡ true → is_last k ≡ true
number EuropeanNumber is = refl
number _ is = let clash : false ≡ true = is in cc

pub digit_class : (c : ℕ) → is_ascii_digit c ≡ true → is_last (bidi_class c) ≡ true
digit_class c is = number (bidi_class c) (implied (is_ascii_digit c) _ is (all_places-at 58 ascii_tests digits c (grind (arith, nat_tests))))

pub hyphen_class : is_rtl_part 0x2D ≡ true
hyphen_class = ap is_part hyphen

pub letter_is_last : (k : BidiClass) → is_rtl_letter k ≡ true → is_last k ≡ true
letter_is_last RightToLeft is = refl
letter_is_last ArabicLetter is = refl
letter_is_last _ is = let clash : false ≡ true = is in cc

pub last_is_part : (k : BidiClass) → is_last k ≡ true → is_part k ≡ true
last_is_part RightToLeft is = refl
last_is_part ArabicLetter is = refl
last_is_part EuropeanNumber is = refl
last_is_part _ is = let clash : false ≡ true = is in cc

pub mark_is_part : (k : BidiClass) → is_rtl_letter_or_mark k ≡ true → is_part k ≡ true
mark_is_part RightToLeft is = refl
mark_is_part ArabicLetter is = refl
mark_is_part NonspacingMark is = refl
mark_is_part _ is = let clash : false ≡ true = is in cc

-- ---- what the rule asks of it

allowed : (k : BidiClass) → is_part k ≡ true → (is_rtl k || is_allowed_in_both k) ≡ true
allowed RightToLeft is = refl
allowed ArabicLetter is = refl
allowed NonspacingMark is = refl
allowed EuropeanNumber is = refl
allowed EuropeanSeparator is = refl
allowed _ is = let clash : false ≡ true = is in cc

ends : (k : BidiClass) → is_last k ≡ true → (is_rtl k || bidi_class_eq k EuropeanNumber) ≡ true
ends RightToLeft is = refl
ends ArabicLetter is = refl
ends EuropeanNumber is = refl
ends _ is = let clash : false ≡ true = is in cc

no_number : (k : BidiClass) → is_part k ≡ true → bidi_class_eq k ArabicNumber ≡ false
no_number RightToLeft is = refl
no_number ArabicLetter is = refl
no_number NonspacingMark is = refl
no_number EuropeanNumber is = refl
no_number EuropeanSeparator is = refl
no_number _ is = let clash : false ≡ true = is in cc

by_first : (k : BidiClass) (classes : List BidiClass) → is_rtl_letter k ≡ true → passes_as_rtl classes ≡ true → passes_by_first k classes ≡ true
by_first RightToLeft classes is passes = passes
by_first ArabicLetter classes is passes = passes
by_first _ classes is passes = let clash : false ≡ true = is in cc

all_allowed : (label : List ℕ) → list_all is_rtl_part label ≡ true → list_all (λ k. is_rtl k || is_allowed_in_both k) (map bidi_class label) ≡ true
all_allowed [] parts = refl
all_allowed (c ∷ label) parts =
    let both = and_parts (is_rtl_part c) (list_all is_rtl_part label) parts in
    ap₂ (λ a b. a && b) (allowed (bidi_class c) both.0) (all_allowed label both.1)

no_numbers : (label : List ℕ) → list_all is_rtl_part label ≡ true → has_class ArabicNumber (map bidi_class label) ≡ false
no_numbers [] parts = refl
no_numbers (c ∷ label) parts =
    let both = and_parts (is_rtl_part c) (list_all is_rtl_part label) parts in
    ap₂ (λ a b. a || b) (no_number (bidi_class c) both.0) (no_numbers label both.1)

all_three : (holds ends european arabic : Bool) → holds ≡ true → ends ≡ true → arabic ≡ false → (holds && ends && not (european && arabic)) ≡ true
all_three true true true false h e n = refl
all_three true true false false h e n = refl
all_three false ends european arabic h e n = let clash : false ≡ true = h in cc
all_three true false european arabic h e n = let clash : false ≡ true = e in cc
all_three true true european true h e n = let clash : true ≡ false = n in cc

begun : (label : List ℕ) → begins_with_letter label ≡ true → passes_as_rtl (map bidi_class label) ≡ true → passes_bidi_rule label ≡ true
unfolding passes_bidi_rule
begun [] letter passes = refl
begun (c ∷ label) letter passes = by_first (bidi_class c) (map bidi_class (c ∷ label)) letter passes

pub parts-pass : (label : List ℕ) → begins_with_letter label ≡ true → list_all is_rtl_part label ≡ true → ends_well label ≡ true → passes_bidi_rule label ≡ true
parts-pass label begins parts well =
    begun label begins (all_three _ _ _ _ (all_allowed label parts) (ends _ well) (no_numbers label parts))

-- ---- more of them

pub begins-more : (points : List ℕ) (c : ℕ) → begins_with_letter points ≡ true → (points ≡ [] → is_rtl_letter (bidi_class c) ≡ true) → begins_with_letter (points ++ c ∷ []) ≡ true
begins-more [] c begins first = first refl
begins-more (d ∷ points) c begins first = begins

-- the last class, with one more
abbrev after : BidiClass → BidiClass → BidiClass
after last k = if bidi_class_eq k NonspacingMark then last else k

after-last : (last k : BidiClass) → is_last k ≡ true → is_last (after last k) ≡ true
after-last last RightToLeft is = refl
after-last last ArabicLetter is = refl
after-last last EuropeanNumber is = refl
after-last last _ is = let clash : false ≡ true = is in cc

after-mark : (last k : BidiClass) → is_last last ≡ true → is_rtl_letter_or_mark k ≡ true → is_last (after last k) ≡ true
after-mark last RightToLeft well is = refl
after-mark last ArabicLetter well is = refl
after-mark last NonspacingMark well is = well
after-mark last _ well is = let clash : false ≡ true = is in cc

ended : (points : List ℕ) (c : ℕ) (last : BidiClass) → fold after last (map bidi_class (points ++ c ∷ [])) ≡ after (fold after last (map bidi_class points)) (bidi_class c)
ended [] c last = refl
ended (d ∷ points) c last = ended points c (after last (bidi_class d))

pub ends-more : (points : List ℕ) (c : ℕ) → is_last (bidi_class c) ≡ true → ends_well (points ++ c ∷ []) ≡ true
ends-more points c is = ap is_last (ended points c NonspacingMark) ∙ after-last _ (bidi_class c) is

pub ends-mark : (points : List ℕ) (c : ℕ) → ends_well points ≡ true → is_rtl_letter_or_mark (bidi_class c) ≡ true → ends_well (points ++ c ∷ []) ≡ true
ends-mark points c well is = ap is_last (ended points c NonspacingMark) ∙ after-mark _ (bidi_class c) well is

-- ---- the character of two octets

pub record IsCharacterOf (is_such : BidiClass → Bool) (first second c : ℕ) : Type 0 where
  pub such : is_such (bidi_class c) ≡ true
  pub scalar_value : IsScalarValue c
  pub encoded : encode_utf8 c ≡ first ∷ second ∷ []

last_of : (a b c d : Bool) → (a && b && c && d) ≡ true → d ≡ true
last_of true true true d all = all
last_of true true false d all = let clash : false ≡ true = all in cc
last_of true false c d all = let clash : false ≡ true = all in cc
last_of false b c d all = let clash : false ≡ true = all in cc

pub character_of : (is_such : BidiClass → Bool) (first second : ℕ) → are_character is_such first second ≡ true → (c : ℕ) × IsCharacterOf is_such first second c
character_of is_such first second is =
    let c = (first - 0xC0) * 0x40 + (second - 0x80) in
    let lead : 0xC2 ≤ first = grind (arith, nat_tests) in
    let leads : first ≤ 0xDF = grind (arith, nat_tests) in
    let low : 0x80 ≤ second = grind (arith, nat_tests) in
    let high : second ≤ 0xBF = grind (arith, nat_tests) in
    let few : c < 0x800 = omega arith in
    let many : 0x80 ≤ c = omega arith in (
      c,
      record {
        such = last_of (nat_le 0xC2 first) (nat_le first 0xDF) (is_tail second) (is_such (bidi_class c)) is;
        scalar_value = grind (arith, nat_tests);
        encoded = encode_utf8-two c (omega arith) (omega arith) ∙ ap₂ (λ a b. a ∷ b ∷ []) (omega arith) (omega arith);
      },
    )

-- two octets more
pub two_more : (text : List ℕ) (at first second : ℕ) → at + 1 < length text → get_or text at 0 ≡ first → get_or text (at + 1) 0 ≡ second → take (at + 2) text ≡ take at text ++ first ∷ second ∷ []
two_more text at first second within one two =
    ap (λ n. take n text) (let e : at + 2 ≡ at + 1 + 1 = omega arith in e)
    ∙ take_more text (at + 1) 0 within
    ∙ ap₂ (λ front c. front ++ c ∷ []) (take_more text at 0 (omega arith) ∙ ap (λ c. take at text ++ c ∷ []) one) two
    ∙ append_assoc (take at text) (first ∷ []) (second ∷ [])

-- ---- a bit for each character that begins with an octet

abbrev bit_test : (BidiClass → Bool) → ℕ → ℕ → ℕ → Bool
bit_test is_such first bits k = not (bit_at bits k == 1) || are_character is_such first (0x80 + k)

pub told : (is_such : BidiClass → Bool) (first bits : ℕ) → all_places 64 (bit_test is_such first bits) ≡ true → TellsCharacters is_such first bits
told is_such first bits computed second tail bit =
    let k = second - 0x80 in
    let low : 0x80 ≤ second = grind (arith, nat_tests) in
    let few : k < 64 = grind (arith, nat_tests) in
    let here = all_places-at 64 (bit_test is_such first bits) computed k few in
    let set : (bit_at bits k == 1) ≡ true = grind (arith, nat_tests) in
    ap (are_character is_such first) (let e : second ≡ 0x80 + k = omega arith in e) ∙ implied (bit_at bits k == 1) _ set here
