-- Labels of lower-case letters, digits and hyphens of ASCII, a letter first and no hyphen last, meet the Bidi rule.
use Rattle.std.proofs.Common.{◌≡◌, ◌≢◌, ℕ, ◌-◌, ◌<◌, ◌≤◌, Bool, true, false, not, ◌&&◌, ◌||◌, ◌==◌, All, List, [], ◌∷◌, map, fold, chars, get_or, length, if◌then◌else◌, refl, ap, ap₂, ◌∙◌, arith}
use Rattle.std.specs.List.{list_all}
use Rattle.std.proofs.lemmas.Bool.{and_parts}
use Rattle.std.proofs.lemmas.Bool.Decides.{nat_tests}
use Rattle.std.proofs.lemmas.List.Elements.{All-weaker}
use Rattle.std.proofs.lemmas.Str.Ascii.{IsAscii-from_all}
use Rattle.ucd_bidi.specs.declared.BidiClass.{BidiClass}
use Rattle.ucd_bidi.specs.declared.BidiClass.TheVariants.{LeftToRight, EuropeanNumber, EuropeanSeparator, NonspacingMark}
use Rattle.ucd_bidi.specs.BidiClass.{bidi_class, bidi_class_eq}
use Rattle.ucd_bidi.specs.BidiClassRows.{bidi_class_rows}
use Rattle.ucd_table.proofs.Computing.{tables}
use Rattle.idna.specs.BidiRule.{is_allowed_in_both, passes_by_first, passes_bidi_rule}
use Rattle.idna.specs.Labels.{is_full_stop}
use Rattle.idn_class.specs.Tests.{all_places}
use Rattle.idn_class.proofs.TestLemmas.{all_places-at}
use Rattle.std.proofs.lemmas.List.Sums.{AllPass-from_list_all}
use Rattle.idn_text.proofs.Utf8Lemmas.{ascii_points, points_from_utf8}
use Rattle.idn_label.specs.inner.BidiNames.{is_lowercase}
use Rattle.idn_label.specs.Steps.{is_ldh_point}

-- L, L or EN, and these or ES
abbrev is_left : BidiClass → Bool
is_left LeftToRight = true
is_left _ = false

abbrev is_last : BidiClass → Bool
is_last LeftToRight = true
is_last EuropeanNumber = true
is_last _ = false

abbrev is_ldh : BidiClass → Bool
is_ldh LeftToRight = true
is_ldh EuropeanNumber = true
is_ldh EuropeanSeparator = true
is_ldh _ = false

-- one that may stand last
abbrev is_end : ℕ → Bool
is_end c = is_ldh_point c && not (c == 0x2D)

abbrev class_tests : ℕ → Bool
class_tests c = (not (is_lowercase c) || is_left (bidi_class c)) && (not (is_end c) || is_last (bidi_class c)) && (not (is_ldh_point c) || is_ldh (bidi_class c))

classes : all_places 128 class_tests ≡ true
unfolding tables bidi_class bidi_class_rows
classes = refl

few : (c : ℕ) → is_ldh_point c ≡ true → c < 128
few c is = grind (arith, nat_tests)

pub lowercase_ldh : (c : ℕ) → is_lowercase c ≡ true → is_ldh_point c ≡ true
lowercase_ldh c is = grind (arith, nat_tests)

implied : (a b : Bool) → a ≡ true → (not a || b) ≡ true → b ≡ true
implied true b is h = h
implied false b is h = let clash : false ≡ true = is in cc

tested : (c : ℕ) → is_ldh_point c ≡ true → class_tests c ≡ true
tested c is = all_places-at 128 class_tests classes c (few c is)

left_class : (k : BidiClass) → is_left k ≡ true → k ≡ LeftToRight
left_class LeftToRight is = refl
left_class _ is = let clash : false ≡ true = is in cc

class_of_lowercase : (c : ℕ) → is_lowercase c ≡ true → bidi_class c ≡ LeftToRight
class_of_lowercase c is =
    let both = and_parts _ _ (and_parts _ _ (tested c (lowercase_ldh c is))).0 in
    left_class (bidi_class c) (implied (is_lowercase c) _ is both.0)

class_of_end : (c : ℕ) → is_end c ≡ true → is_last (bidi_class c) ≡ true
class_of_end c is =
    let both = and_parts _ _ (and_parts _ _ (tested c (and_parts _ _ is).0)).0 in
    implied (is_end c) _ is both.1

class_of_ldh : (c : ℕ) → is_ldh_point c ≡ true → is_ldh (bidi_class c) ≡ true
class_of_ldh c is = implied (is_ldh_point c) _ is (and_parts _ _ (tested c is)).1

-- ---- what the rule asks of it

allowed : (k : BidiClass) → is_ldh k ≡ true → (bidi_class_eq k LeftToRight || is_allowed_in_both k) ≡ true
allowed LeftToRight is = refl
allowed EuropeanNumber is = refl
allowed EuropeanSeparator is = refl
allowed _ is = let clash : false ≡ true = is in cc

ends : (k : BidiClass) → is_last k ≡ true → (bidi_class_eq k LeftToRight || bidi_class_eq k EuropeanNumber) ≡ true
ends LeftToRight is = refl
ends EuropeanNumber is = refl
ends _ is = let clash : false ≡ true = is in cc

counts : (last k : BidiClass) → is_last k ≡ true → (if bidi_class_eq k NonspacingMark then last else k) ≡ k
counts last LeftToRight is = refl
counts last EuropeanNumber is = refl
counts last _ is = let clash : false ≡ true = is in cc

all_allowed : (label : List ℕ) → list_all is_ldh_point label ≡ true → list_all (λ k. bidi_class_eq k LeftToRight || is_allowed_in_both k) (map bidi_class label) ≡ true
all_allowed [] ldh = refl
all_allowed (c ∷ label) ldh =
    let parts = and_parts (is_ldh_point c) (list_all is_ldh_point label) ldh in
    ap₂ (λ a b. a && b) (allowed (bidi_class c) (class_of_ldh c parts.0)) (all_allowed label parts.1)

-- its last octet
abbrev final : ℕ → List ℕ → ℕ
final c [] = c
final c (d ∷ label) = final d label

final-ldh : (c : ℕ) (label : List ℕ) → list_all is_ldh_point (c ∷ label) ≡ true → is_ldh_point (final c label) ≡ true
final-ldh c [] ldh = (and_parts (is_ldh_point c) true ldh).0
final-ldh c (d ∷ label) ldh = final-ldh d label (and_parts (is_ldh_point c) (list_all is_ldh_point (d ∷ label)) ldh).1

final-is : (c : ℕ) (label : List ℕ) → get_or (c ∷ label) (length label) 0 ≡ final c label
final-is c [] = refl
final-is c (d ∷ label) = final-is d label

last_class : (c : ℕ) (label : List ℕ) (last : BidiClass) → is_end (final c label) ≡ true
    → is_last (fold (λ last k. if bidi_class_eq k NonspacingMark then last else k) last (map bidi_class (c ∷ label))) ≡ true
last_class c [] last is = let own = class_of_end c is in ap is_last (counts last (bidi_class c) own) ∙ own
last_class c (d ∷ label) last is = last_class d label _ is

last_octet : (c : ℕ) (label : List ℕ) → get_or (c ∷ label) (length (c ∷ label) - 1) 0 ≡ final c label
last_octet c label = ap (λ n. get_or (c ∷ label) n 0) (let e : length (c ∷ label) - 1 ≡ length label = omega arith in e) ∙ final-is c label

ends_well : (c : ℕ) → is_ldh_point c ≡ true → c ≢ 0x2D → is_end c ≡ true
ends_well c is other = grind (arith, nat_tests)

pub ldh-passes : (label : List ℕ) → 1 ≤ length label → is_lowercase (get_or label 0 0) ≡ true → list_all is_ldh_point label ≡ true → get_or label (length label - 1) 0 ≢ 0x2D → passes_bidi_rule label ≡ true
unfolding passes_bidi_rule
ldh-passes [] some first ldh other = absurd (omega arith)
ldh-passes (c ∷ label) some first ldh other =
    let well = ends_well (final c label) (final-ldh c label ldh) (λ e. other (last_octet c label ∙ e)) in
    ap (λ k. passes_by_first k (map bidi_class (c ∷ label))) (class_of_lowercase c first)
    ∙ ap₂ (λ a b. a && b) (all_allowed (c ∷ label) ldh) (ends _ (last_class c label NonspacingMark well))

-- its octets are its characters
pub ldh-chars : (label : List ℕ) → list_all is_ldh_point label ≡ true → chars label ≡ label
ldh-chars label ldh =
    let ascii = IsAscii-from_all label (All-weaker (λ c. is_ldh_point c ≡ true) (λ c. c < 128) few label (AllPass-from_list_all is_ldh_point label ldh)) in
    points_from_utf8 label label (ascii_points label ascii)

-- and none of them is a full stop
no_stop : (c : ℕ) → is_ldh_point c ≡ true → is_full_stop c ≡ false
no_stop c is = grind (arith, nat_tests)

pub ldh-no_stop : (label : List ℕ) → list_all is_ldh_point label ≡ true → All (λ c. is_full_stop c ≡ false) label
ldh-no_stop label ldh = All-weaker (λ c. is_ldh_point c ≡ true) (λ c. is_full_stop c ≡ false) no_stop label (AllPass-from_list_all is_ldh_point label ldh)
