-- How a proof computes classes and rules on a label that is written out.
use Rattle.std.proofs.Common.{◌≡◌, ◌≢◌, ℕ, zero, suc, ◌+◌, ◌-◌, ◌≤◌, Bool, true, false, ◌&&◌, List, [], ◌∷◌, map, nat_lt, Option, Some, None, if◌then◌else◌, refl, sym, ap, ◌∙◌, inl, inr, arith}
use Rattle.std.proofs.lemmas.Bool.{and_parts, cases_Bool, cond-true, cond-false, ltb-true, ltb-false}
use Rattle.std.proofs.lemmas.Bool.Decides.{nat_tests}
use Rattle.ucd_table.specs.Rows.{in_ranges}
use Rattle.ucd_table.specs.Trie.{trie_value, block_value}
use Rattle.ucd_table.specs.Steps.{step_value}
use Rattle.ucd_table.proofs.Computing.{tables}
use Rattle.unicode.specs.GeneralCategory.{general_category}
use Rattle.unicode.proofs.GeneralCategoryLemmas.{general_category_stepped}
use Rattle.unicode.specs.Script.{script}
use Rattle.unicode.proofs.ScriptLemmas.{script_stepped}
use Rattle.idn_class.specs.declared.class.Class.{Class}
use Rattle.idn_class.specs.declared.class.Class.TheVariants.{Pvalid, Contextj, Contexto, Disallowed, Unassigned}
use Rattle.idn_class.specs.declared.class_table.TheConstants.{CLASS_INDEX, CLASS_WORDS}
use Rattle.idn_class.specs.Class.{class_of, is_scalar}
use Rattle.idn_class.specs.JoiningType.{is_profile_virama, is_right_joining, is_dual_joining, is_transparent, profile_joining_type, is_standard_virama, standard_joining_type}
use Rattle.idn_class.specs.ContextO.{is_japanese}
use Rattle.idn_class.specs.BidiClass.{is_boundary_neutral, is_european_separator, is_european_number, is_arabic_number, is_nonspacing, is_right_to_left, is_arabic_letter, profile_bidi_class, standard_bidi_class}
use Rattle.idn_class.specs.LeadingMark.{is_mark}
use Rattle.idn_class.specs.WorkedRows.{HasClasses}
use Rattle.idn_class.specs.Tests.{all_places, contextj_ok, contexto_ok, bidi_ok}
use Rattle.idn_class.proofs.ClassNumbers.{class_from_number, from_number, class_of-no_scalar, table_number-by}
use Rattle.idn_class.proofs.ClassTrie.{trie_value-CLASS}
use Rattle.idn_class.proofs.TestLemmas.{all_places-at}
use Rattle.idn_class.specs.declared.properties.Properties.{Properties}
use Rattle.idn_class.specs.declared.properties.Properties.TheVariants.{Profile}
use Rattle.idn_class.specs.inner.Entries.{number_by}
use Rattle.ucd_bidi.specs.BidiClass.{bidi_class as unicode_bidi_class}
use Rattle.ucd_bidi.specs.BidiClassRows.{bidi_class_rows}
use Rattle.ucd_bidi.specs.JoiningType.{joining_type as unicode_joining_type}
use Rattle.ucd_bidi.specs.JoiningTypeRows.{joining_type_rows}
use Rattle.ucd_normal.specs.CanonicalCombiningClass.{canonical_combining_class}
use Rattle.ucd_normal.specs.CanonicalCombiningClassRows.{canonical_combining_class_rows}
use Rattle.ucd_bidi.proofs.BidiClassLemmas.{bidi_class_stepped as unicode_bidi_class_stepped}
use Rattle.ucd_bidi.proofs.JoiningTypeLemmas.{joining_type_stepped as unicode_joining_type_stepped}
use Rattle.ucd_normal.proofs.CanonicalCombiningClassLemmas.{canonical_combining_class_stepped}

-- `unfolding rules` opens the tests of the rules, and the properties that they ask for
unfoldable pub rules : Unit {0}
unfolding tables unicode_bidi_class_stepped unicode_joining_type_stepped canonical_combining_class_stepped unicode_bidi_class unicode_joining_type canonical_combining_class bidi_class_rows joining_type_rows canonical_combining_class_rows standard_bidi_class standard_joining_type is_standard_virama general_category_stepped script_stepped general_category script is_profile_virama is_right_joining is_dual_joining is_transparent profile_joining_type is_japanese is_boundary_neutral is_european_separator is_european_number is_arabic_number is_nonspacing is_right_to_left is_arabic_letter profile_bidi_class is_mark contextj_ok contexto_ok bidi_ok
rules = tt

-- the class that the table has, where it has one
abbrev pub known_class : ℕ → Option Class
known_class zero = Some Disallowed
known_class (suc zero) = Some Pvalid
known_class (suc (suc zero)) = Some Contextj
known_class (suc (suc (suc zero))) = Some Contexto
known_class (suc (suc (suc (suc zero)))) = Some Unassigned
known_class (suc (suc (suc (suc (suc n))))) = None

unfoldable pub in_table : Properties → ℕ → Option Class
unfolding trie_value block_value step_value
in_table properties c =
    if nat_lt c 0x11_0000 then known_class (number_by properties (trie_value 4 8 CLASS_INDEX CLASS_WORDS [] c)) else Some Disallowed

known_class-from_number : (n : ℕ) (k : Class) → known_class n ≡ Some k → (n ≢ 5) × (class_from_number n ≡ k)
known_class-from_number zero k h = (λ five. absurd (omega arith), cc)
known_class-from_number (suc zero) k h = (λ five. absurd (omega arith), cc)
known_class-from_number (suc (suc zero)) k h = (λ five. absurd (omega arith), cc)
known_class-from_number (suc (suc (suc zero))) k h = (λ five. absurd (omega arith), cc)
known_class-from_number (suc (suc (suc (suc zero)))) k h = (λ five. absurd (omega arith), cc)
known_class-from_number (suc (suc (suc (suc (suc n))))) k h = cc

-- numbers past Unicode are no scalar values
is_scalar-past : (c : ℕ) → 0x11_0000 ≤ c → is_scalar c ≡ false
unfolding is_scalar in_ranges
is_scalar-past c past = grind (arith, nat_tests)

-- a proof names the class of a code point by a look-up that computes, under `unfolding in_table`
pub class_of-in_table : (properties : Properties) (c : ℕ) (k : Class) → in_table properties c ≡ Some k → class_of properties c ≡ k
unfolding in_table
class_of-in_table properties c k h =
    let looked = known_class (number_by properties (trie_value 4 8 CLASS_INDEX CLASS_WORDS [] c)) in
    elim (cases_Bool (nat_lt c 0x11_0000)) [
      | inl low ↦
          let known = known_class-from_number _ k (sym (cond-true (nat_lt c 0x11_0000) looked (Some Disallowed) low) ∙ h) in
          sym (from_number properties c _ (ap (number_by properties) (trie_value-CLASS c (ltb-true c 0x11_0000 low)) ∙ table_number-by properties c) known.0) ∙ known.1
      | inr past ↦
          let same : Some Disallowed ≡ Some k = sym (cond-false (nat_lt c 0x11_0000) looked (Some Disallowed) past) ∙ h in
          class_of-no_scalar properties c (is_scalar-past c (ltb-false c 0x11_0000 past)) ∙ (let kept : Disallowed ≡ k = cc in kept)
    ]

-- ---- the classes of a label, or of the rows of a table

abbrev is_class : Class → Class → Bool
is_class Pvalid Pvalid = true
is_class Contextj Contextj = true
is_class Contexto Contexto = true
is_class Disallowed Disallowed = true
is_class Unassigned Unassigned = true
is_class _ _ = false

is_class-true : (j k : Class) → is_class j k ≡ true → k ≡ j
is_class-true Pvalid Pvalid h = refl
is_class-true Contextj Contextj h = refl
is_class-true Contexto Contexto h = refl
is_class-true Disallowed Disallowed h = refl
is_class-true Unassigned Unassigned h = refl
is_class-true _ _ h = cc

abbrev is_known_as : Class → Option Class → Bool
is_known_as k None = false
is_known_as k (Some j) = is_class k j

is_known_as-true : (k : Class) (known : Option Class) → is_known_as k known ≡ true → known ≡ Some k
is_known_as-true k None h = let clash : false ≡ true = h in cc
is_known_as-true k (Some j) h = ap Some (is_class-true k j h)

abbrev are_in_table : List ℕ → List Class → Bool
are_in_table [] [] = true
are_in_table (c ∷ label) (k ∷ classes) = is_known_as k (in_table Profile c) && are_in_table label classes
are_in_table _ _ = false

pub map-class_of-in_table : (label : List ℕ) (classes : List Class) → are_in_table label classes ≡ true → map (class_of Profile) label ≡ classes
map-class_of-in_table [] [] h = refl
map-class_of-in_table [] (k ∷ classes) h = let clash : false ≡ true = h in cc
map-class_of-in_table (c ∷ label) [] h = let clash : false ≡ true = h in cc
map-class_of-in_table (c ∷ label) (k ∷ classes) h =
    let parts = and_parts (is_known_as k (in_table Profile c)) (are_in_table label classes) h in
    ap (λ j. j ∷ map (class_of Profile) label) (class_of-in_table Profile c k (is_known_as-true k (in_table Profile c) parts.0))
    ∙ ap (λ ks. k ∷ ks) (map-class_of-in_table label classes parts.1)

module _ (class : ℕ → Class) (looked : ℕ → Option Class) (tells : (c : ℕ) (k : Class) → looked c ≡ Some k → class c ≡ k) where
  abbrev row_ok : ℕ → ℕ → Class → Bool
  row_ok first last k = all_places (last - first + 1) (λ i. is_known_as k (looked (first + i)))

  class_of-row : (first last : ℕ) (k : Class) → row_ok first last k ≡ true → (c : ℕ) → first ≤ c → c ≤ last → class c ≡ k
  class_of-row first last k h c low high =
      let at : first + (c - first) ≡ c = omega arith in
      let known = all_places-at (last - first + 1) (λ i. is_known_as k (looked (first + i))) h (c - first) (omega arith) in
      tells c k (is_known_as-true k (looked c) (ap (λ n. is_known_as k (looked n)) (sym at) ∙ known))

abbrev rows_ok : Properties → List (ℕ × ℕ × Class) → Bool
rows_ok properties [] = true
rows_ok properties (row ∷ rows) = row_ok (class_of properties) (in_table properties) (class_of-in_table properties) row.0 row.1 row.2 && rows_ok properties rows

pub HasClasses-rows_ok : (properties : Properties) (rows : List (ℕ × ℕ × Class)) → rows_ok properties rows ≡ true → HasClasses properties rows
HasClasses-rows_ok properties [] h = tt
HasClasses-rows_ok properties (row ∷ rows) h =
    let parts = and_parts (row_ok (class_of properties) (in_table properties) (class_of-in_table properties) row.0 row.1 row.2) (rows_ok properties rows) h in
    (class_of-row (class_of properties) (in_table properties) (class_of-in_table properties) row.0 row.1 row.2 parts.0, HasClasses-rows_ok properties rows parts.1)
