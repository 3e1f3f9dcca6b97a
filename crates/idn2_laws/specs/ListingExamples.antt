-- Worked examples of labels that are tested and listed under rulesets, by computation.
use Rattle.std.specs.Prelude.{◌≡◌, ◌&&◌, not, Some, List, [], ◌∷◌, ◌++◌, ℕ, codes}
use Rattle.label_patterns.specs.Patterns.{Any, Either, End, Many, Point, Set, Then, Anchor}
use Rattle.variant_table.specs.Entries.{TableValue}
use Rattle.valid_labels.specs.Examples.{after_a, c_for_a, letters, invalid_within, never, source, two_for_one}
use Rattle.valid_labels.specs.Examples.{vowel_for_consonant}
use Rattle.variant_table.specs.ExampleTables.{table_with, when_first}
use Rattle.valid_labels.specs.Tests.{is_dead_under, is_valid}
use Rattle.variant_list.specs.Tested.{tested}
use Rattle.variant_list.specs.Variants.{variants}
use Rattle.variant_list.specs.Examples.{entry, of_type}
use Rattle.idn2_answers.specs.Dispositions.{is_left_out}

-- two kinds of digits, never together
abbrev pub digits_of_two_kinds : TableValue
digits_of_two_kinds =
    table_with ((record { first = 48; last = 57 } ∷ []) ∷ (record { first = 2406; last = 2415 } ∷ []) ∷ []) []
    (never (Either (Then (Set 0) (Then (Many Any) (Set 1))) (Then (Set 1) (Then (Many Any) (Set 0)))) ∷ [])
    (entry (48 ∷ []) (of_type 1 (2406 ∷ []) ∷ []) ∷ entry (2406 ∷ []) (of_type 1 (48 ∷ []) ∷ [])
    ∷ entry (49 ∷ []) (of_type 1 (2407 ∷ []) ∷ []) ∷ entry (2407 ∷ []) (of_type 1 (49 ∷ []) ∷ []) ∷ [])

-- no label ends in b, which is a variant of a
abbrev pub b_within : TableValue
b_within = table_with [] [] (never (Then (Point 98) End) ∷ []) (entry (codes "a") (of_type 1 (codes "b") ∷ [])
    ∷ letters (codes "b"))

-- the lines 0061, !0062..0063 when x and 0064|!0063, where x holds after a
abbrev pub invalid_after_a : TableValue
invalid_after_a = table_with [] (Then (Point 97) Anchor ∷ []) []
    (letters (codes "a") ++ record (source (codes "b") when_first []) { type = Some 0 }
    ∷ record (source (codes "c") when_first []) { type = Some 0 } ∷ entry (codes "d") (of_type 1 (codes "c") ∷ [])
    ∷ [])

-- the valid ones of the labels that a label spells, unless they are invalid as its variants
abbrev pub listed : TableValue → List ℕ → List (List ℕ)
listed table label = variants (λ v. is_valid table v && not (is_left_out table label v)) table label []

-- a listing tests no label with a dead prefix. A variant is valid as a label of its own: its signs follow consonants,
-- its digits are of one kind, it doesn't end as none may, a source of the type invalid stands where it may, a source
-- has its condition within a variant, and what is not made of sources is not valid
pub record ListingsOfExamples : Type 0 where
  pub one_kind_tested : tested (is_dead_under digits_of_two_kinds) digits_of_two_kinds (codes "01") []
      ≡ codes "01" ∷ (2406 ∷ 2407 ∷ []) ∷ []
  pub end_tested : tested (is_dead_under b_within) b_within (codes "aa") []
      ≡ codes "aa" ∷ codes "ab" ∷ codes "ba" ∷ codes "bb" ∷ []
  pub barred_not_tested : tested (is_dead_under c_for_a) c_for_a (codes "aba") [] ≡ codes "aba" ∷ codes "abc" ∷ []
  pub sign_on_the_consonant : listed vowel_for_consonant (2325 ∷ 2366 ∷ []) ≡ (2325 ∷ 2366 ∷ []) ∷ []
  pub vowel_in_its_place : listed vowel_for_consonant (2325 ∷ 2326 ∷ []) ≡ (2309 ∷ 2326 ∷ []) ∷ (2325 ∷ 2326 ∷ []) ∷ []
  pub digits_of_one_kind : listed digits_of_two_kinds (codes "01") ≡ codes "01" ∷ (2406 ∷ 2407 ∷ []) ∷ []
  pub not_at_the_end : listed b_within (codes "aa") ≡ codes "aa" ∷ codes "ba" ∷ []
  pub invalid_within_the_label : listed invalid_within (codes "aba") ≡ codes "aba" ∷ (1072 ∷ codes "ba") ∷ []
  pub after_a_in_a_variant : listed two_for_one (codes "ac") ≡ codes "aba" ∷ codes "ac" ∷ []
  pub variant_of_no_sources : listed after_a (codes "cc") ≡ codes "cc" ∷ []
  pub b_on_a : listed c_for_a (codes "aba") ≡ codes "aba" ∷ codes "abc" ∷ []
  pub invalid_range : listed invalid_after_a (codes "ad") ≡ codes "ac" ∷ codes "ad" ∷ []
  pub invalid_range_alone : listed invalid_after_a (codes "dd") ≡ codes "dd" ∷ []
