-- Worked examples of the definitions, by computation.
use Rattle.std.specs.Prelude.{◌≡◌, true, false, Option, Some, None, List, [], ◌∷◌, ◌++◌, map, ℕ, codes}
use Rattle.label_patterns.specs.declared.condition.Condition.{Condition}
use Rattle.label_patterns.specs.declared.condition.ConditionKind.TheVariants.{When}
use Rattle.label_patterns.specs.Patterns.{Pattern, Point, Set, Any, Start, End, Anchor, Group, Optional, Many, Then}
use Rattle.label_patterns.specs.Patterns.{Either}
use Rattle.ruleset_text.specs.declared.definition.DemandKind.TheVariants.{Never, Always}
use Rattle.ruleset_text.specs.Definitions.{Demand}
use Rattle.variant_table.specs.Entries.{Entry, TableValue, plain_variant}
use Rattle.variant_table.specs.ExampleTables.{table_with, when_first, unless_first}
use Rattle.valid_labels.specs.declared.cause.ValidityCause.TheVariants.{NotEligible}
use Rattle.valid_labels.specs.Causes.{cause_of}
use Rattle.valid_labels.specs.Tests.{is_made_of_sources, is_admitted, is_valid, is_dead_under}

abbrev pub never : Pattern → Demand
never p = record { kind = Never; pattern = p }

abbrev pub always : Pattern → Demand
always p = record { kind = Always; pattern = p }

-- the condition on the second rule
abbrev pub when_second : Option Condition
when_second = Some (record { kind = When; rule = 1 })

-- a source with its condition and its variants
abbrev pub source : List ℕ → Option Condition → List (List ℕ) → Entry
source points condition variants =
    record { source = points; type = None; condition = condition; variants = map (plain_variant None) variants }

-- sources of one code point without conditions and variants
abbrev pub letters : List ℕ → List Entry
letters [] = []
letters (c ∷ points) = source (c ∷ []) None [] ∷ letters points

-- vowel signs follow a consonant, which may have a nukta
abbrev pub signs : TableValue
signs = table_with ((record { first = 2325; last = 2361 } ∷ []) ∷ [])
    (Then (Set 0) (Then (Optional (Point 2364)) Anchor) ∷ []) []
    (letters (2325 ∷ 2326 ∷ []) ++ source (2364 ∷ []) when_first [] ∷ source (2366 ∷ []) when_first [] ∷ [])

-- a vowel stands before its consonant
abbrev pub leads : TableValue
leads = table_with ((record { first = 3585; last = 3630 } ∷ []) ∷ []) (Then Anchor (Set 0) ∷ []) []
    (letters (3585 ∷ []) ++ source (3648 ∷ []) when_first [] ∷ [])

-- the code point 00B7 stands between two l
abbrev pub between_l : TableValue
between_l =
    table_with [] (Then (Point 108) (Then Anchor (Point 108)) ∷ []) []
    (letters (codes "acl") ++ source (183 ∷ []) when_first [] ∷ [])

-- a hyphen stands neither at an end nor after the second code point
abbrev pub edges : TableValue
edges = table_with [] (Either (Then Start Anchor) (Either (Then Anchor End) (Then Start (Then Any (Then Any Anchor))))
    ∷ []) [] (letters (codes "abcd") ++ source (codes "-") unless_first [] ∷ [])

-- digits are of one kind
abbrev pub digits : TableValue
digits = table_with ((record { first = 48; last = 57 } ∷ []) ∷ (record { first = 2406; last = 2415 } ∷ []) ∷ []) []
    (never (Either (Then (Set 0) (Then (Many Any) (Set 1))) (Then (Set 1) (Then (Many Any) (Set 0)))) ∷ [])
    (letters (48 ∷ 49 ∷ 2406 ∷ 2407 ∷ []))

-- no label ends in b; each has an a
abbrev pub no_end_in_b : TableValue
no_end_in_b = table_with [] [] (never (Then (Point 98) End) ∷ []) (letters (codes "ab"))

abbrev pub some_a : TableValue
some_a = table_with [] [] (always (Point 97) ∷ []) (letters (codes "ab"))

-- e stands only after such code points of a set, with h between them, that begin the label
abbrev pub syllables : TableValue
syllables =
    table_with ((record { first = 97; last = 99 } ∷ []) ∷ [])
    (Then Start (Then (Many (Group (Then (Set 0) (Point 104)))) (Then (Set 0) Anchor)) ∷ []) []
    (letters (codes "abch") ++ source (codes "e") when_first [] ∷ [])

-- a rule that always holds: a where it does, b where it doesn't
abbrev pub always_held : TableValue
always_held =
    table_with [] (Anchor ∷ []) [] (source (codes "a") when_first [] ∷ source (codes "b") unless_first [] ∷ [])

-- b stands after a alone; c may be replaced by bd, which is not made of sources
abbrev pub after_a : TableValue
after_a = table_with [] (Then (Point 97) Anchor ∷ []) []
    (source (codes "a") None [] ∷ source (codes "c") None (codes "bd" ∷ []) ∷ source (codes "b") when_first [] ∷ [])

-- sources of several code points: of abc the longest first is ab, so that c is left over
abbrev pub several : TableValue
several = table_with [] [] [] (source (codes "a") None (codes "x" ∷ []) ∷ source (codes "ab") None []
    ∷ source (codes "bc") None [] ∷ source (codes "x") None (codes "a" ∷ []) ∷ [])

-- ab stands at the end alone
abbrev pub ab_at_end : TableValue
ab_at_end =
    table_with [] (Then Anchor End ∷ []) [] (source (codes "a") None [] ∷ source (codes "ab") when_first []
    ∷ source (codes "bc") None [] ∷ letters (codes "c"))

-- b stands after a alone, and bb does not
abbrev pub bb_unless_after_a : TableValue
bb_unless_after_a =
    table_with [] (Then (Point 97) Anchor ∷ []) [] (letters (codes "a") ++ source (codes "b") when_first []
    ∷ source (codes "bb") unless_first [] ∷ [])

-- ab has the type invalid, and c may be replaced by it
abbrev pub invalid_ab : TableValue
invalid_ab =
    table_with [] [] [] (letters (codes "ab") ++ record (source (codes "ab") None []) { type = Some 0 }
    ∷ source (codes "c") None (codes "ab" ∷ []) ∷ [])

-- no label has two a
abbrev pub one_a : TableValue
one_a = table_with [] [] (never (Then (Point 97) (Then (Many Any) (Point 97))) ∷ []) (letters (codes "abc"))

-- a vowel sign follows a consonant; the consonant 0915 may be replaced by a vowel
abbrev pub vowel_for_consonant : TableValue
vowel_for_consonant = table_with ((record { first = 2325; last = 2361 } ∷ []) ∷ []) (Then (Set 0) Anchor ∷ []) []
    (source (2325 ∷ []) None ((2309 ∷ []) ∷ []) ∷ source (2366 ∷ []) when_first [] ∷ letters (2309 ∷ 2326 ∷ []))

-- a source of the type invalid, of one code point, that may not stand at the end
abbrev pub invalid_within : TableValue
invalid_within =
    table_with [] (Then Anchor End ∷ []) [] (source (codes "a") None ((1072 ∷ []) ∷ [])
    ∷ record (source (1072 ∷ []) unless_first []) { type = Some 0 } ∷ letters (codes "b"))

-- the consonant 0931 stands only with a virama, and that only before 092F or 0939; another virama follows a consonant
abbrev pub half_ra : TableValue
half_ra = table_with ((record { first = 2325; last = 2352 } ∷ record { first = 2354; last = 2361 } ∷ []) ∷ [])
    (Either (Then Anchor (Point 2351)) (Then Anchor (Point 2361)) ∷ Then (Set 0) Anchor ∷ []) []
    (source (2353 ∷ 2381 ∷ []) when_first [] ∷ source (2381 ∷ []) when_second [] ∷ letters (2325 ∷ 2351 ∷ []))

-- b stands after a alone; c may be replaced by two letters, which are sources
abbrev pub two_for_one : TableValue
two_for_one =
    table_with [] (Then (Point 97) Anchor ∷ []) [] (source (codes "a") None []
    ∷ source (codes "c") None (codes "bb" ∷ codes "ba" ∷ []) ∷ source (codes "b") when_first [] ∷ [])

-- no label ends in an a that begins it or follows b, and any number of pairs of c
abbrev pub no_pairs_at_end : TableValue
no_pairs_at_end =
    table_with [] []
    (never (Then (Group (Either Start (Point 98))) (Then (Point 97)
    (Then (Many (Group (Then (Point 99) (Point 99)))) End))) ∷ []) (letters (codes "abc"))

-- b stands after a alone; a may be replaced by c
abbrev pub c_for_a : TableValue
c_for_a = table_with [] (Then (Point 97) Anchor ∷ []) []
    (source (codes "a") None (codes "c" ∷ []) ∷ source (codes "c") None [] ∷ source (codes "b") when_first [] ∷ [])

-- labels that may be asked about, and such that are refused though they are made of sources; variants that are valid,
-- and such that aren't; beginnings with which no valid label begins
pub record ValidityOfExamples : Type 0 where
  pub sign : is_admitted signs (2325 ∷ 2366 ∷ []) ≡ true
  pub sign_after_nukta : is_admitted signs (2325 ∷ 2364 ∷ 2366 ∷ []) ≡ true
  pub sign_after_sign : is_admitted signs (2325 ∷ 2366 ∷ 2366 ∷ []) ≡ false
  pub sign_after_sign_made : is_made_of_sources signs (2325 ∷ 2366 ∷ 2366 ∷ []) ≡ true
  pub sign_after_sign_dead : is_dead_under signs (2325 ∷ 2366 ∷ 2366 ∷ []) ≡ true
  pub no_source : is_made_of_sources signs (2325 ∷ 2366 ∷ 97 ∷ []) ≡ false
  pub lead : is_admitted leads (3648 ∷ 3585 ∷ []) ≡ true
  pub lead_at_end : is_admitted leads (3585 ∷ 3648 ∷ []) ≡ false
  pub lead_not_dead : is_dead_under leads (3585 ∷ 3648 ∷ []) ≡ false
  pub between : is_admitted between_l (codes "al" ++ 183 ∷ codes "la") ≡ true
  pub not_between : is_admitted between_l (codes "a" ++ 183 ∷ codes "la") ≡ false
  pub hyphen : is_admitted edges (codes "a-b") ≡ true
  pub hyphen_third : is_admitted edges (codes "ab-c") ≡ false
  pub hyphen_fourth : is_admitted edges (codes "abc-d") ≡ true
  pub hyphen_third_dead : is_dead_under edges (codes "ab-") ≡ true
  pub hyphen_last_not_dead : is_dead_under edges (codes "abc-") ≡ false
  pub one_kind : is_valid digits (2406 ∷ 2407 ∷ []) ≡ true
  pub two_kinds : is_valid digits (48 ∷ 2407 ∷ []) ≡ false
  pub two_kinds_dead : is_dead_under digits (48 ∷ 2407 ∷ []) ≡ true
  pub ends_in_a : is_valid no_end_in_b (codes "ba") ≡ true
  pub ends_in_b : is_valid no_end_in_b (codes "ab") ≡ false
  pub ends_in_b_not_dead : is_dead_under no_end_in_b (codes "ab") ≡ false
  pub has_a : is_admitted some_a (codes "ba") ≡ true
  pub has_none : is_admitted some_a (codes "bb") ≡ false
  pub syllable : is_admitted syllables (codes "ahbhce") ≡ true
  pub no_syllable : is_admitted syllables (codes "aabe") ≡ false
  pub held : is_admitted always_held (codes "aa") ≡ true
  pub not_held : is_admitted always_held (codes "ab") ≡ false
  pub variant_in_place : is_valid after_a (codes "abc") ≡ true
  pub variant_out_of_place : is_valid after_a (codes "cb") ≡ false
  pub variant_dead : is_dead_under after_a (codes "acb") ≡ true
  pub lone_variant : is_valid after_a (codes "bdc") ≡ false
  pub lone_variant_dead : is_dead_under after_a (codes "bd") ≡ true
  pub longest_first : is_admitted several (codes "abc") ≡ false
  pub longest_first_made : is_made_of_sources several (codes "abc") ≡ true
  pub longest_first_cause : cause_of several (codes "abc") ≡ Some (NotEligible 2 None)
  pub longest_first_variant : is_valid several (codes "xbc") ≡ true
  pub longest_that_stands : is_admitted ab_at_end (codes "abc") ≡ true
  pub longest_at_end : is_admitted ab_at_end (codes "aab") ≡ true
  pub longest_within : cause_of ab_at_end (codes "abab") ≡ Some (NotEligible 1 None)
  pub shorter_fails : cause_of bb_unless_after_a (codes "abb") ≡ Some (NotEligible 2 when_first)
  pub shorter_fails_first : cause_of bb_unless_after_a (codes "b") ≡ Some (NotEligible 0 when_first)
  pub longer_stands : is_admitted bb_unless_after_a (codes "bb") ≡ true
  pub longer_after_it : is_admitted bb_unless_after_a (codes "abbb") ≡ true
  pub invalid_longest : is_made_of_sources invalid_ab (codes "ab") ≡ true
  pub invalid_variant : is_valid invalid_ab (codes "ab") ≡ true
  pub sign_after_vowel : is_valid vowel_for_consonant (2309 ∷ 2366 ∷ []) ≡ false
  pub consonant_after_vowel : is_valid vowel_for_consonant (2309 ∷ 2326 ∷ []) ≡ true
  pub two_leads : is_admitted leads (3648 ∷ 3648 ∷ 3585 ∷ []) ≡ false
  pub two_kinds_made : is_made_of_sources digits (48 ∷ 2407 ∷ []) ≡ true
  pub two_a : is_admitted one_a (codes "aba") ≡ false
  pub two_a_dead : is_dead_under one_a (codes "aba") ≡ true
  pub invalid_arises : is_valid invalid_within (1072 ∷ codes "ba") ≡ true
  pub invalid_at_end : is_valid invalid_within (codes "ab" ++ 1072 ∷ []) ≡ false
  pub invalid_made : is_made_of_sources invalid_within (1072 ∷ codes "b") ≡ true
  pub half_before_ya : is_admitted half_ra (2325 ∷ 2353 ∷ 2381 ∷ 2351 ∷ []) ≡ true
  pub half_before_ka : is_admitted half_ra (2325 ∷ 2353 ∷ 2381 ∷ 2325 ∷ []) ≡ false
  pub half_before_ka_made : is_made_of_sources half_ra (2325 ∷ 2353 ∷ 2381 ∷ 2325 ∷ []) ≡ true
  pub ra_alone : is_made_of_sources half_ra (2353 ∷ 2325 ∷ []) ≡ false
  pub covered_variant : is_valid two_for_one (codes "aba") ≡ true
  pub covered_variant_asked : is_valid two_for_one (codes "abb") ≡ false
  pub no_pair : is_admitted no_pairs_at_end (codes "acb") ≡ true
  pub one_pair : is_admitted no_pairs_at_end (codes "cbacc") ≡ false
  pub b_after_c_dead : is_dead_under c_for_a (codes "cb") ≡ true
  pub b_after_a_not_dead : is_dead_under c_for_a (codes "ab") ≡ false
