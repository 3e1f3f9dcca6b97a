-- Worked examples of labels that collide, by computation.
use Rattle.std.specs.Prelude.{◌≡◌, ℕ, Bool, not, bytes_eq, List, [], ◌∷◌, ◌++◌, codes}
use Rattle.label_patterns.specs.Patterns.{Pattern, Any, Anchor, Either, End, Point, Start, Then}
use Rattle.variant_table.specs.Entries.{TableValue, entry_from}
use Rattle.variant_table.specs.ExampleTables.{table_with, unless_first, when_first}
use Rattle.valid_labels.specs.Examples.{letters, source}
use Rattle.variant_list.specs.Examples.{any_label, entry, final_sigma, of_type, untyped, version_one}
use Rattle.registered_labels.specs.Examples.{strasse, strasze, version_two}
use Rattle.answer_json.specs.declared.collision.Regard.{Regard}
use Rattle.answer_json.specs.declared.collision.Regard.TheVariants.{NoVariant, Variant, Blocked, Allocatable}
use Rattle.answer_json.specs.declared.collision.Regards.{Regards}
use Rattle.idn2_answers.specs.Collisions.{regards_of}
use Rattle.idn2_laws.specs.ListingExamples.{digits_of_two_kinds}
use Rattle.idn2_laws.specs.TypeExamples.{chinese}

-- what a registered label is to the one asked about, and back
abbrev pub told : Regard → Regard → Regards
told there back = record { there = there; back = back }

-- the same by the definitions, where each label may be registered
abbrev pub regards : TableValue → List ℕ → List ℕ → Regards
regards = regards_of any_label

-- ---- tables

-- the lines 0061|0062 and 0062: a gap
abbrev pub gap : TableValue
gap = version_one (entry (codes "a") (untyped (codes "b") ∷ []) ∷ entry (codes "b") [] ∷ [])

-- the lines 0061|0062-0063 and 0078
abbrev pub piece : TableValue
piece = version_one (entry (codes "a") (untyped (codes "bc") ∷ []) ∷ entry (codes "x") [] ∷ [])

-- the lines 0061|0062, 0062, 0063|0064 and 0064
abbrev pub chain : TableValue
chain = version_one
    (entry (codes "a") (untyped (codes "b") ∷ []) ∷ entry (codes "b") []
    ∷ entry (codes "c") (untyped (codes "d") ∷ []) ∷ entry (codes "d") [] ∷ [])

-- the lines 0061|!0062, 0062 and 0063 of version 2
abbrev pub oneway : TableValue
oneway = version_two (entry (codes "a") (of_type 1 (codes "b") ∷ []) ∷ entry (codes "b") [] ∷ entry (codes "c") [] ∷ [])

-- the lines 002D|0062, 0061 and 0062|002D of version 2
abbrev pub hyphens : TableValue
hyphens = version_two
    (entry (codes "-") (untyped (codes "b") ∷ []) ∷ entry (codes "a") []
    ∷ entry (codes "b") (untyped (codes "-") ∷ []) ∷ [])

-- some letters, and ss and ß, which are variants of each other; a hyphen stands neither at an end nor fourth after
-- another one
abbrev pub sharp : TableValue
sharp = table_with [] (Either (Then Start Anchor) (Either (Then Anchor End) after_hyphen) ∷ []) []
    (source (codes "-") unless_first [] ∷ letters (codes "abehmrstu")
    ++ entry (codes "ss") (untyped (223 ∷ []) ∷ []) ∷ entry (223 ∷ []) (untyped (codes "ss") ∷ []) ∷ [])
  where
    after_hyphen : Pattern
    after_hyphen = Then Start (Then Any (Then Any (Then (Point 45) Anchor)))

-- the lines 0061 when start|0062 and 0062, where start holds at the beginning of a label
abbrev pub hidden : TableValue
hidden = table_with [] (Then Start Anchor ∷ []) []
    (record (entry (codes "a") (untyped (codes "b") ∷ [])) { condition = when_first } ∷ entry (codes "b") [] ∷ [])

-- the lines 0061|0063, 0062, 0063, 0061-0062 when last|0064 and 0064, where last holds at the end of a label
abbrev pub over : TableValue
over = table_with [] (Then Anchor End ∷ []) []
    (entry (codes "a") (untyped (codes "c") ∷ []) ∷ entry (codes "b") [] ∷ entry (codes "c") []
    ∷ record (entry (codes "ab") (untyped (codes "d") ∷ [])) { condition = when_first } ∷ entry (codes "d") [] ∷ [])

-- the lines 0061|!0430, 0062 and !0430|!0061
abbrev pub out_of_repertoire : TableValue
out_of_repertoire = table_with [] [] []
    (entry (codes "a") (of_type 1 (1072 ∷ []) ∷ []) ∷ entry (codes "b") []
    ∷ entry_from (of_type 0 (1072 ∷ []) ∷ of_type 1 (codes "a") ∷ []) ∷ [])

-- ---- labels

-- each label but ab--a may be registered
abbrev pub but_one : List ℕ → Bool
but_one v = not (bytes_eq v (codes "ab--a"))

-- ---- of good labels the listings decide

-- a label may have another one as a variant that doesn't have it: by a condition, by a gap, or by a longer source that
-- is in the way of one alone
pub record ListingsDecide : Type 0 where
  pub sigma : regards final_sigma (963 ∷ 945 ∷ []) (962 ∷ 945 ∷ []) ≡ told NoVariant Allocatable
  pub final_sigma_asked : regards final_sigma (962 ∷ 945 ∷ []) (963 ∷ 945 ∷ []) ≡ told Allocatable NoVariant
  pub over_a_gap : regards gap (codes "b") (codes "a") ≡ told NoVariant Variant
  pub itself : regards gap (codes "b") (codes "b") ≡ told Variant Variant
  pub street : regards sharp strasze strasse ≡ told Allocatable Allocatable
  pub house : regards sharp strasze (codes "haus") ≡ told NoVariant NoVariant
  pub three : regards sharp (115 ∷ 223 ∷ []) (codes "sss") ≡ told Allocatable Allocatable
  pub neighbours : regards sharp (115 ∷ 223 ∷ []) (223 ∷ 115 ∷ []) ≡ told NoVariant NoVariant
  pub both_steps : regards chain (codes "bd") (codes "ac") ≡ told NoVariant Variant
  pub one_step : regards chain (codes "bd") (codes "bc") ≡ told NoVariant Variant
  pub crossed : regards chain (codes "ad") (codes "bc") ≡ told NoVariant NoVariant
  pub blocked_back : regards oneway (codes "bc") (codes "ac") ≡ told NoVariant Blocked
  pub blocked_there : regards oneway (codes "ac") (codes "bc") ≡ told Blocked NoVariant
  pub longer_source : regards over (codes "da") (codes "aba") ≡ told NoVariant NoVariant
  pub shorter_source : regards over (codes "cba") (codes "aba") ≡ told NoVariant Allocatable
  pub only_back : regards hidden (codes "bb") (codes "ab") ≡ told NoVariant Allocatable

-- whether the holder of a registered label may have the one asked about is what the latter is to the former: a pure
-- form is allocatable to the holder of a mixture, and a mixture is blocked to that of a pure form
pub record HoldersMayHave : Type 0 where
  pub mixture_asked : regards chinese (0x56FD ∷ 0x5B78 ∷ []) (0x56FD ∷ 0x5B66 ∷ []) ≡ told Allocatable Blocked
  pub traditional_of_mixture : regards chinese (0x56FD ∷ 0x5B78 ∷ []) (0x570B ∷ 0x5B78 ∷ []) ≡ told Allocatable Blocked
  pub pure_asked : regards chinese (0x56FD ∷ 0x5B66 ∷ []) (0x56FD ∷ 0x5B78 ∷ []) ≡ told Blocked Allocatable
  pub other_pure : regards chinese (0x56FD ∷ 0x5B66 ∷ []) (0x570B ∷ 0x5B78 ∷ []) ≡ told Allocatable Allocatable

-- ---- of a label that is refused today the relation of the table decides

-- it has a source of the type invalid, breaks a demand, isn't made of sources, has a source where it may not stand, or
-- may not be registered
pub record RelationDecides : Type 0 where
  pub out_of_repertoire_there : regards out_of_repertoire (codes "ab") (1072 ∷ codes "b") ≡ told Blocked Blocked
  pub demand : regards digits_of_two_kinds (codes "11") (49 ∷ 2407 ∷ []) ≡ told Blocked Blocked
  pub no_sources : regards piece (codes "ax") (codes "bcx") ≡ told Variant NoVariant
  pub out_of_place : regards hidden (codes "bb") (codes "ba") ≡ told NoVariant Blocked
  pub hyphen_out_of_place : regards sharp (codes "ass--b") (97 ∷ 223 ∷ codes "--b") ≡ told Blocked Blocked
  pub not_registrable : regards_of but_one hyphens (codes "abbba") (codes "ab--a") ≡ told Blocked Blocked
  pub registrable : regards_of but_one hyphens (codes "abbba") (codes "ab-ba") ≡ told Allocatable Allocatable
