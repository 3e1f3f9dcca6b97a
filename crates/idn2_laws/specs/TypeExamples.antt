-- Worked examples of types and actions, by computation.
use Rattle.std.specs.Prelude.{◌≡◌, ℕ, List, [], ◌∷◌, Some, None, codes}
use Rattle.ruleset_text.specs.declared.action.TriggerKind.{TriggerKind}
use Rattle.ruleset_text.specs.declared.action.TriggerKind.TheVariants.{Any, All}
use Rattle.ruleset_text.specs.Actions.{NamedAction}
use Rattle.ruleset_text.specs.Definitions.{nothing_defined}
use Rattle.idn_class.specs.declared.properties.Properties.TheVariants.{Profile}
use Rattle.variant_dispositions.specs.declared.disposition.Disposition.{Disposition as Outcome}
use Rattle.variant_dispositions.specs.declared.disposition.Disposition.TheVariants as outcomes
use Rattle.variant_table.specs.declared.version.Version.TheVariants.{Two, Three}
use Rattle.variant_table.specs.Entries.{Entry, TableValue, empty_table, entry_from, table_of}
use Rattle.variant_list.specs.Examples.{entry, of_type, untyped}
use Rattle.answer_json.specs.declared.block.Disposition.TheVariants.{Allocatable, Blocked, Unclear}
use Rattle.idn2_answers.specs.Dispositions.{disposition}

-- a ruleset of these types and actions
abbrev pub typed : List (List ℕ) → List NamedAction → List Entry → TableValue
typed types actions entries =
    table_of Three (record (nothing_defined Profile) { types = types; actions = actions }) entries

abbrev pub action : Outcome → TriggerKind → List (List ℕ) → NamedAction
action outcome kind types = record {
  disposition = outcome;
  condition = None;
  trigger = Some (record { kind = kind; types = types });
}

-- a Chinese ruleset by hand: simplified forms alone, or traditional ones alone, may be had. Its own types have the
-- numbers from 5 on
abbrev pub chinese : TableValue
chinese = typed (codes "simp" ∷ codes "r_simp" ∷ codes "trad" ∷ codes "r_trad" ∷ [])
    (action outcomes.Allocatable All (codes "simp" ∷ codes "r_simp" ∷ [])
    ∷ action outcomes.Allocatable All (codes "trad" ∷ codes "r_trad" ∷ [])
    ∷ action outcomes.Blocked Any (codes "simp" ∷ codes "trad" ∷ []) ∷ [])
    (entry_from (of_type 6 (0x56FD ∷ []) ∷ of_type 7 (0x570B ∷ []) ∷ [])
    ∷ entry_from (of_type 8 (0x570B ∷ []) ∷ of_type 5 (0x56FD ∷ []) ∷ [])
    ∷ entry_from (of_type 6 (0x5B66 ∷ []) ∷ of_type 7 (0x5B78 ∷ []) ∷ [])
    ∷ entry_from (of_type 8 (0x5B78 ∷ []) ∷ of_type 5 (0x5B66 ∷ []) ∷ [])
    ∷ entry (0x4E00 ∷ []) [] ∷ [])

-- of the pure form the mixtures are blocked; of a mixture, which stays as it is, the other mixture is; what has no
-- variant goes with both
pub record ChineseForms : Type 0 where
  pub pure : disposition chinese (0x56FD ∷ 0x5B66 ∷ []) (0x56FD ∷ 0x5B66 ∷ []) ≡ Some Allocatable
  pub mixture_of_pure : disposition chinese (0x56FD ∷ 0x5B66 ∷ []) (0x56FD ∷ 0x5B78 ∷ []) ≡ Some Blocked
  pub other_mixture_of_pure : disposition chinese (0x56FD ∷ 0x5B66 ∷ []) (0x570B ∷ 0x5B66 ∷ []) ≡ Some Blocked
  pub other_pure : disposition chinese (0x56FD ∷ 0x5B66 ∷ []) (0x570B ∷ 0x5B78 ∷ []) ≡ Some Allocatable
  pub mixture : disposition chinese (0x56FD ∷ 0x5B78 ∷ []) (0x56FD ∷ 0x5B78 ∷ []) ≡ Some Allocatable
  pub pure_of_mixture : disposition chinese (0x56FD ∷ 0x5B78 ∷ []) (0x56FD ∷ 0x5B66 ∷ []) ≡ Some Allocatable
  pub other_mixture : disposition chinese (0x56FD ∷ 0x5B78 ∷ []) (0x570B ∷ 0x5B66 ∷ []) ≡ Some Blocked
  pub with_one : disposition chinese (0x56FD ∷ 0x4E00 ∷ []) (0x570B ∷ 0x4E00 ∷ []) ≡ Some Allocatable

-- the lines 0061|!0062, 0062 and 0061-0061|0062-0062 as a ruleset, and as a table of version 2
abbrev pub pair : List Entry
pair = entry (codes "a") (of_type 1 (codes "b") ∷ []) ∷ entry (codes "b") []
    ∷ entry (codes "aa") (untyped (codes "bb") ∷ []) ∷ []

-- the same with a pair that is blocked, too
abbrev pub blocked_pair : List Entry
blocked_pair = entry (codes "a") (of_type 1 (codes "b") ∷ []) ∷ entry (codes "b") []
    ∷ entry (codes "aa") (of_type 1 (codes "bb") ∷ []) ∷ []

-- the lines 0061|0063, 0062, 0063 and 0061-0062|0063-0062
abbrev pub untyped_ways : List Entry
untyped_ways = entry (codes "a") (untyped (codes "c") ∷ []) ∷ entry (codes "b") [] ∷ entry (codes "c") []
    ∷ entry (codes "ab") (untyped (codes "cb") ∷ []) ∷ []

-- the lines 0061|0062 as s, 0062 and 0061-0061|0062-0062 as t
abbrev pub two_types : List Entry
two_types = entry (codes "a") (of_type 5 (codes "b") ∷ []) ∷ entry (codes "b") []
    ∷ entry (codes "aa") (of_type 6 (codes "bb") ∷ []) ∷ []

-- bb is blocked as two letters, and untyped as a pair: as a variant of a ruleset it is unclear, and in version 2 one
-- way is enough. Where both ways are blocked it is clear; and without a type nothing is unclear, though one way leaves
-- b as it is. Where both ways record another type it is unclear, though without actions each has the disposition valid
pub record UnclearVariants : Type 0 where
  pub unclear : disposition (typed [] [] pair) (codes "aa") (codes "bb") ≡ Some Unclear
  pub one_way : disposition (typed [] [] pair) (codes "aa") (codes "ab") ≡ Some Blocked
  pub itself : disposition (typed [] [] pair) (codes "aa") (codes "aa") ≡ Some Allocatable
  pub in_version_two : disposition (record (empty_table Profile Two) { entries = pair }) (codes "aa") (codes "bb")
      ≡ Some Allocatable
  pub blocked_in_version_two :
      disposition (record (empty_table Profile Two) { entries = pair }) (codes "aa") (codes "ab") ≡ Some Blocked
  pub clear : disposition (typed [] [] blocked_pair) (codes "aa") (codes "bb") ≡ Some Blocked
  pub untyped : disposition (typed [] [] untyped_ways) (codes "ab") (codes "cb") ≡ Some Allocatable
  pub one_disposition : disposition (typed (codes "s" ∷ codes "t" ∷ []) [] two_types) (codes "aa") (codes "bb")
      ≡ Some Unclear

-- the lines %action allocatable any blocked, %action blocked any allocatable and 0061|!0062:0063 as allocatable: a
-- file's own actions stand before the default ones
abbrev pub exchanged : TableValue
exchanged = typed []
    (action outcomes.Allocatable Any (codes "blocked" ∷ [])
    ∷ action outcomes.Blocked Any (codes "allocatable" ∷ []) ∷ [])
    (entry (codes "a") (of_type 1 (codes "b") ∷ of_type 2 (codes "c") ∷ [])
    ∷ entry (codes "b") [] ∷ entry (codes "c") [] ∷ [])

pub record OwnActionsFirst : Type 0 where
  pub blocked : disposition exchanged (codes "a") (codes "b") ≡ Some Allocatable
  pub allocatable : disposition exchanged (codes "a") (codes "c") ≡ Some Blocked
