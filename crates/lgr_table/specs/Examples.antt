-- Worked examples of entries.
use Rattle.std.specs.Prelude.{◌≡◌, ℕ, Bool, true, false, nat_lt, Option, Some, None, List, [], ◌∷◌, codes}
use Rattle.label_patterns.specs.declared.condition.ConditionKind.TheVariants.{Unless}
use Rattle.lgr_table.specs.Entries.{all_entries, entries_of, needs_type}
use Rattle.lgr_table.specs.Numbers.{Numbering, type_number}
use Rattle.lgr_text.specs.Records as lgr
use Rattle.lgr_text.specs.Records.{Condition, Range, Sequence, Source}
use Rattle.variant_table.specs.Entries.{Entry, Variant}

-- where a table may hold ASCII alone
abbrev pub ascii : ℕ → Bool
ascii c = nat_lt c 128

-- two types of the file's own, and one for variants that have none; two rules
abbrev pub some_numbers : Numbering
some_numbers = record {
  types = Some (codes "simp") ∷ Some (codes "r-simp") ∷ None ∷ [];
  rules = codes "follows-a" ∷ codes "x" ∷ [];
}

abbrev pub no_numbers : Numbering
no_numbers = record { types = []; rules = [] }

-- <var cp=".." type=".."/>
abbrev pub var : List ℕ → Option (List ℕ) → lgr.Variant
var points type = record { points = points; type_name = type; condition = None }

-- <char cp=".."> or <range ..> with these
abbrev pub entry : Source → Option Condition → List lgr.Variant → lgr.Entry
entry source condition variants =
    record { source = source; condition = condition; tags = []; variants = variants }

-- a with its reflexive variant, with a predefined type, without a type, and one that no label has
abbrev pub letter : lgr.Entry
letter = entry (Sequence (0x61 ∷ [])) None (var (0x61 ∷ []) (Some (codes "r-simp"))
    ∷ var (0x62 ∷ []) (Some (codes "blocked")) ∷ var (0x62 ∷ 0x63 ∷ []) None
    ∷ var (0xE9 ∷ []) (Some (codes "simp")) ∷ [])

-- one that stays by a variant of no type
abbrev pub untyped_letter : lgr.Entry
untyped_letter = entry (Sequence (0x62 ∷ [])) None (var (0x62 ∷ []) None ∷ [])

-- one whose variants have types
abbrev pub typed_letter : lgr.Entry
typed_letter = entry (Sequence (0x61 ∷ [])) None (var (0x62 ∷ []) (Some (codes "blocked")) ∷ [])

-- one whose variant in labels has none, and one that no label has
abbrev pub mixed_letter : lgr.Entry
mixed_letter = entry (Sequence (0x61 ∷ [])) None (var (0x62 ∷ []) None ∷ var (0xE9 ∷ []) (Some (codes "blocked")) ∷ [])

abbrev pub outside_letter : lgr.Entry
outside_letter =
    entry (Sequence (0xE9 ∷ [])) None (var (0x61 ∷ []) (Some (codes "blocked")) ∷ var (0x62 ∷ []) None ∷ [])

-- three digits, not where the second rule holds
abbrev pub digits : lgr.Entry
digits = entry (Range (record { first = 0x30; last = 0x32 })) (Some (record { kind = Unless; rule = codes "x" })) []

abbrev pub variant : Option ℕ → List ℕ → Variant
variant type points = record { sequence = points; type = type; condition = None }

abbrev pub digit : ℕ → Entry
digit c = record { source = c ∷ []; type = None; condition = Some (record { kind = Unless; rule = 1 }); variants = [] }

pub record EntriesOfExamples : Type 0 where
  pub predefined : type_number some_numbers (Some (codes "valid")) ≡ Some 4
  pub own : type_number some_numbers (Some (codes "r-simp")) ≡ Some 6
  pub untyped : type_number some_numbers None ≡ Some 7
  pub untyped_none : type_number no_numbers None ≡ None
  pub unknown : type_number some_numbers (Some (codes "trad")) ≡ None
  pub of_letter : entries_of ascii some_numbers letter ≡ record {
    source = 0x61 ∷ [];
    type = Some 6;
    condition = None;
    variants = variant (Some 1) (0x62 ∷ []) ∷ variant (Some 7) (0x62 ∷ 0x63 ∷ []) ∷ [];
  } ∷ []
  pub reflexive : entries_of ascii some_numbers untyped_letter
      ≡ record { source = 0x62 ∷ []; type = Some 7; condition = None; variants = [] } ∷ []
  pub without_types : entries_of ascii no_numbers untyped_letter
      ≡ record { source = 0x62 ∷ []; type = None; condition = None; variants = [] } ∷ []
  pub range : entries_of ascii some_numbers digits ≡ digit 0x30 ∷ digit 0x31 ∷ digit 0x32 ∷ []
  pub end_of_range : entries_of ascii no_numbers (entry (Range (record { first = 0x7F; last = 0x81 })) None [])
      ≡ record { source = 0x7F ∷ []; type = None; condition = None; variants = [] } ∷ []
  pub no_label_has_it : entries_of ascii no_numbers (entry (Sequence (0x61 ∷ 0xE9 ∷ [])) None []) ≡ []
  pub in_order : all_entries ascii some_numbers (digits ∷ untyped_letter ∷ [])
      ≡ digit 0x30 ∷ digit 0x31 ∷ digit 0x32
      ∷ record { source = 0x62 ∷ []; type = Some 7; condition = None; variants = [] } ∷ []
  pub staying : needs_type ascii (letter ∷ untyped_letter ∷ []) ≡ true
  pub untyped_beside_types : needs_type ascii (letter ∷ []) ≡ false
  pub without_any : needs_type ascii (untyped_letter ∷ []) ≡ false
  pub each_typed : needs_type ascii (typed_letter ∷ []) ≡ false
  pub types_in_no_label : needs_type ascii (mixed_letter ∷ outside_letter ∷ []) ≡ true
  pub nothing_in_a_label : needs_type ascii (outside_letter ∷ []) ≡ false
