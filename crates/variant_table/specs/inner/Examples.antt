-- Definitions of examples.
use Rattle.std.specs.Prelude.{◌≡◌, ℕ, Bool, List, Result, Ok, Err, Option, Some, None, [], ◌∷◌, ◌++◌, map, codes}
use Rattle.std.specs.List.{AllByRecursion, flat_map, list_any}
use Rattle.label_patterns.specs.declared.condition.ConditionKind.{ConditionKind}
use Rattle.ruleset_text.specs.Definitions.{Definitions, nothing_defined}
use Rattle.ruleset_text.specs.Lexemes.{lexemes}
use Rattle.variant_table.specs.declared.version.Version.{Version}
use Rattle.variant_table.specs.declared.version.Version.TheVariants.{Three}
use Rattle.variant_table.specs.Conditions.{has_repeat}
use Rattle.variant_table.specs.Canonical.{canonical_line, table_text}
use Rattle.variant_table.specs.declared.version.Notation.TheVariants.{Ruleset}
use Rattle.variant_table.specs.Entries.{Entry, TableValue, Variant}
use Rattle.variant_table.specs.Faults.{LineFault}
use Rattle.variant_table.specs.Reading.{◌>>=◌, form_in, named_entries, table_of_text}
use Rattle.idn_class.specs.declared.properties.Properties.TheVariants.{Profile}

abbrev pub two_types : Definitions
two_types = record (nothing_defined Profile) { types = codes "t" ∷ codes "v" ∷ [] }

-- the entries of the lexemes of a line
abbrev pub entries_in : Version → Definitions → List (List ℕ) → Result (List Entry) LineFault
entries_in version definitions words = form_in version words >>= named_entries definitions

-- a ruleset with these lines
abbrev pub ruleset_of : List (List ℕ) → List ℕ
ruleset_of lines = codes "%version 3" ++ flat_map (λ line. 10 ∷ line) lines

-- what is told of it
abbrev pub told : List (List ℕ) → Result TableValue (ℕ × LineFault)
told lines = table_of_text Profile Ruleset (ruleset_of lines)

abbrev pub text_told : Result TableValue (ℕ × LineFault) → Option (List ℕ)
text_told (Ok t) = Some (table_text t.version t.definitions t.entries)
text_told (Err fault) = None

-- two types and a rule
abbrev pub three_lines : List (List ℕ)
three_lines = codes "%type t" ∷ codes "%type v" ∷ codes "%rule r _" ∷ []

-- each of these lines has the fault after the three
abbrev pub EachTold : LineFault → List (List ℕ) → Type 0
EachTold fault lines = AllByRecursion (λ line. told (three_lines ++ line ∷ []) ≡ Err (5, fault)) lines

-- two types and two rules by their names
abbrev pub four_names : Definitions
four_names = record (nothing_defined Profile) {
  types = codes "simp" ∷ codes "trad" ∷ [];
  rule_names = codes "r" ∷ codes "s" ∷ [];
}

-- the entries that a line of a ruleset spells after these
abbrev pub spelled : List ℕ → Result (List Entry) LineFault
spelled line = entries_in Three four_names (lexemes line)

-- whether some of them has a repeat
abbrev pub repeated : List ℕ → Result Bool LineFault
repeated line = spelled line >>= λ entries. Ok (list_any has_repeat entries)

-- their canonical lines
abbrev pub written : List ℕ → Result (List (List ℕ)) LineFault
written line = spelled line >>= λ entries. Ok (map (canonical_line four_names) entries)

-- a variant of one code point, or a source, under a condition
abbrev pub conditional : Option ℕ → ℕ → ConditionKind × ℕ → Variant
conditional type c k = record { sequence = c ∷ []; type = type; condition = Some (record { kind = k.0; rule = k.1 }) }
