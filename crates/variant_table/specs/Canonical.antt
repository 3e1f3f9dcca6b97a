-- The canonical text of a table: after the version line that version 2 and 3 have, one definition on each line, then
-- one entry on each line.
use Rattle.std.specs.Prelude.{ℕ, ◌==◌, None, List, [], ◌∷◌, ◌++◌, codes, if◌then◌else◌}
use Rattle.std.specs.List.{flat_map}
use Rattle.ruleset_text.specs.Definitions.{Definitions, definitions_text}
use Rattle.ruleset_text.specs.Entries.{Mapped}
use Rattle.ruleset_text.specs.EntryText.{entry_text}
use Rattle.variant_table.specs.declared.version.Notation.{Notation}
use Rattle.variant_table.specs.declared.version.Notation.TheVariants.{Table, Ruleset}
use Rattle.variant_table.specs.declared.version.Version.{Version}
use Rattle.variant_table.specs.declared.version.Version.TheVariants.{One, Two, Three}
use Rattle.variant_table.specs.Entries.{Entry}
use Rattle.variant_table.specs.Forms.{as_written, normal}

-- what stands before the variant of this number, from 0: '|' before the first, ':' before each other one
abbrev pub separator : ℕ → ℕ
separator variant = if variant == 0 then 124 else 58

-- the canonical line of an entry, without its line feed; its types and its conditions go by the names that are defined
abbrev pub canonical_line : Definitions → Entry → List ℕ
canonical_line definitions e = entry_text (as_written definitions e) None

-- the canonical text of entries: for each its line and a line feed
abbrev pub canonical_text : Definitions → List Entry → List ℕ
canonical_text definitions table = flat_map (λ e. canonical_line definitions e ++ 10 ∷ []) table

-- that of entries as lines write them
abbrev pub written_text : List (List Mapped) → List ℕ
written_text entries = flat_map (λ e. entry_text (normal e) None ++ 10 ∷ []) entries

-- the line that begins a text of version 2, and that of a ruleset
abbrev pub version_line : Notation → List ℕ
version_line Table = codes "%version 2"
version_line Ruleset = codes "%version 3"

-- what a text begins with: in version 1 nothing, in others the version line and its line feed
abbrev pub head_text : Version → List ℕ
head_text One = []
head_text Two = version_line Table ++ 10 ∷ []
head_text Three = version_line Ruleset ++ 10 ∷ []

-- the canonical text of a table of this version, with these definitions
abbrev pub table_text : Version → Definitions → List Entry → List ℕ
table_text version definitions table =
    head_text version ++ (definitions_text definitions ++ canonical_text definitions table)
