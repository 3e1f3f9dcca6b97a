-- What arises from a label where nothing is asked of its sources, as from one that a table refuses today.
use Rattle.std.specs.Prelude.{ℕ, None, List, map}
use Rattle.variant_table.specs.Entries.{Entry, TableValue}
use Rattle.variant_table.specs.Segmentations.{AreJoined}
use Rattle.variant_list.specs.declared.substitutions.Cuts.{Cuts}
use Rattle.variant_list.specs.declared.substitutions.Cuts.TheVariants.{Segmentations, Anyhow}
use Rattle.variant_list.specs.Spelling.{JoinsReplacements, Spells}

-- v arises from the label: it is cut into sources, whether their conditions hold or not, and each is replaced by
-- itself, or by a variant whose condition holds in the label where the source stands (RFC 7940, section 5.3)
abbrev pub Arises : TableValue → List ℕ → List ℕ → Type 0
Arises table label v = (cut : List Entry) × AreJoined table cut label × JoinsReplacements table label 0 cut v

-- the label gives v by cuts of this kind: it spells v by its segmentations, and v arises from it by any
abbrev pub Gives : Cuts → TableValue → List ℕ → List ℕ → Type 0
Gives Segmentations table label v = Spells table label v
Gives Anyhow table label v = Arises table label v

-- ---- the same as what a table spells of which nothing is asked

-- the entry with nothing asked of its source: it has no condition
abbrev pub unasked_entry : Entry → Entry
unasked_entry e = record e { condition = None }

abbrev pub unasked : TableValue → TableValue
unasked table = record table { entries = map unasked_entry table.entries }

-- the table of which the segmentations are the cuts of this kind
abbrev pub table_for : Cuts → TableValue → TableValue
table_for Segmentations table = table
table_for Anyhow table = unasked table
