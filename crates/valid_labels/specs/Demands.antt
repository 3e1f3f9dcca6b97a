-- The demands of a table on each label (RFC 7940, section 7).
use Rattle.std.specs.Prelude.{ℕ, List}
use Rattle.std.specs.List.{AllByRecursion}
use Rattle.label_patterns.specs.Matches.{Seen}
use Rattle.label_patterns.specs.Rules.{Occurs}
use Rattle.ruleset_text.specs.declared.definition.DemandKind.TheVariants.{Never, Always}
use Rattle.ruleset_text.specs.declared.definition.DemandKind.{DemandKind}
use Rattle.ruleset_text.specs.Definitions.{Demand}
use Rattle.variant_table.specs.Entries.{TableValue}
use Rattle.variant_table.specs.Segmentations.{seen_under}

-- no part of the label may match the pattern, or some part has to
abbrev pub IsWanted : DemandKind → Type 0 → Type 0
IsWanted Never Occurring = ¬ Occurring
IsWanted Always Occurring = Occurring

abbrev pub IsMet : Seen → Demand → Type 0
IsMet seen d = IsWanted d.kind (Occurs seen d.pattern)

-- the label meets each demand of the table
abbrev pub MeetsDemands : TableValue → List ℕ → Type 0
MeetsDemands table label = AllByRecursion (IsMet (seen_under table label)) table.definitions.demands
