-- What a label spells joins sources and variants of the table.
use Rattle.std.proofs.Common.{ℕ, List}
use Rattle.variant_table.specs.Entries.{TableValue}
use Rattle.variant_table.specs.Segmentations.{IsMadeOfReplacements}
use Rattle.variant_list.specs.Spelling.{Spells}
use Rattle.variant_list.proofs.SpellingLemmas.{joins_made}

pub spelled-replacements : (table : TableValue) (label v : List ℕ) → Spells table label v → IsMadeOfReplacements table v
spelled-replacements table label v spells = joins_made table label 0 spells.0 v spells.1.of_table spells.2
