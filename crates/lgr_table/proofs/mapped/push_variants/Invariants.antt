use Rattle.std.proofs.Common.{map, take}
use Rattle.lgr_text.specs.Records.{variant}
use Rattle.lgr_table.specs.Entries.{variants_of}
use Rattle.lgr_table.specs.Tables.{may_stand}
use Rattle.lgr_table.specs.inner.EntrySteps.{PushesVariants}
use Rattle.lgr_table.proofs.mapped.push_variants.Given as goal

-- those before this one that the table keeps
abbrev pub invariant-loop-variant : goal.invariant-loop-variant
invariant-loop-variant l =
    PushesVariants l.definitions l.initial.mapped.items l.mapped.items
    (variants_of (may_stand l.definitions.properties) l.numbers l.source (map variant (take l.variant-index l.variants)))
