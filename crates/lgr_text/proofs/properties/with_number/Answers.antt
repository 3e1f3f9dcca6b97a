use Rattle.std.proofs.Common.{subst, sym}
use Rattle.ucd_table.specs.Rows.{AreRanges}
use Rattle.ucd_table.proofs.RunsLemmas.{AreRanges-IsRising}
use Rattle.lgr_text.proofs.properties.with_number.Goals as goal

pub of_ranges-requires : goal.of_ranges-requires
of_ranges-requires c =
    subst AreRanges (sym c.deref.ensures.value) (AreRanges-IsRising c.in_ok-ranges.ranges.items c.in_ok-ranges.ensures.rising)
