use Rattle.valid_labels.proofs.MostLemmas.{longest-short}
use Rattle.valid_labels.proofs.segments.Segments.of_table.Goals as goal

pub invariant_of-result : goal.invariant_of-result
invariant_of-result c = record {
  longest = c.longest_source-longest.ensures.longest;
  short = longest-short c.args.table.now c.longest_source-longest.result c.longest_source-longest.ensures.well_formed c.longest_source-longest.ensures.longest;
  asks = c.requires;
}
