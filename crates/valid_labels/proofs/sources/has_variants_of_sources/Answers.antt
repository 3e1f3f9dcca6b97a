use Rattle.std.proofs.Common.{ℕ, List, take, sym, subst}
use Rattle.std.specs.List.{AllByRecursion}
use Rattle.variant_table.specs.Entries.{sequences_in}
use Rattle.variant_table.proofs.ListLemmas.{take_next}
use Rattle.variant_table.proofs.MemberLists.{all-push}
use Rattle.variant_table.specs.Segmentations.{IsMadeOfSources}
use Rattle.valid_labels.proofs.MostLemmas.{get-later}
use Rattle.valid_labels.proofs.sources.has_variants_of_sources.Goals as goal

pub loop-number-preserved : goal.loop-number-preserved
loop-number-preserved c =
    let e = c.args.entry.now in
    let P : List ℕ → Type 0 = IsMadeOfSources c.args.table.now in
    let n = c.loop-number.number in
    let s = c.replacement.result.now in
    let at = get-later e.source (sequences_in e.variants) n s c.replacement.ensures in
    subst (AllByRecursion P) (sym (take_next (sequences_in e.variants) n s at)) (all-push P (take n (sequences_in e.variants)) s c.loop-number.invariant (c.is_made_of_sources.ensures.0 c.if-not-is_made_of_sources.false))
