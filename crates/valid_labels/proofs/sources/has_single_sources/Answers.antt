use Rattle.std.proofs.Common.{◌≡◌, length, true, false, take, sym, ap, subst, ◌∙◌}
use Rattle.std.specs.List.{AllByRecursion, Contains}
use Rattle.std.proofs.lemmas.List.Elements.{All-contains, All-from_recursion}
use Rattle.variant_table.specs.Entries.{Entry, sequences_in}
use Rattle.variant_table.proofs.ListLemmas.{take_next}
use Rattle.variant_table.proofs.MemberLists.{all-push}
use Rattle.variant_table.specs.Segmentations.{IsMadeOfSources}
use Rattle.valid_labels.proofs.EligibleLemmas.{opposite}
use Rattle.valid_labels.proofs.MostLemmas.{get-inside, variants-short}
use Rattle.valid_labels.proofs.sources.has_single_sources.Goals as goal
use Rattle.valid_labels.proofs.sources.has_single_sources.Goals.{then-source-ne1-via-then-source-ne1, then-source-ne1-via-else-source-ne1+then-not-has_variants_of_sources}

pub has_variants_of_sources-requires : goal.has_variants_of_sources-requires
has_variants_of_sources-requires c =
    let entries = c.args.table.now.entries in
    record { short = variants-short entries c.entry-entry.result c.len-number-end.ensures.well_formed (get-inside entries c.loop-number.number c.entry-entry.result c.entry-entry.ensures) }

pub returns-then-source-ne1 : goal.returns-then-source-ne1
returns-then-source-ne1 c = (
  λ h. absurd (let f : false ≡ true = h in cc),
  λ h.
      let table = c.args.table.now in
      let e = c.entry-entry.result in
      let among : Contains table.entries e = get-inside table.entries c.loop-number.number e c.entry-entry.ensures in
      let P : Entry → Type 0 = λ x. length x.source ≡ 1 in
      let Q : Entry → Type 0 = λ x. AllByRecursion (IsMadeOfSources table) (sequences_in x.variants) in
      let one : length e.source ≡ 1 = All-contains P table.entries e (All-from_recursion P table.entries h.0) among in
      let made : AllByRecursion (IsMadeOfSources table) (sequences_in e.variants) = All-contains Q table.entries e (All-from_recursion Q table.entries h.1) among in
      elim c.then-source-ne1.branch [
        | then-source-ne1-via-then-source-ne1 w ↦ absurd (w.if-source-ne1.true (ap length c.source.ensures ∙ one))
        | then-source-ne1-via-else-source-ne1+then-not-has_variants_of_sources w ↦ opposite w.has_variants_of_sources.result (w.has_variants_of_sources.ensures.1 made) w.if-not-has_variants_of_sources.true
      ],
)

pub loop-number-preserved : goal.loop-number-preserved
loop-number-preserved c =
    let table = c.args.table.now in
    let e = c.entry-entry.result in
    let n = c.loop-number.number in
    let next = take_next table.entries n e c.entry-entry.ensures in
    let P : Entry → Type 0 = λ x. length x.source ≡ 1 in
    let Q : Entry → Type 0 = λ x. AllByRecursion (IsMadeOfSources table) (sequences_in x.variants) in
    record {
      points = subst (AllByRecursion P) (sym next) (all-push P (take n table.entries) e c.loop-number.invariant.points (ap length (sym c.source.ensures) ∙ c.if-source-ne1.false));
      made = subst (AllByRecursion Q) (sym next) (all-push Q (take n table.entries) e c.loop-number.invariant.made (c.has_variants_of_sources.ensures.0 c.if-not-has_variants_of_sources.false));
    }
