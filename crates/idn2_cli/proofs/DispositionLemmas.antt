-- What is written of a variant graph is the block of its label.
use Rattle.std.proofs.Common.{◌≡◌, ◌&&◌, ℕ, List, Option, None, ap, ◌∙◌}
use Rattle.variant_list.specs.Positions.{Built}
use Rattle.variant_list.specs.Spelled.{spelled}
use Rattle.variant_list.specs.Beginnings.{has_no_dead_prefix}
use Rattle.variant_list.specs.Tested.{tested_among}
use Rattle.variant_list.specs.Variants.{candidates_among, fits_label, in_order, variants_among}
use Rattle.variant_list.specs.Visited.{visited}
use Rattle.variant_list.proofs.NetLabels.{among-in_order}
use Rattle.valid_labels.specs.Testing.{Testing}
use Rattle.idn2_options.specs.Settings.{Settings}
use Rattle.answer_json.specs.declared.block.Disposition.{Disposition}
use Rattle.idn2_answers.specs.Listings.{Filter, block, block_to, filter_of, lesser_label, nth, nth_if_given, variant_by}
use Rattle.idn2_answers.specs.Said.{Said}
use Rattle.idn2_cli.specs.inner.Blocks.{field_in}
use Rattle.idn2_cli.specs.inner.Dispositions.{Listing, block_by}
use Rattle.idn2_cli.specs.inner.Ruling.{filter_for, ruling_in, ruling_of}
use Rattle.idn2_output.specs.OutputLines.{outputs}
use Rattle.idn2_cli.proofs.RuledFilters.{filter_for-ruling}

-- the block of labels that are the same in order
block-same : (f : Filter) (field : List ℕ → Option Disposition) (o : Settings) (labels others : List (List ℕ)) → in_order labels ≡ in_order others → block_by f field o labels ≡ block_by f field o others
block-same f field o labels others same =
    ap (λ (vs : List (List ℕ)). of_lists vs (tested_among f.hopeless labels o.after) (candidates_among labels o.after)) (among-in_order f.accepts labels others o.after same)
    ∙ ap (λ (ts : List (List ℕ)). of_lists (variants_among f.accepts others o.after) ts (candidates_among labels o.after)) (among-in_order (λ v. fits_label v && has_no_dead_prefix f.hopeless v) labels others o.after same)
    ∙ ap (of_lists (variants_among f.accepts others o.after) (tested_among f.hopeless others o.after)) (among-in_order fits_label labels others o.after same)
  where
    of_lists : List (List ℕ) → List (List ℕ) → List (List ℕ) → List Said
    of_lists vs ts cs =
        block_to (variant_by field) (lesser_label (nth_if_given vs o.limit) (lesser_label (nth ts o.tries) (nth_if_given (visited f.hopeless None cs) o.steps))) vs

-- what is written of a variant graph is the block
pub written_block : (text : Said → List ℕ) (o : Settings) (of : Listing) (net : Built) (test : Option Testing) → in_order net.spelled ≡ in_order (spelled of.table of.label) → ruling_in test ≡ ruling_of of.table
    → outputs text (block_by (filter_for o.properties test of) (field_in o of) o net.spelled) ≡ outputs text (block o of.table of.label)
written_block text o of net test same is =
    ap (outputs text) (
    ap (λ (f : Filter). block_by f (field_in o of) o net.spelled) (filter_for-ruling o.properties test of is)
    ∙ block-same (filter_of o.properties of.table of.label) (field_in o of) o net.spelled (spelled of.table of.label) same
    )
