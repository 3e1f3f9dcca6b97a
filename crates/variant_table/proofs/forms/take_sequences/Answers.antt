use Rattle.std.proofs.Common.{◌≡◌, ◌≤◌, ◌++◌, ◌∷◌, [], length, true, map, ap, sym, ◌∙◌, arith}
use Rattle.ruleset_text.specs.EntryForms.{mapped}
use Rattle.variant_table.specs.Forms.{knows_names, source_mark, variant_mark, variant_by, sequences_of}
use Rattle.variant_table.proofs.FormSteps.{all_known, after_first, after_of_all, first_taken, more_taken, all_taken}
use Rattle.variant_table.proofs.forms.take_sequences.Goals as goal

pub loop-variant-init : goal.loop-variant-init
loop-variant-init c =
    let d = c.args.definitions.now in
    c.in_ok-take_sequence.ensures ∙ ap (λ t. t ++ variant_by source_mark d (mapped c.source-item.result) ∷ []) c.clear.ensures
    ∙ first_taken d c.args.mapped.now c.source-item.result c.in-len1-up.len_at_least c.source-item.is

pub take_sequence-requires-in-loop-variant-clause-known : goal.take_sequence-requires-in-loop-variant-clause-known
take_sequence-requires-in-loop-variant-clause-known c =
    let d = c.args.definitions.now in
    after_of_all (λ m. knows_names d m ≡ true) c.args.mapped.now c.loop-variant.variant-index c.variant-item.result c.loop-variant-test.true c.variant-item.is
    (all_known (knows_names d) (map mapped c.args.mapped.now) c.requires)

pub loop-variant-preserved : goal.loop-variant-preserved
loop-variant-preserved c =
    let d = c.args.definitions.now in
    c.in_ok-take_sequence-2.ensures ∙ ap (λ t. t ++ variant_by variant_mark d (mapped c.variant-item.result) ∷ []) c.loop-variant.invariant
    ∙ (let more = more_taken d c.args.mapped.now c.loop-variant.variant-index c.variant-item.result c.loop-variant-test.true c.variant-item.is in sym more)

pub returns : goal.returns
returns c =
    let d = c.args.definitions.now in
    let over : length (after_first c.args.mapped.now) ≤ c.loop-variant.variant-index = omega (arith, c.loop-variant-test.false) in
    c.loop-variant.invariant ∙ ap (λ t. sequences_of d (map mapped t)) (all_taken c.args.mapped.now c.loop-variant.variant-index c.in-len1-up.len_at_least over)
