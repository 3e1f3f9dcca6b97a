use Rattle.std.proofs.Common.{eqb, eq-eqb, length, subst}
use Rattle.std.proofs.lemmas.Bool.{eqb-true}
use Rattle.valid_labels.specs.inner.Singles.{AreHoldingSteps}
use Rattle.variant_table.specs.Entries.{TableValue}
use Rattle.valid_labels.specs.Eligible.{IsCutEnd}
use Rattle.valid_labels.proofs.EligibleLemmas.{end-tests}
use Rattle.valid_labels.proofs.SingleLemmas.{holding-steps}
use Rattle.valid_labels.proofs.valid.is_eligible.Goals as goal

pub cut_end-requires-clause-steps : goal.cut_end-requires-clause-steps
cut_end-requires-clause-steps c =
    holding-steps c.args.segments.now c.table-table.result.now c.definitions.result.now c.args.seen.now c.args.label.now c.args.singles.now c.holding_steps-steps.result
    c.recall_soundness.ensures.sound.entries c.table-table.ensures c.definitions.ensures.is c.requires.seen c.requires.singles
    (subst (λ rules. AreHoldingSteps rules c.args.seen.now c.args.singles.now c.holding_steps-steps.result) c.rules.ensures.is c.holding_steps-steps.ensures)

pub returns : goal.returns
returns c =
    let place = c.cut_end.result in
    let label = c.args.label.now in
    end-tests c.args.segments.now label place (eqb place (length label)) c.recall_soundness.ensures.sound.entries
    (subst (λ (t : TableValue). IsCutEnd t label place) c.table-table.ensures c.cut_end.ensures.end) (eqb-true place (length label), eq-eqb place (length label))
