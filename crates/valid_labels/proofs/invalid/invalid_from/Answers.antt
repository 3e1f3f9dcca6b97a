use Rattle.std.proofs.Common.{Bool, sym, ap, ◌∙◌}
use Rattle.std.specs.Prelude.{Some}
use Rattle.variant_dispositions.specs.declared.action.Action.{Action}
use Rattle.variant_dispositions.specs.Actions.{is_triggered}
use Rattle.variant_dispositions.specs.Kinds.{kinds_in}
use Rattle.valid_labels.specs.declared.cause.ActionCause.{ActionCause}
use Rattle.valid_labels.specs.declared.cause.ValidityCause.TheVariants.{Action as ByAction}
use Rattle.valid_labels.specs.Actions.{matches}
use Rattle.valid_labels.proofs.ActionCauses.{invalid-at, invalid-past}
use Rattle.valid_labels.proofs.invalid.invalid_from.Goals as goal

pub returns-then-is_triggered : goal.returns-then-is_triggered
returns-then-is_triggered c =
    let test : Action → Bool = is_triggered (matches c.args.rules.now) (kinds_in c.args.kinds) in
    let n = c.loop-number.number in
    ap (λ (cause : ActionCause). Some (ByAction n cause)) c.action_cause-cause.ensures
    ∙ sym (c.loop-number.invariant ∙ invalid-at test c.args.sources.now c.args.actions.now n _ c.is_triggered.result c.loop-number-test.true c.is_triggered.ensures c.if-is_triggered.true)

pub loop-number-preserved : goal.loop-number-preserved
loop-number-preserved c =
    let test : Action → Bool = is_triggered (matches c.args.rules.now) (kinds_in c.args.kinds) in
    c.loop-number.invariant ∙ invalid-past test c.args.sources.now c.args.actions.now c.loop-number.number _ c.is_triggered.result c.loop-number-test.true c.is_triggered.ensures c.if-is_triggered.false
