use Rattle.std.proofs.Common.{◌++◌, ◌∷◌, [], ap, map, subst, sym, take, append_assoc, ◌∙◌}
use Rattle.std.specs.Prelude.{Contains}
use Rattle.std.proofs.lemmas.Result.{err_from_is_err_and}
use Rattle.lgr_text.specs.Records.{action}
use Rattle.lgr_table.specs.inner.FaultSteps.{KnowsRules}
use Rattle.lgr_table.specs.inner.Steps.{HaveDefined}
use Rattle.variant_table.specs.Entries.{TableValue}
use Rattle.lgr_table.proofs.ActionLemmas.{defined_more, one_more}
use Rattle.lgr_table.proofs.DemandLemmas.{rules-still, types-still}
use Rattle.lgr_table.proofs.actions.define_each.Goals as goal

pub loop-action-preserved : goal.loop-action-preserved
loop-action-preserved c =
    let n = c.args.numbers.now in
    let a = action c.action-item.result in
    let old = c.loop-action.builder in
    let new = c.define_action.new.builder in
    let some = map action (take c.loop-action.action-index c.args.actions.now) in
    let more = one_more c.args.actions.now c.loop-action.action-index c.action-item.result c.loop-action-test.true c.action-item.is in
    record {
      still = ap (λ (t : TableValue). t.definitions.rules) c.in_ok-define_action.ensures.added.added ∙ c.loop-action.invariant.still;
      rules = rules-still n a old new _ c.in_ok-define_action.ensures.added c.loop-action.invariant.rules;
      types = types-still n a old new c.args.types.now c.in_ok-define_action.ensures.added c.loop-action.invariant.types;
      defined = λ t before h.
          subst (HaveDefined n t new) (append_assoc before some (a ∷ []) ∙ ap (λ l. before ++ l) (sym more))
          (defined_more n t old new (before ++ some) a (c.loop-action.invariant.defined t before h) c.in_ok-define_action.ensures.added);
    }

pub returns-in_err-define_action-clause-fault : goal.returns-in_err-define_action-clause-fault
returns-in_err-define_action-clause-fault c = λ may r all has knows.
    let p = err_from_is_err_and c.from_residual.result c.from_residual.ensures.1 in
    let this = c.action-item.result in
    rw (p.1, p.2) (c.in_err-define_action.ensures.fault may r
    (subst (Contains r.actions.items) (sym c.action-item.is) (all c.loop-action.action-index this c.loop-action-test.true)) has
    (subst (KnowsRules may r c.args.numbers.now.rules) (sym c.loop-action.invariant.still) knows))
