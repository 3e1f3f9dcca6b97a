use Rattle.std.proofs.Common.{◌≡◌, Some, None, ap, map, subst, sym, take, ◌∙◌}
use Rattle.std.specs.List.{filter_map}
use Rattle.std.specs.Option.{option_map}
use Rattle.lgr_text.specs.Records.{action, condition}
use Rattle.lgr_text.specs.Demands.{rule_alone}
use Rattle.lgr_table.specs.inner.Steps.{AddsDemands}
use Rattle.lgr_table.proofs.ActionLemmas.{one_more}
use Rattle.std.specs.Prelude.{Contains, IfSome}
use Rattle.std.proofs.lemmas.Result.{err_from_is_err_and}
use Rattle.lgr_table.specs.Faults.{given}
use Rattle.lgr_table.specs.inner.FaultSteps.{KnowsRules}
use Rattle.variant_table.specs.Entries.{TableValue}
use Rattle.lgr_table.proofs.DemandLemmas.{demanded-more, demanded-same, none-of}
use Rattle.lgr_table.proofs.actions.define_demands.Goals as goal
use Rattle.lgr_table.proofs.actions.define_demands.Goals.{in-Some+in_ok-define_demand, in_default}

pub loop-action-preserved : goal.loop-action-preserved
loop-action-preserved c =
    let n = c.args.numbers.now in
    let t = c.args.builder.now in
    let a = action c.action-item.result in
    let some = map action (take c.loop-action.action-index c.args.actions.now) in
    let more = one_more c.args.actions.now c.loop-action.action-index c.action-item.result c.loop-action-test.true c.action-item.is in
    subst (λ l. AddsDemands n (filter_map rule_alone l) t c.match-rule_alone.builder) (sym more)
    (elim c.match-rule_alone.branch [
      | in-Some+in_ok-define_demand w ↦
          (let is : rule_alone a ≡ Some (condition w.in-Some.condition.now) =
          sym c.rule_alone.ensures.is ∙ ap (option_map (λ x. condition x.now)) w.in-Some.is in
          subst (AddsDemands n _ t) (sym w.builder-is)
          (demanded-more n some a (condition w.in-Some.condition.now) t c.loop-action.builder w.define_demand.new.builder is c.loop-action.invariant w.in_ok-define_demand.ensures.added))
      | in_default w ↦
          (let is : rule_alone a ≡ None = sym c.rule_alone.ensures.is ∙ none-of (λ x. condition x.now) c.rule_alone.result w.in_default.not-Some in
          subst (AddsDemands n _ t) (sym w.builder-is) (demanded-same n some a t c.loop-action.builder is c.loop-action.invariant))
    ])

pub returns-in_err-define_demand-clause-fault : goal.returns-in_err-define_demand-clause-fault
returns-in_err-define_demand-clause-fault c = λ may r all has knows.
    let p = err_from_is_err_and c.from_residual.result c.from_residual.ensures.1 in
    let this = c.action-item.result in
    let there : Contains r.actions.items this =
    subst (Contains r.actions.items) (sym c.action-item.is) (all c.loop-action.action-index this c.loop-action-test.true) in
    let own : Contains (given this.condition) c.in-Some.condition.now =
    subst (λ o. IfSome o (λ x. Contains (given this.condition) x.now)) c.in-Some.is c.rule_alone.ensures.given in
    let still = ap (λ (t : TableValue). t.definitions.rules) c.loop-action.invariant.others in
    rw (p.1, p.2) (c.in_err-define_demand.ensures.fault may r this there own has (subst (KnowsRules may r c.args.numbers.now.rules) (sym still) knows))
