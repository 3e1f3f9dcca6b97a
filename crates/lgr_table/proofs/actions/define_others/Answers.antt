use Rattle.std.proofs.Common.{◌≡◌, ◌+◌, Some, None, ap, length, map, not, subst, sym, take, ◌∙◌}
use Rattle.std.specs.Prelude.{filter}
use Rattle.std.specs.Prelude.{Contains}
use Rattle.std.proofs.lemmas.Result.{err_from_is_err_and}
use Rattle.lgr_text.specs.Records.{action, condition}
use Rattle.lgr_text.specs.Demands.{rule_alone}
use Rattle.lgr_table.specs.inner.Steps.{HaveDefined}
use Rattle.lgr_table.specs.inner.TypeNames.{AreNamesOf}
use Rattle.lgr_table.proofs.ActionLemmas.{defined_more, one_more}
use Rattle.lgr_table.proofs.DemandLemmas.{is_other, none-where, other-more, other-same, rules-still, some-where, types-still}
use Rattle.lgr_table.specs.inner.FaultSteps.{KnowsRules}
use Rattle.variant_table.specs.Entries.{TableValue}
use Rattle.lgr_table.proofs.actions.define_others.Goals as goal
use Rattle.lgr_table.proofs.actions.define_others.Goals.{then-is_none+in_ok-define_action, else-is_none}

pub loop-action-preserved : goal.loop-action-preserved
loop-action-preserved c =
    let n = c.args.numbers.now in
    let t = c.args.builder.now in
    let a = action c.action-item.result in
    let old = c.loop-action.builder in
    let some = map action (take c.loop-action.action-index c.args.actions.now) in
    let more = ap (filter is_other) (one_more c.args.actions.now c.loop-action.action-index c.action-item.result c.loop-action-test.true c.action-item.is) in
    elim c.if-is_none.branch [
      | then-is_none+in_ok-define_action w ↦
          (let new = w.define_action.new.builder in
          let is : rule_alone a ≡ None = sym c.rule_alone.ensures.is ∙ none-where (λ x. condition x.now) c.rule_alone.result (c.is_none.ensures ∙ ap not w.if-is_none.true) in
          record {
            rules = ap (λ (x : TableValue). length x.definitions.rule_names) w.builder-is ∙ rules-still n a old new _ w.in_ok-define_action.ensures.added c.loop-action.invariant.rules;
            types = subst (λ (x : TableValue). AreNamesOf n x.definitions c.args.types.now) (sym w.builder-is) (types-still n a old new c.args.types.now w.in_ok-define_action.ensures.added c.loop-action.invariant.types);
            defined = subst (λ (x : TableValue). HaveDefined n t x (filter is_other (map action (take (c.loop-action.action-index + 1) c.args.actions.now)))) (sym w.builder-is)
                (subst (HaveDefined n t new) (sym (more ∙ other-more some a is))
                (defined_more n t old new (filter is_other some) a c.loop-action.invariant.defined w.in_ok-define_action.ensures.added));
          })
      | else-is_none w ↦
          (let given = some-where (λ x. condition x.now) c.rule_alone.result (c.is_none.ensures ∙ ap not w.if-is_none.false) in
          let is : rule_alone a ≡ Some given.0 = sym c.rule_alone.ensures.is ∙ given.1 in
          record {
            rules = ap (λ (x : TableValue). length x.definitions.rule_names) w.builder-is ∙ c.loop-action.invariant.rules;
            types = subst (λ (x : TableValue). AreNamesOf n x.definitions c.args.types.now) (sym w.builder-is) c.loop-action.invariant.types;
            defined = subst (λ (x : TableValue). HaveDefined n t x (filter is_other (map action (take (c.loop-action.action-index + 1) c.args.actions.now)))) (sym w.builder-is)
                (subst (HaveDefined n t old) (sym (more ∙ other-same some a given.0 is)) c.loop-action.invariant.defined);
          })
    ]

pub returns-in_err-define_action-clause-fault : goal.returns-in_err-define_action-clause-fault
returns-in_err-define_action-clause-fault c = λ may r all has knows.
    let p = err_from_is_err_and c.from_residual.result c.from_residual.ensures.1 in
    let this = c.action-item.result in
    let still = ap (λ (t : TableValue). t.definitions.rules) c.loop-action.invariant.defined.others in
    rw (p.1, p.2) (c.in_err-define_action.ensures.fault may r
    (subst (Contains r.actions.items) (sym c.action-item.is) (all c.loop-action.action-index this c.loop-action-test.true)) has
    (subst (KnowsRules may r c.args.numbers.now.rules) (sym still) knows))
