use Rattle.std.proofs.Common.{ap, inl, refl, subst, ◌∙◌}
use Rattle.std.proofs.lemmas.Result.{err_from_is_err_and}
use Rattle.lgr_table.proofs.ActionLemmas.{action_added, are_called, says_action}
use Rattle.lgr_table.proofs.FaultLemmas.{asks-for-anchor, of-action, told-anchored, told-disposition}
use Rattle.lgr_table.specs.inner.FaultSteps.{IsAnchored}
use Rattle.ruleset_text.specs.Definitions.{Definitions}
use Rattle.lgr_table.proofs.actions.define_action.Goals as goal

pub returns-in-Ok-define-clause-added : goal.returns-in-Ok-define-clause-added
returns-in-Ok-define-clause-added c =
    let names = c.rule_names.ensures.is ∙ ap (λ d. d.rule_names) c.definitions.ensures in
    action_added c.args.numbers.now _ c.args.builder.now c.define.new.self _ _ c.in-Ok-define.ensures.others c.in-Ok-define.ensures.added.1
    (says_action c.args.numbers.now c.args.builder.now.definitions _ _ _ _
    (are_called c.args.numbers.now c.args.builder.now.definitions c.args.types.now _ _ c.rules.ensures names c.deref.ensures.value c.deref-2.ensures.value c.requires.types)
    c.in-Ok.ensures.says)
    c.in_ok-check_rule.ensures.among

pub returns-in_err-check_rule-clause-fault : goal.returns-in_err-check_rule-clause-fault
returns-in_err-check_rule-clause-fault c = λ may r among has knows.
    let p = err_from_is_err_and c.from_residual.result c.from_residual.ensures.1 in
    rw (p.1, p.2) (c.in_err-check_rule.ensures.fault may r (of-action r c.args.action.now among) has)

pub returns-in-Err-define-clause-fault : goal.returns-in-Err-define-clause-fault
returns-in-Err-define-clause-fault c = λ may r among has knows.
    let a = c.args.action.now in
    told-anchored may r c.asks_for_anchor-anchored.result a.line c.not_defined.result
    (λ is. (let asks = c.asks_for_anchor-anchored.ensures is in
    asks-for-anchor may r a asks.0 c.args.numbers.now.rules c.args.builder.now.definitions.rules a.line among asks.1 knows
    (subst (λ (d : Definitions). IsAnchored c.args.numbers.now.rules d.rules asks.0.rule.name) c.definitions-2.ensures asks.2) (inl refl)))
    (record { action = a; among = among; here = inl refl })
    c.not_defined.ensures

pub returns-in-Err-clause-fault : goal.returns-in-Err-clause-fault
returns-in-Err-clause-fault c = λ may r among has knows.
    told-disposition may r c.args.action.now (record { names = c.rules.result; written = c.rule_names.result })
    (record { names = c.deref.result; written = c.deref-2.result }) c.in-Err.error c.of_action.result among c.in-Err.ensures.fault c.of_action.ensures
