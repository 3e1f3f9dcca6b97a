use Rattle.std.proofs.Common.{◌≡◌, ◌++◌, ap, map, subst, sym, ◌∙◌}
use Rattle.std.specs.Prelude.{All, Contains, filter}
use Rattle.std.specs.List.{filter_map}
use Rattle.std.proofs.lemmas.List.Elements.{All-contains_itself, All-drop, All-take}
use Rattle.std.proofs.lemmas.Result.{err_from_is_err_and, on_ok_weaker}
use Rattle.lgr_text.specs.Records.{action, file}
use Rattle.lgr_text.specs.Demands.{following, leading, rule_alone}
use Rattle.lgr_table.specs.inner.FaultSteps.{KnowsRules}
use Rattle.lgr_table.specs.inner.Steps.{AddsDemands, HaveDefined}
use Rattle.variant_table.specs.Entries.{TableValue}
use Rattle.lgr_table.proofs.DemandLemmas.{all-defined, is_other}
use Rattle.lgr_table.proofs.actions.define_actions.Goals as goal

pub returns-clause-added : goal.returns-clause-added
returns-clause-added c =
    let r = file c.args.ruleset.now in
    let n = c.args.numbers.now in
    let t = c.args.builder.now in
    let u = c.define_demands.new.builder in
    let v = c.define_each.new.builder in
    let front = c.split_at.result.0.now in
    let back = c.split_at.result.1.now in
    let all = ap (map action) c.deref-actions.ensures.value in
    let first : map action front ≡ leading r.actions = ap (map action) c.split_at.ensures.front ∙ c.leading_len.ensures.leading ∙ ap leading all in
    let last : map action back ≡ following r.actions = ap (map action) c.split_at.ensures.back ∙ c.leading_len.ensures.following ∙ ap following all in
    let demands = subst (λ l. AddsDemands n (filter_map rule_alone l) t u) first c.in_ok-define_demands.ensures.added in
    on_ok_weaker c.define_each.result
    (λ defined. all-defined r n t u v demands
    (subst (λ l. HaveDefined n u v (filter is_other l ++ following r.actions)) first
    (subst (λ l. HaveDefined n u v (filter is_other (map action front) ++ l)) last defined)))
    (c.define_each.ensures.defined u (filter is_other (map action front)) c.in_ok-define_others.ensures.defined)

pub returns-in_err-define_demands-clause-fault : goal.returns-in_err-define_demands-clause-fault
returns-in_err-define_demands-clause-fault c = λ may has knows.
    let p = err_from_is_err_and c.from_residual.result c.from_residual.ensures.1 in
    let own = c.args.ruleset.now.actions.items in
    let all : All (Contains own) c.deref-actions.result.now = subst (All (Contains own)) (sym c.deref-actions.ensures.value) (All-contains_itself own) in
    rw (p.1, p.2) (c.in_err-define_demands.ensures.fault may c.args.ruleset.now (subst (All (Contains own)) (sym c.split_at.ensures.front) (All-take (Contains own) _ _ all)) has knows)

pub returns-in_err-define_others-clause-fault : goal.returns-in_err-define_others-clause-fault
returns-in_err-define_others-clause-fault c = λ may has knows.
    let p = err_from_is_err_and c.from_residual-in_err-define_others.result c.from_residual-in_err-define_others.ensures.1 in
    let own = c.args.ruleset.now.actions.items in
    let all : All (Contains own) c.deref-actions.result.now = subst (All (Contains own)) (sym c.deref-actions.ensures.value) (All-contains_itself own) in
    let still = ap (λ (t : TableValue). t.definitions.rules) c.in_ok-define_demands.ensures.added.others in
    rw (p.1, p.2) (c.in_err-define_others.ensures.fault may c.args.ruleset.now (subst (All (Contains own)) (sym c.split_at.ensures.front) (All-take (Contains own) _ _ all)) has (subst (KnowsRules may c.args.ruleset.now c.args.numbers.now.rules) (sym still) knows))

pub returns-clause-fault : goal.returns-clause-fault
returns-clause-fault c = λ may has knows.
    let own = c.args.ruleset.now.actions.items in
    let all : All (Contains own) c.deref-actions.result.now = subst (All (Contains own)) (sym c.deref-actions.ensures.value) (All-contains_itself own) in
    let first = ap (λ (t : TableValue). t.definitions.rules) c.in_ok-define_demands.ensures.added.others in
    let still = ap (λ (t : TableValue). t.definitions.rules) c.in_ok-define_others.ensures.defined.others ∙ first in
    c.define_each.ensures.fault may c.args.ruleset.now (subst (All (Contains own)) (sym c.split_at.ensures.back) (All-drop (Contains own) _ _ all)) has
    (subst (KnowsRules may c.args.ruleset.now c.args.numbers.now.rules) (sym still) knows)
