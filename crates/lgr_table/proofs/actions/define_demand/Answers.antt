use Rattle.std.proofs.Common.{◌≡◌, ap, get_or, inr, length, map, refl, subst, sym, ◌∙◌, arith}
use Rattle.std.specs.Prelude.{slice_index_or}
use Rattle.std.proofs.lemmas.List.{get_or-map}
use Rattle.label_patterns.specs.Patterns.{Anchor}
use Rattle.label_patterns.specs.Trees.{pattern}
use Rattle.ruleset_text.specs.Names.{number_of}
use Rattle.lgr_text.specs.Records.{condition}
use Rattle.lgr_table.specs.Faults.{IsFaultOfTable, given}
use Rattle.lgr_table.proofs.DemandLemmas.{demand-added}
use Rattle.lgr_table.proofs.FaultLemmas.{asks-for-anchor, asks-for-none, of-action, told-anchored}
use Rattle.lgr_table.proofs.KnownLemmas.{in-map}
use Rattle.lgr_table.specs.inner.FaultSteps.{IsAnchored}
use Rattle.lgr_text.specs.declared.records.Condition.{Condition}
use Rattle.ruleset_text.specs.Definitions.{Definitions}
use Rattle.lgr_table.proofs.actions.define_demand.Goals as goal

pub returns-in-Ok-clause-added : goal.returns-in-Ok-clause-added
returns-in-Ok-clause-added c =
    let n = c.args.numbers.now in
    let t = c.args.builder.now in
    let asked = condition c.args.condition.now in
    let number : c.rule_number-number.result ≡ number_of n.rules asked.rule = c.rule_number-number.ensures.is ∙ ap (number_of n.rules) c.as_slice.ensures in
    let all : map pattern c.rules-rules.result.now ≡ t.definitions.rules = c.rules-rules.ensures.is ∙ ap (λ d. d.rules) c.definitions.ensures in
    let tree = c.index-rules-number.result in
    let at : slice_index_or t.definitions.rules (number_of n.rules asked.rule) Anchor ≡ pattern tree =
    ap (λ l. get_or l (number_of n.rules asked.rule) Anchor) (sym all) ∙ ap (λ k. get_or (map pattern c.rules-rules.result.now) k Anchor) (sym number)
    ∙ get_or-map pattern c.rules-rules.result.now c.rule_number-number.result tree Anchor c.if-number-rules-2.false ∙ ap pattern (sym c.index-rules-number.is) in
    demand-added n asked t c.define.new.self (record { kind = c.demand_kind.result; pattern = pattern c.in_ok-pattern.pattern }) _
    c.in-Ok.ensures.others
    c.in-Ok.ensures.added.1
    (record { kind = c.demand_kind.ensures; pattern = c.in_ok-pattern.ensures ∙ sym at })
    (omega (arith, number, ap length c.rules.ensures, c.if-number-rules.false))

pub returns-then-number-rules-clause-fault : goal.returns-then-number-rules-clause-fault
returns-then-number-rules-clause-fault c = λ may r a h own has knows.
    let rules = c.args.numbers.now.rules in
    let asks = c.args.condition.now in
    let number : c.rule_number-number.result ≡ number_of rules asks.rule.name = c.rule_number-number.ensures.is ∙ ap (number_of rules) c.as_slice.ensures in
    let count : length c.rules.result.now ≡ length rules = ap length c.rules.ensures in
    subst (IsFaultOfTable may r) (sym c.on.ensures) (asks-for-none may r rules asks (of-action r a h asks own) has (omega (arith, number, count)))

pub returns-in-Err-clause-fault : goal.returns-in-Err-clause-fault
returns-in-Err-clause-fault c = λ may r a h own has knows.
    let asks = c.args.condition.now in
    let line = asks.rule.line in
    told-anchored may r c.has_anchor-anchored.result line c.not_defined.result
    (λ is. asks-for-anchor may r a asks c.args.numbers.now.rules c.args.builder.now.definitions.rules line h own knows
    (subst (λ (d : Definitions). IsAnchored c.args.numbers.now.rules d.rules asks.rule.name) c.definitions-2.ensures (c.has_anchor-anchored.ensures is)) (inr refl))
    (record { action = a; among = h; here = inr (in-map (λ (k : Condition). k.rule.line) (given a.condition) asks own) })
    c.not_defined.ensures
