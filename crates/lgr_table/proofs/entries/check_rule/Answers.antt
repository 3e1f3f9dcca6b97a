use Rattle.std.proofs.Common.{◌≡◌, ◌<◌, ◌≤◌, length, ap, refl, subst, sym, ◌∙◌, arith}
use Rattle.std.specs.Prelude.{Contains}
use Rattle.std.specs.Option.{option_map}
use Rattle.lgr_text.specs.Records.{condition}
use Rattle.lgr_table.specs.Faults.{IsFaultOfTable, given}
use Rattle.lgr_table.proofs.CalledLemmas.{asked-among}
use Rattle.lgr_table.proofs.FaultLemmas.{asks-for-none}
use Rattle.ruleset_text.specs.Names.{number_of}
use Rattle.lgr_table.proofs.entries.check_rule.Goals as goal

pub returns-then-rule_number-rules-clause-among : goal.returns-then-rule_number-rules-clause-among
returns-then-rule_number-rules-clause-among c =
    let rules = c.args.numbers.now.rules in
    let asks = c.in-Some.condition in
    let number : c.rule_number.result ≡ number_of rules asks.rule.name = c.rule_number.ensures.is ∙ ap (number_of rules) c.as_slice.ensures in
    let count : length c.rules.result.now ≡ length rules = ap length c.rules.ensures in
    let less : number_of rules asks.rule.name < length rules = omega (arith, number, count) in
    asked-among rules (option_map condition c.args.condition.now) (condition asks) (ap (option_map condition) c.in-Some.is) less

pub returns-else-rule_number-rules-clause-fault : goal.returns-else-rule_number-rules-clause-fault
returns-else-rule_number-rules-clause-fault c = λ may r among has.
    let rules = c.args.numbers.now.rules in
    let asks = c.in-Some.condition in
    let number : c.rule_number.result ≡ number_of rules asks.rule.name = c.rule_number.ensures.is ∙ ap (number_of rules) c.as_slice.ensures in
    let count : length c.rules.result.now ≡ length rules = ap length c.rules.ensures in
    let none : length rules ≤ number_of rules asks.rule.name = omega (arith, number, count) in
    let here : Contains (given c.args.condition.now) asks = subst (λ o. Contains (given o) asks) (sym c.in-Some.is) (0, omega arith, refl) in
    subst (IsFaultOfTable may r) (sym c.on.ensures) (asks-for-none may r rules asks (among asks here) has none)
