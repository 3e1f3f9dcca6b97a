use Rattle.std.proofs.Common.{◌≡◌, ◌<◌, Some, length, get_or, [], sym, ap, ◌∙◌, arith}
use Rattle.std.specs.Option.{option_map}
use Rattle.std.proofs.lemmas.List.{get_or_read}
use Rattle.lgr_text.specs.Records.{condition}
use Rattle.lgr_table.specs.Numbers.{numbered_condition}
use Rattle.lgr_table.proofs.CalledLemmas.{condition-back}
use Rattle.ruleset_text.specs.Names.{number_of}
use Rattle.lgr_table.proofs.mapped.condition_called.Goals as goal

pub returns : goal.returns
returns c =
    let d = c.args.definitions.now in
    let n = c.args.numbers.now in
    let asks = c.in-Some.condition in
    let k = c.rule_number-number.result in
    let this = c.index-names-number.result in
    let names : c.rule_names-names.result.now ≡ d.rule_names = c.rule_names-names.ensures.is in
    let number : k ≡ number_of n.rules asks.rule.name = c.rule_number-number.ensures.is ∙ ap (number_of n.rules) c.as_slice-wanted.ensures in
    let there : k < length c.rule_names-names.result.now = omega arith in
    let less : k < length d.rule_names = omega (arith, there, ap length names) in
    let named : c.in_ok-rule.rule ≡ get_or d.rule_names k [] =
    c.in_ok-rule.ensures ∙ c.as_slice-written.ensures ∙ get_or_read c.rule_names-names.result.now k this there c.index-names-number.is []
    ∙ ap (λ l. get_or l k []) names in
    ap (λ r. Some (record { kind = asks.kind; rule = r })) (condition-back d n (condition asks) k c.in_ok-rule.rule c.set_names-names.ensures.without_fault number less named)
    ∙ ap (λ o. option_map (numbered_condition n) (option_map condition o)) (sym c.in-Some.is)
