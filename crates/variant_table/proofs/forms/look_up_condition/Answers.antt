use Rattle.std.proofs.Common.{◌≡◌, ◌<◌, length, true, ap, sym, ◌∙◌, arith}
use Rattle.ruleset_text.specs.Names.{number_of}
use Rattle.variant_table.specs.Forms.{knows_rule}
use Rattle.variant_table.proofs.NumberLemmas.{number_below}
use Rattle.variant_table.proofs.forms.look_up_condition.Goals as goal

pub overflow_cast-result : goal.overflow_cast-result
overflow_cast-result c =
    let d = c.args.definitions.now in
    let name = c.in-Some.condition.rule in
    let is : c.number_of-rule.result ≡ number_of d.rule_names name =
    c.number_of-rule.ensures.is ∙ ap (λ n. number_of n c.as_slice.result.now) c.rule_names.ensures.is ∙ ap (number_of d.rule_names) c.as_slice.ensures in
    let known : knows_rule d c.args.condition.now ≡ true = c.requires in
    let below : number_of d.rule_names name < length d.rule_names = number_below d.rule_names name (sym (ap (knows_rule d) c.in-Some.is) ∙ known) in
    omega (arith, is, below, c.rule_names.ensures.few)
