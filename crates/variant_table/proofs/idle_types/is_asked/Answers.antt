use Rattle.std.proofs.Common.{◌∙◌, rules, tests}
use Rattle.std.proofs.lemmas.Iterator.{YieldsList-from_slice}
use Rattle.std.proofs.lemmas.Iterator.Search.{any_from_yields_List}
use Rattle.ruleset_text.specs.ActionForms.{action}
use Rattle.ruleset_text.specs.Names.{is_one_of}
use Rattle.variant_table.specs.IdleTypes.{asked_types}
use Rattle.variant_table.proofs.IdleLemmas.{list_any-map}
use Rattle.variant_table.proofs.idle_types.is_asked.Goals as goal

pub returns : goal.returns
returns c =
    let any = any_from_yields_List (λ a. is_one_of (asked_types (action a).trigger) c.args.name.now) _ _ c.any.result
    c.any.ensures.ran (YieldsList-from_slice c.args.actions.now cc) (λ x b q k. search (rules, tests)) in
    any ∙ list_any-map (λ a. is_one_of (asked_types a.trigger) c.args.name.now) action c.args.actions.now
