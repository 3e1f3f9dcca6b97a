use Rattle.std.proofs.Common.{sym, ap, subst, map}
use Rattle.label_patterns.specs.Trees.{pattern}
use Rattle.ruleset_text.specs.ActionForms.{action}
use Rattle.ruleset_text.specs.DemandTrees.{demand}
use Rattle.ruleset_text.proofs.AddedLemmas.{IsCounted, nothing_held, nothing_counted}
use Rattle.ruleset_text.specs.Definitions.{Definitions}
use Rattle.ruleset_text.proofs.definitions.Definitions.new.Goals as goal

pub invariant_of-result : goal.invariant_of-result
invariant_of-result c =
    let d : Definitions = record {
      properties = c.args.properties;
      types = c.new.result.items;
      set_names = c.new-2.result.items;
      sets = c.new-3.result.items;
      rule_names = c.new-4.result.items;
      rules = map pattern c.new-5.result.items;
      demands = map demand c.new-6.result.items;
      actions = map action c.new-7.result.items;
    } in
    let counted : IsCounted d 4096 0 = subst (λ e. IsCounted e 4096 0)
    (sym (nothing_held d c.new.ensures.items c.new-2.ensures.items c.new-3.ensures.items c.new-4.ensures.items (ap (map pattern) c.new-5.ensures.items) (ap (map demand) c.new-6.ensures.items) (ap (map action) c.new-7.ensures.items)))
    (nothing_counted c.args.properties) in
    record { without_fault = counted.without_fault; left = counted.left; size = counted.size }
