use Rattle.std.proofs.Common.{Result, Ok, Err}
use Rattle.std.specs.Prelude.{OnOk}
use Rattle.ruleset_text.proofs.DefinitionsTextLemmas.{all_pushed}
use Rattle.ruleset_text.proofs.definitions.Definitions.push_lines.Goals as goal

on_ok : {X E : Type 0} {P Q : Type 0} (r : Result X E) → (P → Q) → OnOk r P → OnOk r Q
on_ok (Ok x) f p = f p
on_ok (Err e) f p = tt

pub returns : goal.returns
returns c =
    on_ok c.push_actions.result
    (all_pushed c.args.self.now c.args.out.now.items c.push_types.new.out.items c.push_sets.new.out.items c.push_rules.new.out.items c.push_demands.new.out.items c.push_actions.new.out.items
    (c.in_ok-push_types.ensures {u = tt}) (c.in_ok-push_sets.ensures {u = tt}) (c.in_ok-push_rules.ensures {u = tt}) (c.in_ok-push_demands.ensures {u = tt}))
    c.push_actions.ensures
