use Rattle.std.proofs.Common.{Ok, Some, refl, sym, ap, ◌∙◌}
use Rattle.ruleset_text.specs.Definition.{Definition}
use Rattle.ruleset_text.specs.DefinitionTrees as trees
use Rattle.ruleset_text.proofs.DefineLemmas.{no_fault}
use Rattle.ruleset_text.proofs.definitions.Definitions.push.Goals as goal

pub returns-clause-added : goal.returns-clause-added
returns-clause-added c =
    let x : Definition = trees.definition c.args.definition in
    let fresh = c.in_ok-len.ensures {u = tt} in
    (fresh.form, no_fault c.args.limit c.args.self.now (Some x) x refl fresh.faultless ∙ ap (λ e. Ok e) (sym (c.in_ok-add.ensures {u = tt}).ok))
