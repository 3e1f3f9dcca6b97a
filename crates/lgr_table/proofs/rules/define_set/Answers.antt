use Rattle.std.proofs.Common.{◌∷◌, [], ◌++◌, List, ap, ◌∙◌}
use Rattle.label_patterns.specs.declared.span.Span.{Span}
use Rattle.variant_table.specs.DefinitionLines.{room_for_definitions}
use Rattle.lgr_table.proofs.OtherRulesLemmas.{set-added}
use Rattle.lgr_table.specs.inner.TableNames.{names_by}
use Rattle.lgr_table.proofs.TableNameLemmas.{set-named}
use Rattle.lgr_table.proofs.rules.define_set.Goals as goal

pub returns-in-Ok-clause-sets : goal.returns-in-Ok-clause-sets
returns-in-Ok-clause-sets c =
    let t = c.args.builder.now in
    let added = set-added (room_for_definitions t) t c.define.new.self c.in_ok-name.name c.in_ok-copy.copy c.in-Ok.ensures.others c.in-Ok.ensures.added.1 in
    added.sets ∙ ap (λ (s : List Span). t.definitions.sets ++ s ∷ []) c.in_ok-copy.ensures

pub returns-in-Ok-clause-rules : goal.returns-in-Ok-clause-rules
returns-in-Ok-clause-rules c =
    let t = c.args.builder.now in
    (set-added (room_for_definitions t) t c.define.new.self c.in_ok-name.name c.in_ok-copy.copy c.in-Ok.ensures.others c.in-Ok.ensures.added.1).rules

pub returns-in-Ok-clause-others : goal.returns-in-Ok-clause-others
returns-in-Ok-clause-others c =
    let t = c.args.builder.now in
    (set-added (room_for_definitions t) t c.define.new.self c.in_ok-name.name c.in_ok-copy.copy c.in-Ok.ensures.others c.in-Ok.ensures.added.1).others

pub returns-in-Ok-clause-called : goal.returns-in-Ok-clause-called
returns-in-Ok-clause-called c = λ names are.
    let t = c.args.builder.now in
    let added = set-added (room_for_definitions t) t c.define.new.self c.in_ok-name.name c.in_ok-copy.copy c.in-Ok.ensures.others c.in-Ok.ensures.added.1 in
    set-named (names_by c.args.names) names t.definitions c.define.new.self.definitions c.in_ok-name.name _ are c.in_ok-name.ensures added.set_names added.rule_names
