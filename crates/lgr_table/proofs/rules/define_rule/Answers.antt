use Rattle.label_patterns.specs.Trees.{pattern}
use Rattle.variant_table.specs.DefinitionLines.{room_for_definitions}
use Rattle.lgr_table.proofs.OtherRulesLemmas.{rule-added}
use Rattle.lgr_table.specs.inner.TableNames.{names_by}
use Rattle.lgr_table.proofs.TableNameLemmas.{rule-named}
use Rattle.lgr_table.proofs.rules.define_rule.Goals as goal

pub returns-in-Ok-clause-sets : goal.returns-in-Ok-clause-sets
returns-in-Ok-clause-sets c =
    let t = c.args.builder.now in
    (rule-added (room_for_definitions t) t c.define.new.self c.in_ok-name.name (pattern c.args.tree) c.in-Ok.ensures.others c.in-Ok.ensures.added.1).sets

pub returns-in-Ok-clause-rules : goal.returns-in-Ok-clause-rules
returns-in-Ok-clause-rules c =
    let t = c.args.builder.now in
    (rule-added (room_for_definitions t) t c.define.new.self c.in_ok-name.name (pattern c.args.tree) c.in-Ok.ensures.others c.in-Ok.ensures.added.1).rules

pub returns-in-Ok-clause-others : goal.returns-in-Ok-clause-others
returns-in-Ok-clause-others c =
    let t = c.args.builder.now in
    (rule-added (room_for_definitions t) t c.define.new.self c.in_ok-name.name (pattern c.args.tree) c.in-Ok.ensures.others c.in-Ok.ensures.added.1).others

pub returns-in-Ok-clause-called : goal.returns-in-Ok-clause-called
returns-in-Ok-clause-called c = λ names are.
    let t = c.args.builder.now in
    let added = rule-added (room_for_definitions t) t c.define.new.self c.in_ok-name.name (pattern c.args.tree) c.in-Ok.ensures.others c.in-Ok.ensures.added.1 in
    rule-named (names_by c.args.names) names t.definitions c.define.new.self.definitions c.in_ok-name.name c.args.name.now are c.in_ok-name.ensures added.set_names
    added.rule_names
