use Rattle.std.proofs.Common.{◌≡◌, ◌∷◌, [], ◌++◌, List, ℕ, map, sym, ap, subst, ◌∙◌}
use Rattle.label_patterns.specs.Patterns.{Pattern}
use Rattle.label_patterns.specs.Trees.{pattern}
use Rattle.ruleset_text.specs.Definitions.{Definitions}
use Rattle.std.proofs.lemmas.Result.{err_from_is_err_and}
use Rattle.lgr_text.specs.Known.{known as known_of}
use Rattle.lgr_table.specs.Faults.{ComesNext}
use Rattle.lgr_text.specs.Records.{entry, meaning, part}
use Rattle.lgr_table.specs.inner.RuleSteps.{AddsMeaning, known_by}
use Rattle.lgr_table.specs.inner.TableNames.{AreRuleNames, names_by}
use Rattle.lgr_table.proofs.StepLemmas.{rule-adds}
use Rattle.lgr_table.proofs.FaultLemmas.{no-room, told-class, told-rule}
use Rattle.lgr_table.proofs.rules.take.Goals as goal

pub returns-in_ok-push-in-Ok-pattern_of_rule-clause-added :
    goal.returns-in_ok-push-in-Ok-pattern_of_rule-clause-added
returns-in_ok-push-in-Ok-pattern_of_rule-clause-added c =
    let entries = map entry c.args.repertoire.entries.now in
    let points = c.args.repertoire.points.now in
    let taken = c.args.taken.now in
    let old = c.args.builder.now.definitions in
    let known = known_by entries points taken old.rules in
    let found = known_of c.known-known.result in
    let tree = c.in-Ok-pattern_of_rule.tree in
    let same : found ≡ known =
    c.known-known.ensures
    ∙ ap (λ (r : List Pattern). known_by entries points taken r)
    (c.rules.ensures.is ∙ ap (λ (d : Definitions). d.rules) c.definitions-in-Rule.ensures) in
    let made = c.pattern_of_rule.new.made.sets.items in
    let final = c.define_rule.new.builder.definitions.sets in
    let after : final ≡ made =
    c.in_ok-define_rule-in-Ok-pattern_of_rule.ensures.sets ∙ c.in_ok-define_sets-in-Ok-pattern_of_rule.ensures.sets ∙ c.deref.ensures.value in
    let copy : c.in_ok-copied-in-Ok-pattern_of_rule.field-0 ≡ c.args.definition.now.name =
    c.in_ok-copied-in-Ok-pattern_of_rule.ensures ∙ c.as_slice-name.ensures in
    let names : c.push.new.self.items ≡ taken.rule_names.items ++ c.args.definition.now.name ∷ [] =
    c.in_ok-push-in-Ok-pattern_of_rule.ensures.items ∙ ap (λ (n : List ℕ). taken.rule_names.items ++ n ∷ []) copy in
    let rules : c.define_rule.new.builder.definitions.rules ≡ old.rules ++ pattern tree ∷ [] =
    c.in_ok-define_rule-in-Ok-pattern_of_rule.ensures.rules
    ∙ ap (λ (r : List Pattern). r ++ pattern tree ∷ []) c.in_ok-define_sets-in-Ok-pattern_of_rule.ensures.rules in
    let adds =
    rule-adds known found c.args.made.now.atoms_left old.sets c.args.made.now.sets.items made final c.args.definition.now.name
    (part c.in-Rule.rule) (pattern tree) c.push.new.self.items c.define_rule.new.builder.definitions.rules same c.requires.sets after
    names rules c.in-Ok-pattern_of_rule.ensures.fault c.in-Ok-pattern_of_rule.ensures.known c.in-Ok-pattern_of_rule.ensures.pattern
    c.in-Ok-pattern_of_rule.ensures.part c.in-Ok-pattern_of_rule.ensures.anchor c.in-Ok-pattern_of_rule.ensures.sets in
    subst (λ m. AddsMeaning known old.sets c.args.definition.now.name (meaning m)
    (known_by entries points (record taken { rule_names = c.push.new.self }) c.define_rule.new.builder.definitions.rules) final)
    (sym c.in-Rule.is) adds

pub returns-in-Err-clause-fault : goal.returns-in-Err-clause-fault
returns-in-Err-clause-fault c = λ may r among next.
    let entries = map entry c.args.repertoire.entries.now in
    let points = c.args.repertoire.points.now in
    let all : map pattern c.rules-rules.result.now ≡ c.args.builder.now.definitions.rules =
    c.rules-rules.ensures.is ∙ ap (λ (d : Definitions). d.rules) c.definitions.ensures in
    let known = known_by entries points c.args.taken.now (map pattern c.rules-rules.result.now) in
    let comes : ComesNext may r c.args.definition.now known =
    subst (λ (rules : List Pattern). ComesNext may r c.args.definition.now (known_by entries points c.args.taken.now rules)) (sym all) next in
    c.of_rule.ensures may r (told-class may r c.args.definition.now known _ _ comes (ap meaning c.in-Class.is) c.in-Err.ensures.fault)

pub returns-in-Err-pattern_of_rule-clause-fault : goal.returns-in-Err-pattern_of_rule-clause-fault
returns-in-Err-pattern_of_rule-clause-fault c = λ may r among next.
    let found = known_of c.known-known.result in
    let same : found ≡ known_by (map entry c.args.repertoire.entries.now) c.args.repertoire.points.now c.args.taken.now c.args.builder.now.definitions.rules =
    c.known-known.ensures ∙ ap (λ (l : List Pattern). known_by (map entry c.args.repertoire.entries.now) c.args.repertoire.points.now c.args.taken.now l)
    (c.rules.ensures.is ∙ ap (λ (d : Definitions). d.rules) c.definitions-in-Rule.ensures) in
    let comes : ComesNext may r c.args.definition.now found = subst (ComesNext may r c.args.definition.now) (sym same) next in
    c.of_rule-in-Err-pattern_of_rule.ensures may r
    (told-rule may r c.args.definition.now found c.args.made.now.atoms_left (part c.in-Rule.rule) _ among comes (ap meaning c.in-Rule.is)
    c.in-Err-pattern_of_rule.ensures.fault)

pub returns-in_err-define_sets-in-Ok-pattern_of_rule-clause-fault : goal.returns-in_err-define_sets-in-Ok-pattern_of_rule-clause-fault
returns-in_err-define_sets-in-Ok-pattern_of_rule-clause-fault c = λ may r among next.
    let p = err_from_is_err_and c.from_residual.result c.from_residual.ensures.1 in
    rw (p.1, p.2) (no-room may r c.args.definition.now (part c.in-Rule.rule) _ among (ap meaning c.in-Rule.is)
    c.in_err-define_sets-in-Ok-pattern_of_rule.ensures.fault)

pub returns-in_err-define_rule-in-Ok-pattern_of_rule-clause-fault : goal.returns-in_err-define_rule-in-Ok-pattern_of_rule-clause-fault
returns-in_err-define_rule-in-Ok-pattern_of_rule-clause-fault c = λ may r among next.
    let p = err_from_is_err_and c.from_residual-in_err-define_rule-in-Ok-pattern_of_rule.result c.from_residual-in_err-define_rule-in-Ok-pattern_of_rule.ensures.1 in
    rw (p.1, p.2) (no-room may r c.args.definition.now (part c.in-Rule.rule) _ among (ap meaning c.in-Rule.is)
    c.in_err-define_rule-in-Ok-pattern_of_rule.ensures.fault)

pub returns-in_ok-push-in-Ok-pattern_of_rule-clause-called :
    goal.returns-in_ok-push-in-Ok-pattern_of_rule-clause-called
returns-in_ok-push-in-Ok-pattern_of_rule-clause-called c = λ are.
    let names = names_by c.args.names in
    let taken = c.args.taken.now in
    let name = c.as_slice-name.result.now in
    let more : c.push.new.self.items ≡ taken.rule_names.items ++ name ∷ [] =
    c.in_ok-push-in-Ok-pattern_of_rule.ensures.items
    ∙ ap (λ (n : List ℕ). taken.rule_names.items ++ n ∷ []) c.in_ok-copied-in-Ok-pattern_of_rule.ensures in
    subst (λ l. AreRuleNames names l c.define_rule.new.builder.definitions) (sym more)
    (c.in_ok-define_rule-in-Ok-pattern_of_rule.ensures.called taken.rule_names.items
    (c.in_ok-define_sets-in-Ok-pattern_of_rule.ensures.called taken.rule_names.items are))
