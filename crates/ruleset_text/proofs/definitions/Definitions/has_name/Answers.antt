use Rattle.std.proofs.Common.{◌≡◌, true, false, ◌||◌, ◌++◌, sym, ap, ◌∙◌}
use Rattle.ruleset_text.specs.Definitions.{all_names, type_names}
use Rattle.ruleset_text.specs.Names.{is_one_of}
use Rattle.ruleset_text.proofs.NameLemmas.{one_of-append}
use Rattle.ruleset_text.proofs.definitions.Definitions.has_name.Goals as goal

pub returns-then-has_type : goal.returns-then-has_type
returns-then-has_type c =
    let d = c.args.self.now in
    let name = c.args.name.now in
    let is : is_one_of (type_names d) name ≡ true = ap (is_one_of (type_names d)) (sym c.as_slice.ensures) ∙ sym c.has_type.ensures ∙ c.if-has_type.true in
    let all : is_one_of (all_names d) name ≡ true =
    one_of-append (type_names d) (d.set_names ++ d.rule_names) name ∙ ap (λ b. b || is_one_of (d.set_names ++ d.rule_names) name) is in
    let found : c.has_type.result ≡ true = c.if-has_type.true in
    cc

pub returns-else-has_type : goal.returns-else-has_type
returns-else-has_type c =
    let d = c.args.self.now in
    let name = c.args.name.now in
    let is : is_one_of (type_names d) name ≡ false = ap (is_one_of (type_names d)) (sym c.as_slice.ensures) ∙ sym c.has_type.ensures ∙ c.if-has_type.false in
    c.has_set_or_rule.ensures
    ∙ sym (one_of-append (type_names d) (d.set_names ++ d.rule_names) name ∙ ap (λ b. b || is_one_of (d.set_names ++ d.rule_names) name) is)
