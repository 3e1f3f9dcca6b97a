-- Names that nothing has.
use Rattle.std.proofs.Common.{◌≡◌, ℕ, ◌||◌, List, ◌++◌, ap, ◌∙◌}
use Rattle.ruleset_text.proofs.NameLemmas.{one_of-append}
use Rattle.ruleset_text.specs.Definitions.{Definitions, all_names, type_names}
use Rattle.ruleset_text.specs.Names.{is_one_of}

-- of types, of sets, or of rules
pub one_of-all_names : (d : Definitions) (name : List ℕ)
    → is_one_of (all_names d) name ≡ (is_one_of (type_names d) name || (is_one_of d.set_names name || is_one_of d.rule_names name))
one_of-all_names d name =
    one_of-append (type_names d) (d.set_names ++ d.rule_names) name
    ∙ ap (λ b. is_one_of (type_names d) name || b) (one_of-append d.set_names d.rule_names name)
