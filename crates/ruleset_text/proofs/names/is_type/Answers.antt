use Rattle.std.proofs.Common.{◌<◌, ◌≤◌, ◌||◌, sym, ap, ◌∙◌, arith}
use Rattle.std.proofs.lemmas.Bool.{lt-ltb, le-ltb}
use Rattle.ruleset_text.specs.Names.{is_one_of}
use Rattle.ruleset_text.specs.inner.PredefinedTypes.{predefined_by}
use Rattle.ruleset_text.proofs.PredefinedLemmas.{predefined_known}
use Rattle.ruleset_text.proofs.names.is_type.Goals as goal

pub returns-then-predefined_number-lt-PREDEFINED_TYPES : goal.returns-then-predefined_number-lt-PREDEFINED_TYPES
returns-then-predefined_number-lt-PREDEFINED_TYPES c =
    let types = c.args.types.now in
    let name = c.args.name.now in
    let found : predefined_by name < 5 = omega (arith, c.predefined_number.ensures) in
    lt-ltb c.predefined_number.result 5 (omega arith) ∙ sym (predefined_known types name ∙ ap (λ b. b || is_one_of types name) (lt-ltb (predefined_by name) 5 found))

pub returns-else-predefined_number-lt-PREDEFINED_TYPES : goal.returns-else-predefined_number-lt-PREDEFINED_TYPES
returns-else-predefined_number-lt-PREDEFINED_TYPES c =
    let types = c.args.types.now in
    let name = c.args.name.now in
    let none : 5 ≤ predefined_by name = omega (arith, c.predefined_number.ensures) in
    c.is_one_of.ensures ∙ sym (predefined_known types name ∙ ap (λ b. b || is_one_of types name) (le-ltb (predefined_by name) 5 none))
