use Rattle.std.proofs.Common.{◌≡◌, ◌+◌, ◌<◌, ◌≤◌, cond, sym, ap, ◌∙◌, rules, arith}
use Rattle.std.proofs.lemmas.Bool.{lt-ltb, le-ltb}
use Rattle.ruleset_text.specs.Definitions.{Definitions}
use Rattle.ruleset_text.specs.inner.Held.{held}
use Rattle.ruleset_text.specs.inner.PredefinedTypes.{predefined_by}
use Rattle.ruleset_text.specs.Names.{number_of}
use Rattle.ruleset_text.proofs.PredefinedLemmas.{predefined_first}
use Rattle.ruleset_text.proofs.definitions.Definitions.type_number.Goals as goal

pub returns-then-number-lt-PREDEFINED_TYPES-clause-is : goal.returns-then-number-lt-PREDEFINED_TYPES-clause-is
returns-then-number-lt-PREDEFINED_TYPES-clause-is c =
    let types = c.args.self.now.types in
    let name = c.args.name.now in
    let found : predefined_by name < 5 = omega (arith, c.predefined_number-number.ensures) in
    c.predefined_number-number.ensures
    ∙ sym (predefined_first types name ∙ ap (λ b. cond b (predefined_by name) (5 + number_of types name)) (lt-ltb (predefined_by name) 5 found))

pub returns-clause-is : goal.returns-clause-is
returns-clause-is c =
    let types = c.args.self.now.types in
    let name = c.args.name.now in
    let none : 5 ≤ predefined_by name = omega (arith, c.predefined_number-number.ensures) in
    let d : Definitions = held c.self.inside in
    let is : c.number_of.result ≡ number_of d.types name = search rules in
    ap (λ n. 5 + n) (is ∙ ap (λ (e : Definitions). number_of e.types name) c.self.view_is)
    ∙ sym (predefined_first types name ∙ ap (λ b. cond b (predefined_by name) (5 + number_of types name)) (le-ltb (predefined_by name) 5 none))
