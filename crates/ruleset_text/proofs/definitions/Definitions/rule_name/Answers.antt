use Rattle.std.proofs.Common.{◌≡◌, ◌≤◌, List, ℕ, length, subst, sym, rules}
use Rattle.ruleset_text.specs.Definitions.{rule_name}
use Rattle.ruleset_text.specs.inner.Held.{held}
use Rattle.ruleset_text.proofs.NameLemmas.{rule_name-short}
use Rattle.ruleset_text.proofs.definitions.Definitions.rule_name.Goals as goal

pub returns-in-Some-clause-short : goal.returns-in-Some-clause-short
returns-in-Some-clause-short c =
    let is : c.as_slice.result.now ≡ rule_name (held c.self.inside) c.args.number = search rules in
    let short = rule_name-short (held c.self.inside) c.args.number c.self.invariant.without_fault in
    subst (λ (name : List ℕ). length name ≤ 32) (sym is) short
