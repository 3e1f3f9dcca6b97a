use Rattle.std.proofs.Common.{rules, tests, true, false, ◌≡◌, ◌&&◌, ◌∙◌, ap, sym}
use Rattle.std.specs.Prelude.{bytes_eq, not}
use Rattle.variant_table.specs.Conditions.{differ}
use Rattle.variant_table.proofs.RepeatLemmas.{asked, asked_other}
use Rattle.variant_table.proofs.checks.is_again.Goals as goal

pub returns-then-eq : goal.returns-then-eq
returns-then-eq c =
    let equal : bytes_eq c.get.result.now c.args.wanted.now ≡ true = search (rules, tests) in
    let found = asked c.args.sequences.now c.args.number c.get.result.now c.args.wanted.now c.condition.result c.args.condition c.get.ensures c.condition.ensures in
    (found.0, found.1, ap not c.differ.ensures ∙ sym (ap (λ b. b && not (differ c.condition.result c.args.condition)) equal) ∙ found.2)

pub returns-else-eq : goal.returns-else-eq
returns-else-eq c =
    let other : bytes_eq c.get.result.now c.args.wanted.now ≡ false = search (rules, tests) in
    let found = asked_other c.args.sequences.now c.args.number c.get.result.now c.args.wanted.now c.args.condition c.get.ensures other in
    (found.0, found.1, c.if-eq.false ∙ found.2)
