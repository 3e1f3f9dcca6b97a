use Rattle.std.proofs.Common.{◌&&◌, ap, sym, ◌∙◌}
use Rattle.std.specs.Prelude.{bytes_eq}
use Rattle.variant_table.specs.Differences.{is_same_condition}
use Rattle.variant_table.proofs.DifferenceLemmas.{variant_of, variant_fails}
use Rattle.variant_table.proofs.differences.is_under.Goals as goal

pub returns-then-eq : goal.returns-then-eq
returns-then-eq c =
    variant_of (λ s d. bytes_eq c.args.variant.now s && is_same_condition c.args.condition d) c.args.entry.now c.args.number c.replacement.result.now c.condition.result _
    c.requires.some c.replacement.ensures c.condition.ensures
    (c.is_same.ensures ∙ ap (λ b. b && is_same_condition c.args.condition c.condition.result) (sym c.if-eq.true ∙ c.eq.ensures))

pub returns-else-eq : goal.returns-else-eq
returns-else-eq c =
    variant_fails (bytes_eq c.args.variant.now) (λ x. is_same_condition c.args.condition x.condition) c.args.entry.now c.args.number c.replacement.result.now _
    c.requires.some c.replacement.ensures c.eq.ensures c.if-eq.false
