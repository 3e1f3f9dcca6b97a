use Rattle.std.proofs.Common.{◌&&◌, not, ap, sym, ◌∙◌}
use Rattle.std.specs.Prelude.{bytes_eq}
use Rattle.variant_table.specs.Differences.{has_under}
use Rattle.variant_table.proofs.DifferenceLemmas.{variant_of, variant_fails}
use Rattle.variant_table.proofs.differences.is_beyond.Goals as goal

pub returns-then-eq : goal.returns-then-eq
returns-then-eq c =
    variant_of (λ s d. bytes_eq c.args.variant.now s && not (has_under c.args.reverse.now d c.args.other.now)) c.args.entry.now c.args.number c.replacement.result.now c.condition.result _
    c.requires.some c.replacement.ensures c.condition.ensures
    (ap not c.has_under.ensures ∙ ap (λ b. b && not (has_under c.args.reverse.now c.condition.result c.args.other.now)) (sym c.if-eq.true ∙ c.eq.ensures))

pub returns-else-eq : goal.returns-else-eq
returns-else-eq c =
    variant_fails (bytes_eq c.args.variant.now) (λ x. not (has_under c.args.reverse.now x.condition c.args.other.now)) c.args.entry.now c.args.number c.replacement.result.now _
    c.requires.some c.replacement.ensures c.eq.ensures c.if-eq.false
