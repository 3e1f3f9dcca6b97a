use Rattle.std.proofs.Common.{arith, not, ◌&&◌, ◌||◌, ◌-◌, ◌+◌, drop, ap, sym, ◌∙◌}
use Rattle.std.specs.Prelude.{bytes_eq}
use Rattle.std.specs.List.{list_any}
use Rattle.variant_table.specs.Entries.{Variant}
use Rattle.variant_table.specs.Differences.{has_under}
use Rattle.variant_table.proofs.DifferenceLemmas.{passes_from}
use Rattle.variant_table.proofs.differences.has_beyond.Goals as goal

pub returns-then-is_beyond : goal.returns-then-is_beyond
returns-then-is_beyond c =
    let test = λ (x : Variant). bytes_eq c.args.variant.now x.sequence && not (has_under c.args.reverse.now x.condition c.args.other.now) in
    let n = c.loop-number.number in
    sym (sym c.loop-number.invariant ∙ passes_from test c.args.entry.now n c.is_beyond.result (omega arith) c.is_beyond.ensures
    ∙ ap (λ b. b || list_any test (drop (n + 1 - 1) c.args.entry.now.variants)) c.if-is_beyond.true)

pub loop-number-preserved : goal.loop-number-preserved
loop-number-preserved c =
    let test = λ (x : Variant). bytes_eq c.args.variant.now x.sequence && not (has_under c.args.reverse.now x.condition c.args.other.now) in
    let n = c.loop-number.number in
    sym (passes_from test c.args.entry.now n c.is_beyond.result (omega arith) c.is_beyond.ensures
    ∙ ap (λ b. b || list_any test (drop (n + 1 - 1) c.args.entry.now.variants)) c.if-is_beyond.false) ∙ c.loop-number.invariant
