use Rattle.std.proofs.Common.{arith, ◌&&◌, ◌||◌, ◌-◌, ◌+◌, drop, ap, sym, ◌∙◌}
use Rattle.std.specs.Prelude.{bytes_eq}
use Rattle.std.specs.List.{list_any}
use Rattle.variant_table.specs.Entries.{Variant}
use Rattle.variant_table.specs.Differences.{is_same_condition}
use Rattle.variant_table.proofs.DifferenceLemmas.{passes_from}
use Rattle.variant_table.proofs.differences.has_under.Goals as goal

pub returns-then-is_under : goal.returns-then-is_under
returns-then-is_under c =
    let test = λ (x : Variant). bytes_eq c.args.variant.now x.sequence && is_same_condition c.args.condition x.condition in
    let n = c.loop-number.number in
    sym (sym c.loop-number.invariant ∙ passes_from test c.args.entry.now n c.is_under.result (omega arith) c.is_under.ensures
    ∙ ap (λ b. b || list_any test (drop (n + 1 - 1) c.args.entry.now.variants)) c.if-is_under.true)

pub loop-number-preserved : goal.loop-number-preserved
loop-number-preserved c =
    let test = λ (x : Variant). bytes_eq c.args.variant.now x.sequence && is_same_condition c.args.condition x.condition in
    let n = c.loop-number.number in
    sym (passes_from test c.args.entry.now n c.is_under.result (omega arith) c.is_under.ensures
    ∙ ap (λ b. b || list_any test (drop (n + 1 - 1) c.args.entry.now.variants)) c.if-is_under.false) ∙ c.loop-number.invariant
