use Rattle.std.proofs.Common.{sym, ◌∙◌, arith}
use Rattle.variant_table.specs.Conditions.{given_again}
use Rattle.variant_table.specs.Entries.{entry_from, full_replacements}
use Rattle.variant_table.proofs.RepeatLemmas.{again_here, again_later, length-variants, variant_in}
use Rattle.variant_table.proofs.checks.given_again.Goals as goal

pub returns-then-stands_before : goal.returns-then-stands_before
returns-then-stands_before c =
    let ss = c.args.sequences.now in
    let at = c.stands_before.ensures in
    again_here (full_replacements (entry_from ss)) c.loop-number.number at.0 (variant_in ss c.loop-number.number at.0 (omega arith) at.1) (given_again (entry_from ss)) c.loop-number.invariant
    (omega (arith, c.loop-number-test.true, c.len-number-end.ensures, length-variants ss c.requires)) (sym at.2 ∙ c.if-stands_before.true)

pub loop-number-preserved : goal.loop-number-preserved
loop-number-preserved c =
    let ss = c.args.sequences.now in
    let at = c.stands_before.ensures in
    again_later (full_replacements (entry_from ss)) c.loop-number.number at.0 (variant_in ss c.loop-number.number at.0 (omega arith) at.1) (given_again (entry_from ss)) c.loop-number.invariant
    (sym at.2 ∙ c.if-stands_before.false)
