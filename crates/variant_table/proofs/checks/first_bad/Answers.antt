use Rattle.std.proofs.Common.{sym, ◌∙◌}
use Rattle.ruleset_text.specs.Classes.{is_bad_point}
use Rattle.variant_table.proofs.RangeLemmas.{find_later}
use Rattle.variant_table.proofs.checks.first_bad.Goals as goal

pub loop-offset-preserved : goal.loop-offset-preserved
loop-offset-preserved c =
    find_later (is_bad_point c.args.properties) c.args.first c.args.count c.loop-offset.offset c.loop-offset-test.true (sym (c.in_ok-is_bad_point.ensures {u = tt}) ∙ c.if-branch.false) c.loop-offset.invariant
