use Rattle.std.proofs.Common.{◌+◌, ◌-◌, length, arith, ◌∙◌}
use Rattle.answer_json.proofs.Windows.{copied_all, copied_more, plain_ends, plain_more, window_to_end}
use Rattle.answer_json.proofs.escaping.copy_plain.Goals as goal

pub loop-at-preserved : goal.loop-at-preserved
loop-at-preserved c =
    let text = c.args.text.now in
    let at = c.loop-at.at in
    let so_far = c.loop-at.invariant in
    record {
      plain = let more = plain_more text at (at + 16) (omega arith) in cc;
      copied = copied_more text c.loop-at.copy c.copy_window-plain.new.copy at (at + 16) (omega arith) (omega arith) (c.loop-at.auto.copy ∙ c.requires) so_far.copied c.copy_window-plain.ensures.copied;
      within = omega arith;
    }

pub returns-clause-plain : goal.returns-clause-plain
returns-clause-plain c =
    let text = c.args.text.now in
    let last = length text - 16 in
    let whole = window_to_end text last in
    let told = plain_ends text c.loop-at.at last (omega arith) c.loop-at.invariant.within in cc

pub returns-clause-copied : goal.returns-clause-copied
returns-clause-copied c =
    let text = c.args.text.now in
    let so_far = c.loop-at.invariant in
    copied_all text c.loop-at.copy c.copy_window.new.copy c.loop-at.at (length text - 16) (omega arith) so_far.within (c.loop-at.auto.copy ∙ c.requires) so_far.copied c.copy_window.ensures.copied
