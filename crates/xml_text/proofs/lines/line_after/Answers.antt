use Rattle.std.proofs.Common.{◌∙◌, sym, arith}
use Rattle.xml_text.proofs.LineEndLemmas.{line_more, return_more}
use Rattle.xml_text.proofs.lines.line_after.Goals as goal

pub loop-byte-preserved : goal.loop-byte-preserved
loop-byte-preserved c =
    let text = c.args.text.now in
    let i = c.loop-byte.byte-index in
    record {
      is = c.next_line-line.ensures.is ∙ line_more text i c.loop-byte.line c.loop-byte.is_after_return c.loop-byte-test.true c.loop-byte.invariant.is c.loop-byte.invariant.after;
      after = sym (return_more text i c.loop-byte-test.true);
      few = omega arith;
    }
