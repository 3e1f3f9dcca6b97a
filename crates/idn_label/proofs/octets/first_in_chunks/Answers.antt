use Rattle.std.proofs.Common.{◌+◌, ◌-◌, length, arith}
use Rattle.idn_label.proofs.OctetLemmas.{ascii_more, ascii_rest, first_in_mask, mask_from}
use Rattle.idn_label.proofs.octets.first_in_chunks.Goals as goal

pub returns-then-others-ne0-clause-found : goal.returns-then-others-ne0-clause-found
returns-then-others-ne0-clause-found g c =
    let text = c.args.text.now in
    let at = c.loop-at.at in
    let i = c.loop-at.invariant in
    first_in_mask text c.args.start at (at + g.row.N) _ i.order (omega arith) (omega arith) (omega (arith, c.requires.few)) i.ascii c.octets_past_ascii-others.ensures c.if-others-ne0.true

pub loop-at-preserved : goal.loop-at-preserved
loop-at-preserved g c =
    let text = c.args.text.now in
    let at = c.loop-at.at in
    let i = c.loop-at.invariant in
    record {
      order = omega arith;
      within = omega arith;
      ascii = ascii_more text c.args.start at (at + g.row.N) _ (omega arith) (omega arith) i.ascii c.octets_past_ascii-others.ensures c.if-others-ne0.false;
    }

pub returns-then-others-eq0-clause-none : goal.returns-then-others-eq0-clause-none
returns-then-others-eq0-clause-none g c =
    let text = c.args.text.now in
    let n = g.row.N in
    let at = c.loop-at.at in
    let i = c.loop-at.invariant in
    let mask = mask_from text n at (length text - n) _ (omega arith) (omega arith) c.octets_past_ascii.ensures in
    ascii_rest text c.args.start (ascii_more text c.args.start at (length text) _ i.within (omega arith) i.ascii mask c.if-others-eq0.true)

pub returns-clause-found : goal.returns-clause-found
returns-clause-found g c =
    let text = c.args.text.now in
    let n = g.row.N in
    let at = c.loop-at.at in
    let i = c.loop-at.invariant in
    let mask = mask_from text n at (length text - n) _ (omega arith) (omega arith) c.octets_past_ascii.ensures in
    first_in_mask text c.args.start at (length text) _ i.order i.within (omega arith) (omega (arith, c.requires.few)) i.ascii mask c.if-others-eq0.false
