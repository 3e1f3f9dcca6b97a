use Rattle.std.proofs.Common.{arith}
use Rattle.idn_label.proofs.LabelParts.{ldh-meets, part-nothing}
use Rattle.idn_label.proofs.bidi_name.ldh_part_end.Goals as goal

pub returns-then-name-end-eq45 : goal.returns-then-name-end-eq45
returns-then-name-end-eq45 c = part-nothing c.args.name.now c.args.start (omega arith)

pub returns-else-name-end-eq45 : goal.returns-else-name-end-eq45
returns-else-name-end-eq45 c = ldh-meets c.args.name.now c.args.start _ c.ldh_end-end.ensures c.requires.within c.requires.letter c.if-name-end-eq45.false
