use Rattle.registered_labels.proofs.MarkedLines.{unmarked-ldh}
use Rattle.registered_labels.proofs.labels.marked_label.Goals as goal

pub returns-then-is_ldh-clause-other : goal.returns-then-is_ldh-clause-other
returns-then-is_ldh-clause-other c = unmarked-ldh c.args.body.now (c.requires c.if-is_ldh.true)
