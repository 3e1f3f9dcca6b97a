use Rattle.std.proofs.Common.{take}
use Rattle.idn_label.specs.inner.SimpleNames.{AreAppended}
use Rattle.idn_label.proofs.query.simple.push_mapping.Given as goal

abbrev pub invariant-loop-c : goal.invariant-loop-c
invariant-loop-c l = AreAppended l.initial.mapped.items l.mapped.items (take l.c-index l.points) l.facts
