use Rattle.std.proofs.Common.{arith, subst, sym}
use Rattle.lgr_table.specs.inner.TypeSteps.{TellsFull}
use Rattle.lgr_table.proofs.types.add_type.Goals as goal

pub returns-then-len-ge-MAX_TYPES-clause-fault : goal.returns-then-len-ge-MAX_TYPES-clause-fault
returns-then-len-ge-MAX_TYPES-clause-fault c = subst (TellsFull c.args.types.now.items) (sym c.on.ensures) (omega arith)
