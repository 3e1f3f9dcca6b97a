use Rattle.idn2_refusals.proofs.FaultLemmas.{memory-message, read-message, usage-message, write-message}
use Rattle.idn2_refusals.proofs.closing.message_of.Goals as goal

pub returns-in-ReadFault : goal.returns-in-ReadFault
returns-in-ReadFault c = read-message c.args.refusal.now c.in-ReadFault.is

pub returns-in-WriteFault : goal.returns-in-WriteFault
returns-in-WriteFault c = write-message c.args.refusal.now c.in-WriteFault.is

pub returns-in-Memory : goal.returns-in-Memory
returns-in-Memory c = memory-message c.args.refusal.now c.in-Memory.is

pub returns-in_default : goal.returns-in_default
returns-in_default c =
    usage-message c.args.refusal.now c.requires c.in_default.not-ReadFault c.in_default.not-WriteFault c.in_default.not-Memory
