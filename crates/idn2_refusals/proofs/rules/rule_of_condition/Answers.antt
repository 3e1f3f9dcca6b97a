use Rattle.std.proofs.Common.{refl}
use Rattle.idn2_refusals.proofs.rules.rule_of_condition.Goals as goal

pub returns-in-First-clause-text : goal.returns-in-First-clause-text
returns-in-First-clause-text c = rw c.in-First.is refl

pub returns-in-RtlHolds-clause-text : goal.returns-in-RtlHolds-clause-text
returns-in-RtlHolds-clause-text c = rw c.in-RtlHolds.is refl

pub returns-in-RtlEnds-clause-text : goal.returns-in-RtlEnds-clause-text
returns-in-RtlEnds-clause-text c = rw c.in-RtlEnds.is refl

pub returns-in-RtlNumbers-clause-text : goal.returns-in-RtlNumbers-clause-text
returns-in-RtlNumbers-clause-text c = rw c.in-RtlNumbers.is refl

pub returns-in-LtrHolds-clause-text : goal.returns-in-LtrHolds-clause-text
returns-in-LtrHolds-clause-text c = rw c.in-LtrHolds.is refl

pub returns-in-LtrEnds-clause-text : goal.returns-in-LtrEnds-clause-text
returns-in-LtrEnds-clause-text c = rw c.in-LtrEnds.is refl
