use Rattle.variant_dispositions.proofs.LawLemmas.{BlockedBlocks-holds}
use Rattle.variant_dispositions.proofs.laws.blocked_blocks.Goals as goal

pub returns : goal.returns
returns c = BlockedBlocks-holds
