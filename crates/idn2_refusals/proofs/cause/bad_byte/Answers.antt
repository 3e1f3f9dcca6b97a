use Rattle.idn2_refusals.proofs.Utf8Bytes.{points_of}
use Rattle.idn2_refusals.proofs.cause.bad_byte.Goals as goal

pub unreachable-requires : goal.unreachable-requires
unreachable-requires c = c.requires _ (points_of _ c.in-Ok.ensures.cases.1)
