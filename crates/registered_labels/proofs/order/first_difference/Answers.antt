use Rattle.std.proofs.Common.{refl, arith}
use Rattle.registered_labels.proofs.FirstDifference.{in_chunk, same_before, differs_there}
use Rattle.registered_labels.proofs.order.first_difference.Goals as goal

pub returns-clause-in_one : goal.returns-clause-in_one
returns-clause-in_one c =
    omega (arith, c.if-one-lt-CHUNK_LEN.false, in_chunk c.args.one.now c.args.other.now _ c.if-one-lt-CHUNK_LEN.false c.if-other-lt-CHUNK_LEN.false refl c.if-others-eq0.false)

pub returns-clause-in_other : goal.returns-clause-in_other
returns-clause-in_other c =
    omega (arith, c.if-other-lt-CHUNK_LEN.false, in_chunk c.args.one.now c.args.other.now _ c.if-one-lt-CHUNK_LEN.false c.if-other-lt-CHUNK_LEN.false refl c.if-others-eq0.false)

pub returns-clause-same : goal.returns-clause-same
returns-clause-same c = same_before c.args.one.now c.args.other.now _ c.if-one-lt-CHUNK_LEN.false c.if-other-lt-CHUNK_LEN.false refl c.if-others-eq0.false

pub returns-clause-differs : goal.returns-clause-differs
returns-clause-differs c = differs_there c.args.one.now c.args.other.now _ c.if-one-lt-CHUNK_LEN.false c.if-other-lt-CHUNK_LEN.false refl c.if-others-eq0.false
