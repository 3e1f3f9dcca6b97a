use Rattle.variant_dispositions.proofs.KindLemmas.{apart-told}
use Rattle.variant_dispositions.proofs.variant.are_apart.Goals as goal

pub returns : goal.returns
returns c = apart-told c.args.has c.args.lacks c.ranges.has.fits
