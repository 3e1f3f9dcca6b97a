use Rattle.label_patterns.proofs.PlaceLemmas.{Has-without}
use Rattle.label_patterns.proofs.places.without.Goals as goal

pub returns : goal.returns
returns c p = Has-without c.args.left c.args.right p c.ranges.left.fits c.ranges.right.fits
