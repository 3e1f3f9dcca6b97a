use Rattle.label_patterns.proofs.PlaceLemmas.{Has-and, Has-both}
use Rattle.label_patterns.proofs.places.both.Goals as goal

pub returns : goal.returns
returns c p = (Has-and c.args.left c.args.right p, λ h. Has-both c.args.left c.args.right p h.0 h.1)
