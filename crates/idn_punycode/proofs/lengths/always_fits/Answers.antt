use Rattle.std.proofs.Common.{◌≤◌, arith}
use Rattle.std.proofs.lemmas.Bool.{leb-true}
use Rattle.idn_punycode.proofs.LengthSteps.{points-le, encode-short}
use Rattle.idn_punycode.proofs.lengths.always_fits.Goals as goal

pub returns-clause-fits : goal.returns-clause-fits
returns-clause-fits c fits label few =
    let known : c.args.utf8_len ≤ 30 = leb-true c.args.utf8_len 30 fits in
    (omega (arith, points-le label, few, known), omega (arith, encode-short label (omega (arith, few, known))))
