use Rattle.std.proofs.Common.{arith}
use Rattle.idn_label.proofs.OctetLemmas.{mask_past_ascii}
use Rattle.idn_label.proofs.octets.octets_past_ascii.Goals as goal

pub returns : goal.returns
returns g c = mask_past_ascii c.args.text.now g.row.N c.args.at (omega (arith, c.requires.few)) c.requires.within
