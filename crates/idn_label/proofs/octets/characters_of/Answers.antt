use Rattle.std.proofs.lemmas.Str.{IsUtf8-from_ascii}
use Rattle.idn_label.proofs.octets.characters_of.Goals as goal

pub returns-in-None-clause-utf8 : goal.returns-in-None-clause-utf8
returns-in-None-clause-utf8 c = IsUtf8-from_ascii c.args.text.now c.in-None.ensures.none
