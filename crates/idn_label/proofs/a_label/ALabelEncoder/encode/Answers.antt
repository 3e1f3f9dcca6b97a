use Rattle.std.proofs.Common.{rules}
use Rattle.idn_label.proofs.SimpleNames.{a_label_of-other}
use Rattle.idn_label.proofs.a_label.ALabelEncoder.encode.Goals as goal

pub returns : goal.returns
returns c = rw (a_label_of-other c.args.label.now c.requires.other) (search rules)
