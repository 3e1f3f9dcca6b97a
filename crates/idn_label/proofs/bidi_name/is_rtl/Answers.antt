use Rattle.std.proofs.Common.{sym}
use Rattle.idn_label.proofs.BidiNames.{right-after_dashes, right-before_dashes, right-before_hebrew}
use Rattle.idn_label.proofs.bidi_name.is_rtl.Goals as goal

pub returns-then-c-lt1424 : goal.returns-then-c-lt1424
returns-then-c-lt1424 c = sym (right-before_hebrew c.args.c c.if-c-lt1424.true)

pub returns-then-c-le8206 : goal.returns-then-c-le8206
returns-then-c-le8206 c = sym (right-before_dashes c.args.c c.if-c-ge2304.true c.if-c-le8206.true)

pub returns-then-c-le64284 : goal.returns-then-c-le64284
returns-then-c-le64284 c = sym (right-after_dashes c.args.c c.if-c-ge8208.true c.if-c-le64284.true)
