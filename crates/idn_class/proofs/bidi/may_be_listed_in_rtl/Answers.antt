use Rattle.std.proofs.Common.{sym}
use Rattle.idn_class.proofs.BidiLemmas.{is_allowed_in_rtl-inside}
use Rattle.idn_class.proofs.bidi.may_be_listed_in_rtl.Goals as goal

pub returns : goal.returns
returns c = sym (is_allowed_in_rtl-inside _ c.if-c-lt-FIRST_RTL.false c.if-c-gt-LAST_RTL.false)
