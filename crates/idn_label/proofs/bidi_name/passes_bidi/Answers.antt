use Rattle.std.proofs.Common.{refl}
use Rattle.idn_label.proofs.BidiNames.{passes_bidi-tested}
use Rattle.idn_label.proofs.bidi_name.passes_bidi.Goals as goal

pub returns-then-not-holds_rtl : goal.returns-then-not-holds_rtl
returns-then-not-holds_rtl c = rw (← passes_bidi-tested c.args.name.now, ← c.holds_rtl.ensures, c.if-not-holds_rtl.true) refl

pub returns-else-not-holds_rtl : goal.returns-else-not-holds_rtl
returns-else-not-holds_rtl c = rw (← passes_bidi-tested c.args.name.now, ← c.holds_rtl.ensures, c.if-not-holds_rtl.false) c.each_label_passes.ensures
