use Rattle.std.proofs.Common.{sym, inl, inr}
use Rattle.idn_class.proofs.BidiLemmas.{is_rtl_class-outside}
use Rattle.idn_class.proofs.bidi.is_listed_rtl.Goals as goal

pub returns-then-c-lt-FIRST_RTL : goal.returns-then-c-lt-FIRST_RTL
returns-then-c-lt-FIRST_RTL c =
    sym (is_rtl_class-outside _ (elim c.then-c-lt-FIRST_RTL.either [ inl below ↦ inl below | inr above ↦ inr above.1 ]))
