use Rattle.std.proofs.Common.{sym, inl, inr}
use Rattle.idn_class.proofs.CategoryLemmas.{bidi_class-surrogate, bidi_class-beyond}
use Rattle.idn_class.proofs.category.bidi_class_of.Goals as goal

pub returns-in-None : goal.returns-in-None
returns-in-None c =
    elim c.in-None.ensures.cases [
      | inl surrogate ↦ sym (bidi_class-surrogate _ surrogate.0 surrogate.1)
      | inr beyond ↦ sym (bidi_class-beyond _ beyond)
    ]
