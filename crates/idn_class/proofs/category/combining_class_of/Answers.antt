use Rattle.std.proofs.Common.{sym, inl, inr}
use Rattle.idn_class.proofs.CategoryLemmas.{combining_class-surrogate, combining_class-beyond}
use Rattle.idn_class.proofs.category.combining_class_of.Goals as goal

pub returns-in-None : goal.returns-in-None
returns-in-None c =
    elim c.in-None.ensures.cases [
      | inl surrogate ↦ sym (combining_class-surrogate _ surrogate.0 surrogate.1)
      | inr beyond ↦ sym (combining_class-beyond _ beyond)
    ]
