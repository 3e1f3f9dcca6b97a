use Rattle.std.proofs.Common.{sym, inl, inr}
use Rattle.idn_class.proofs.CategoryLemmas.{joining_type-surrogate, joining_type-beyond}
use Rattle.idn_class.proofs.category.joining_type_of.Goals as goal

pub returns-in-None : goal.returns-in-None
returns-in-None c =
    elim c.in-None.ensures.cases [
      | inl surrogate ↦ sym (joining_type-surrogate _ surrogate.0 surrogate.1)
      | inr beyond ↦ sym (joining_type-beyond _ beyond)
    ]
