use Rattle.std.proofs.Common.{sym, inl, inr}
use Rattle.idn_class.proofs.CategoryLemmas.{script-surrogate, script-beyond}
use Rattle.idn_class.proofs.category.script_of.Goals as goal

pub returns-in-None : goal.returns-in-None
returns-in-None c =
    elim c.in-None.ensures.cases [
      | inl surrogate ↦ sym (script-surrogate _ surrogate.0 surrogate.1)
      | inr beyond ↦ sym (script-beyond _ beyond)
    ]
