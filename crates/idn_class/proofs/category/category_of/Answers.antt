use Rattle.std.proofs.Common.{sym, arith}
use Rattle.idn_class.proofs.CategoryLemmas.{general_category-surrogate, general_category-beyond}
use Rattle.idn_class.proofs.category.category_of.Goals as goal

pub returns-in-None : goal.returns-in-None
returns-in-None c =
    let out = c.in-None.ensures.cases in
    sym (general_category-surrogate _ (omega (arith, out)) (omega (arith, out)))

pub returns-in-None-2 : goal.returns-in-None-2
returns-in-None-2 c = sym (general_category-beyond _ c.if-c-lt-END.false)
