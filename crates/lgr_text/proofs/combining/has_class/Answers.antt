use Rattle.std.proofs.Common.{eqb, sym, ap, inl, inr, arith}
use Rattle.idn_class.proofs.CategoryLemmas.{combining_class-surrogate}
use Rattle.lgr_text.proofs.combining.has_class.Goals as goal

pub returns-in-None : goal.returns-in-None
returns-in-None c = elim c.in-None.ensures.cases [
  | inl surrogate ↦ ap (λ n. eqb n c.args.class) (sym (combining_class-surrogate c.args.point surrogate.0 surrogate.1))
  | inr beyond ↦ absurd (omega (arith, c.requires, beyond))
]
