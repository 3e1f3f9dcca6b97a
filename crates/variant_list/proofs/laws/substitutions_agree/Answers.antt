use Rattle.variant_list.proofs.SubstitutionLemmas.{SubstitutionsSpell-label}
use Rattle.variant_list.proofs.SpelledByLemmas.{spelled_by-SubstitutionsSpell, AreSubstitutions-label}
use Rattle.variant_list.proofs.laws.substitutions_agree.Goals as goal

pub returns : goal.returns
returns c = record {
  spells = λ table label v formed. SubstitutionsSpell-label table label formed v;
  computes = spelled_by-SubstitutionsSpell;
  fit = AreSubstitutions-label;
}
