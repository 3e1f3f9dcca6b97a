use Rattle.std.proofs.Common.{List, subst, sym}
use Rattle.reading_kinds.specs.Readings.{Substitution, SubstitutionsSpell}
use Rattle.idn2_cli.proofs.modes.decided.arises.Goals as goal

pub returns-clause-told : goal.returns-clause-told
returns-clause-told c =
    let same = c.in_ok-readings.ensures in
    let told = c.spells.ensures.spelled in
    let gives = c.in_ok-substitutions.ensures.gives c.args.other.now in (
      λ h. gives.0 (subst (λ (us : List (List Substitution)). SubstitutionsSpell us c.args.other.now) same (told.0 h)),
      λ a. told.1 (subst (λ (us : List (List Substitution)). SubstitutionsSpell us c.args.other.now) (sym same) (gives.1 a)),
    )
