use Rattle.std.proofs.Common.{sym, ◌∙◌}
use Rattle.idn2_cli.proofs.DecisionLemmas.{barred_by, barred_to, is_good_by, of_good, of_refused, of_unlisted, of_variant_alone}
use Rattle.idn2_cli.proofs.modes.decided.Decisions.there.Goals as goal

pub returns-in-Good-clause-regard : goal.returns-in-Good-clause-regard
returns-in-Good-clause-regard c = λ o good stands.
    let table = c.args.self.now.table.now in
    let label = c.args.self.now.label.now in
    let other = c.args.other.now in
    c.unwrap_or.ensures
    ∙ of_good o table c.requires.decides.sound label other good (is_good_by o table other c.args.standing c.in-Good.is stands) c.regard_listed-regard.result c.regard_listed-regard.ensures.regard

pub returns-in-Refused-clause-regard : goal.returns-in-Refused-clause-regard
returns-in-Refused-clause-regard c =
    let table = c.args.self.now.table.now in
    let label = c.args.self.now.label.now in
    let other = c.args.other.now in
    barred_to table label other _ c.barred-in-Refused.result
    (λ regard barred o good stands. of_refused o table c.requires.decides.sound label other good c.args.standing c.in-Refused.is stands regard barred)
    c.barred-in-Refused.ensures.arising c.barred-in-Refused.ensures.none

pub returns-in-Some-clause-regard : goal.returns-in-Some-clause-regard
returns-in-Some-clause-regard c = λ o good stands.
    of_variant_alone o c.args.self.now.table.now c.requires.decides.sound c.args.self.now.label.now c.args.other.now good c.args.standing c.in-VariantAlone.is stands c.in-Some.regard (sym c.in-Some.is ∙ c.regard_listed.ensures.regard)

pub returns-in-None-clause-regard : goal.returns-in-None-clause-regard
returns-in-None-clause-regard c =
    let table = c.args.self.now.table.now in
    let label = c.args.self.now.label.now in
    let other = c.args.other.now in
    barred_by table label other c.regard_listed.new.self _ c.barred.result c.regard_listed.ensures.pair
    (λ regard barred o good stands. of_unlisted o table c.requires.decides.sound label other good c.args.standing c.in-VariantAlone.is stands (sym c.in-None.is ∙ c.regard_listed.ensures.regard) regard barred)
    c.barred.ensures.arising c.barred.ensures.none
