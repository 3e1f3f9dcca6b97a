use Rattle.std.proofs.Common.{sym, subst, ◌∙◌}
use Rattle.std.specs.Prelude.{Option}
use Rattle.valid_labels.specs.Testing.{Testing}
use Rattle.idn2_cli.specs.inner.Dispositions.{AreRulesOf}
use Rattle.idn2_cli.specs.inner.Ruling.{matched_in}
use Rattle.idn2_cli.proofs.AskedRules.{seen-rules}
use Rattle.idn2_cli.proofs.DecisionLemmas.{back-barred, barred_to, is_good_by, not_good, of_good}
use Rattle.idn2_cli.proofs.modes.decided.Decisions.back.Goals as goal

pub returns-in_ok-listed-in-Good-clause-regard : goal.returns-in_ok-listed-in-Good-clause-regard
returns-in_ok-listed-in-Good-clause-regard c = λ o good stands.
    let table = c.args.self.now.table.now in
    let label = c.args.self.now.label.now in
    let other = c.args.other.now in
    let d = c.requires.decides in
    let rules = subst (λ (t : Option Testing). AreRulesOf table label (matched_in t)) (sym c.of_test-rules.ensures) (seen-rules c.args.self.now.asked table label d.sound d.asked d.sees) in
    let told = c.regard-regard.ensures.regard table other d.sound c.in_ok-listed-in-Good.ensures rules (λ same. c.requires.another (sym same)) in
    c.unwrap_or.ensures ∙ of_good o table d.sound other label (is_good_by o table other c.args.standing c.in-Good.is stands) good c.regard-regard.result told

pub returns-in_default-clause-regard : goal.returns-in_default-clause-regard
returns-in_default-clause-regard c =
    let table = c.args.self.now.table.now in
    let label = c.args.self.now.label.now in
    let other = c.args.other.now in
    barred_to table other label _ c.barred.result
    (λ regard barred o good stands. back-barred o table c.requires.decides.sound other label (not_good o table other c.args.standing c.in_default.not-Good stands) regard barred)
    c.barred.ensures.arising c.barred.ensures.none
