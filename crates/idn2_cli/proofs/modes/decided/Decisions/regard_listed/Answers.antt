use Rattle.std.proofs.Common.{sym, subst}
use Rattle.std.specs.Prelude.{Option}
use Rattle.valid_labels.specs.Testing.{Testing}
use Rattle.idn2_cli.specs.declared.modes.listed.Listed.{Listed}
use Rattle.idn2_cli.specs.inner.Decided.{IsListingOf, TellsOthers}
use Rattle.idn2_cli.specs.inner.Dispositions.{AreRulesOf}
use Rattle.idn2_cli.specs.inner.Ruling.{matched_in}
use Rattle.idn2_cli.proofs.AskedRules.{seen-rules}
use Rattle.idn2_cli.proofs.modes.decided.Decisions.regard_listed.Goals as goal

pub returns-clause-regard : goal.returns-clause-regard
returns-clause-regard c =
    let table = c.args.self.now.table.now in
    let label = c.args.self.now.label.now in
    let other = c.args.other.now in
    let d = c.requires.decides in
    let tells = subst (λ (l : Option Listed). TellsOthers table label l c.args.self.now.others) c.in-Some.is d.others in
    let rules = subst (λ (t : Option Testing). AreRulesOf table other (matched_in t)) (sym c.of_test-rules.ensures) (seen-rules c.args.self.now.others table other d.sound tells.1 c.requires.sees) in
    c.regard.ensures.regard table label d.sound tells.0 rules c.requires.another

pub returns-clause-decides : goal.returns-clause-decides
returns-clause-decides c =
    let table = c.args.self.now.table.now in
    let label = c.args.self.now.label.now in
    let d = c.requires.decides in
    let tells = subst (λ (l : Option Listed). TellsOthers table label l c.args.self.now.others) c.in-Some.is d.others in
    record {
      sound = d.sound;
      of_table = d.of_table;
      ruling = d.ruling;
      some = d.some;
      short = d.short;
      own = d.own;
      asked = d.asked;
      sees = d.sees;
      others = (subst (IsListingOf table label) (sym c.regard.ensures.same) tells.0, tells.1);
    }
