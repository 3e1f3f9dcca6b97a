use Rattle.std.proofs.Common.{◌≡◌, sym, ◌∙◌}
use Rattle.idn_class.specs.DeadPrefixes.{hopeless}
use Rattle.idn_class.proofs.DeadPrefixTests.{hopeless-gives, hopeless-from}
use Rattle.idn_class.proofs.DeadPrefixShortest.{is_some-hopeless}
use Rattle.idn_class.proofs.beginning.hopeless_by.Goals as goal

pub returns-clause-test : goal.returns-clause-test
returns-clause-test c = c.is_some.ensures ∙ is_some-hopeless c.args.properties c.args.label.now c.shortest_hopeless.result c.shortest_hopeless.ensures

pub returns-clause-rule : goal.returns-clause-rule
returns-clause-rule c =
    let same : c.is_some.result ≡ hopeless c.args.properties c.args.label.now = c.is_some.ensures ∙ is_some-hopeless c.args.properties c.args.label.now c.shortest_hopeless.result c.shortest_hopeless.ensures in
    (λ yes. hopeless-gives c.args.properties c.args.label.now (sym same ∙ yes), λ is. same ∙ hopeless-from c.args.properties c.args.label.now is)
