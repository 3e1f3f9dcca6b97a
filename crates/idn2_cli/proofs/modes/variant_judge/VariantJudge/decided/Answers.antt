use Rattle.std.proofs.Common.{sym, subst, ◌∙◌}
use Rattle.std.specs.Prelude.{Option}
use Rattle.valid_labels.specs.Testing.{Testing}
use Rattle.idn2_cli.specs.inner.Dispositions.{AreRulesOf}
use Rattle.idn2_cli.specs.inner.Ruling.{matched_in}
use Rattle.idn2_cli.proofs.AppearanceLemmas.{left_out-appears, listed-appears}
use Rattle.idn2_cli.proofs.AskedRules.{seen-rules}
use Rattle.idn2_cli.proofs.modes.variant_judge.VariantJudge.decided.Goals as goal

pub appearance-requires-clause-rules : goal.appearance-requires-clause-rules
appearance-requires-clause-rules c =
    let table = c.args.self.now.dispositions.table in
    subst (λ (t : Option Testing). AreRulesOf table c.args.label.now (matched_in t)) (sym c.of_test-rules.ensures)
    (seen-rules c.args.self.now.validity table c.args.label.now c.requires.sound c.requires.ruling c.requires.sees)

pub returns-in-LeftOut-clause-verdict : goal.returns-in-LeftOut-clause-verdict
returns-in-LeftOut-clause-verdict c =
    let of = c.args.self.now.dispositions in
    left_out-appears of.table of.label c.args.label.now (sym c.in-LeftOut.is ∙ c.appearance.ensures.told)

pub returns-in-Listed-clause-verdict : goal.returns-in-Listed-clause-verdict
returns-in-Listed-clause-verdict c =
    let of = c.args.self.now.dispositions in
    listed-appears of.table of.label c.args.label.now c.in-Listed.disposition (sym c.in-Listed.is ∙ c.appearance.ensures.told)
