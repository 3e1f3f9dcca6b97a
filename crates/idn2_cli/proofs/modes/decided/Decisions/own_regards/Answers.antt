use Rattle.std.proofs.Common.{◌≡◌, ◌∙◌}
use Rattle.valid_labels.proofs.NothingLemmas.{admitted-valid}
use Rattle.variant_list.proofs.NetLemmas.{Spells-itself}
use Rattle.idn2_cli.specs.inner.Decided.{listed_regard}
use Rattle.idn2_cli.proofs.DecisionLemmas.{both_are, listed-spelled, of_good}
use Rattle.idn2_cli.proofs.RulingLemmas.{some-point}
use Rattle.idn2_cli.proofs.modes.decided.Decisions.own_regards.Goals as goal

pub returns : goal.returns
returns c = λ o good.
    let d = c.requires.decides in
    let table = c.args.self.now.table.now in
    let label = c.args.self.now.label.now in
    let spells = Spells-itself table label (admitted-valid.segmented table label good.admitted) in
    let own = c.of_own.ensures table label d.sound (some-point label d.some) d.of_table d.own in
    let listed : c.regard_of.result ≡ listed_regard table label label = c.regard_of.ensures ∙ listed-spelled table d.sound label label c.of_own.result spells own in
    let same = c.unwrap_or-regard.ensures ∙ of_good o table d.sound label label good good c.regard_of.result listed in
    both_are same same
