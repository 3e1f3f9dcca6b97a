use Rattle.variant_list.proofs.NearLaws.{AreNear-itself}
use Rattle.idn2_answers.proofs.AdmittedLabels.{admitted-made}
use Rattle.idn2_cli.proofs.modes.search.Search.net.Goals as goal

-- what the table admits is near itself
pub unreachable-requires : goal.unreachable-requires
unreachable-requires c =
    let table = c.args.self.now.table.now in
    let label = c.args.label.now in
    c.in-Err-NothingSpelled.ensures.nothing_spelled c.in-Err-NothingSpelled.field-0-is label (AreNear-itself table label (admitted-made table label c.requires.admitted))
