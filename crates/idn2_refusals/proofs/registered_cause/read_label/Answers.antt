use Rattle.std.proofs.Common.{ap, ◌∙◌}
use Rattle.idn2_refusals.specs.WrongLines.{points_in}
use Rattle.idn2_refusals.proofs.WrongLineLemmas.{points_read}
use Rattle.idn2_refusals.proofs.registered_cause.read_label.Goals as goal

pub returns-in-Some : goal.returns-in-Some
returns-in-Some c =
    points_read c.in-Some.body.now c.decode_points.new.points.items c.decode_points.result c.decode_points.ensures.decoded c.decode_points.ensures.refused c.decode_points.ensures.emptied
    ∙ ap points_in c.in-Some.ensures.body
