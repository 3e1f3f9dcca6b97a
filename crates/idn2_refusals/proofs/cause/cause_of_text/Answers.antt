use Rattle.std.proofs.Common.{rules}
use Rattle.idn_text.specs.Points.{IsUtf8Of}
use Rattle.idn2_refusals.specs.Explaining.{explained_by}
use Rattle.idn2_refusals.proofs.CauseLemmas.{text_needs-points}
use Rattle.idn2_refusals.proofs.cause.cause_of_text.Goals as goal

pub returns-in-Ok-clause-no_memory : goal.returns-in-Ok-clause-no_memory
returns-in-Ok-clause-no_memory c = λ needs.
    let is : IsUtf8Of c.args.text.now c.as_slice.result.now = search rules in
    c.cause_of_points.ensures.no_memory (text_needs-points (explained_by c.args.explaining.now) c.args.text.now c.as_slice.result.now c.args.refusal is needs)
