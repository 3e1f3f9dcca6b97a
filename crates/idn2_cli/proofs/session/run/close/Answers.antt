use Rattle.std.proofs.Common.{refl, ap, ◌∙◌}
use Rattle.idn2_refusals.specs.Reports.{closing_status}
use Rattle.idn2_cli.proofs.RunEnds.{closes_by}
use Rattle.idn2_cli.proofs.session.run.close.Goals as goal

pub returns : goal.returns
returns g c = rw (← c.console.view_is) (record {
  closes = closes_by c.args.why _ _ c.in_default.not-Messages refl (rw c.refusal.ensures at c.report.ensures.message);
  status = c.report.ensures.status ∙ ap closing_status c.refusal.ensures;
})
