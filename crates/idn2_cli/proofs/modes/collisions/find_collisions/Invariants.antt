use Rattle.std.proofs.Common.{◌≡◌, false, length}
use Rattle.registered_labels.specs.Collisions.{collisions_ahead}
use Rattle.idn2_cli.specs.inner.Decided.{Decides, IsOfPair}
use Rattle.idn2_cli.specs.inner.FoundLabels.{AreWithin}
use Rattle.idn2_cli.specs.inner.LineAnswers.{reaches}
use Rattle.idn2_cli.proofs.CollisionSteps.{IsUnderWay}
use Rattle.idn2_cli.proofs.modes.collisions.find_collisions.Given as goal

-- those that are found so far, and those to come
abbrev pub invariant-near : goal.invariant-near
invariant-near l = record {
  registered : l.walk.registered ≡ l.fn.walk.registered;
  decides : Decides l.decisions;
  pair : IsOfPair l.fn.decisions.table.now l.fn.decisions.label.now l.decisions;
  within : AreWithin l.fn.walk.registered l.found.items;
  going : reaches l.options.limit (length l.found.items) ≡ false;
  under_way : IsUnderWay l.options l.fn.decisions.table.now l.fn.decisions.label.now l.options.limit l.fn.walk.registered l.fn.walk l.walk l.found.items;
}

abbrev pub decreases-near : goal.decreases-near
decreases-near l = length (collisions_ahead l.walk)
