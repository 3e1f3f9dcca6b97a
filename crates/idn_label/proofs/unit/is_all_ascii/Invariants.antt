use Rattle.std.proofs.Common.{◌≡◌, drop}
use Rattle.idna.specs.Validity.{is_all_ascii}
use Rattle.idn_label.proofs.unit.is_all_ascii.Given as goal

abbrev pub invariant-loop-unit : goal.invariant-loop-unit
invariant-loop-unit g l = is_all_ascii (g.U.Unit.codes l.label) ≡ is_all_ascii (g.U.Unit.codes (drop l.unit-index l.label))
