use Rattle.std.proofs.Common.{◌≡◌, not, take}
use Rattle.std.specs.Char.{is_ascii_uppercase}
use Rattle.std.specs.List.{list_all}
use Rattle.idn_label.proofs.u_label.has_no_capital.Given as goal

abbrev pub invariant-loop-unit : goal.invariant-loop-unit
invariant-loop-unit g l = l.has_none ≡ list_all (λ c. not (is_ascii_uppercase c)) (g.U.Unit.codes (take l.unit-index l.label))
