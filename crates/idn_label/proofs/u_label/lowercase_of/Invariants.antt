use Rattle.std.proofs.Common.{◌≡◌, true, map, take, drop}
use Rattle.std.specs.Char.{to_ascii_lowercase}
use Rattle.idna.specs.Validity.{is_all_ascii}
use Rattle.idn_label.proofs.u_label.lowercase_of.Given as goal

abbrev pub invariant-loop-unit : goal.invariant-loop-unit
invariant-loop-unit g l =
    record { lower : l.lower.items ≡ map to_ascii_lowercase (g.U.Unit.codes (take l.unit-index l.label)); ascii : is_all_ascii (g.U.Unit.codes (drop l.unit-index l.label)) ≡ true }
