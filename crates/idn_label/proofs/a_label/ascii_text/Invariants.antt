use Rattle.std.proofs.Common.{◌≡◌, true, take, drop}
use Rattle.idna.specs.Validity.{is_all_ascii}
use Rattle.idn_label.proofs.a_label.ascii_text.Given as goal

abbrev pub invariant-loop-unit : goal.invariant-loop-unit
invariant-loop-unit g l = record { text : l.text.bytes ≡ g.U.Unit.codes (take l.unit-index l.label); ascii : is_all_ascii (g.U.Unit.codes (drop l.unit-index l.label)) ≡ true }
