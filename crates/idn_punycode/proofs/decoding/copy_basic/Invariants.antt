use Rattle.std.proofs.Common.{◌≡◌, true, length, take}
use Rattle.std.specs.Char.{is_ascii}
use Rattle.std.specs.List.{list_all}
use Rattle.idn_class.specs.Facts.{AreFactsOf}
use Rattle.idn_punycode.proofs.decoding.copy_basic.Given as goal

abbrev pub invariant-loop-at : goal.invariant-loop-at
invariant-loop-at g l =
    let basic = g.U.Unit.codes l.basic in
    (take l.at l.points ≡ take l.at basic) × (length l.points ≡ length l.fn.points) × (list_all is_ascii (take l.at basic) ≡ true)
    × AreFactsOf l.facts (take l.at basic)
