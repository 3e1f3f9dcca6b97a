use Rattle.std.proofs.Common.{◌≡◌, false, get_or, arith}
use Rattle.std.specs.Char.{is_ascii}
use Rattle.std.proofs.lemmas.Bool.Decides.{nat_tests}
use Rattle.std.proofs.lemmas.Grind.{common_steps}
use Rattle.std.proofs.lemmas.List.Folds.{list_all_at}
use Rattle.idn_punycode.proofs.UnitLemmas.{codes_length, codes_at, codes_next}
use Rattle.idn_punycode.proofs.decoding.copy_basic.Goals as goal

pub returns-then-code_point-ge-INITIAL_CODE_POINT-clause-none : goal.returns-then-code_point-ge-INITIAL_CODE_POINT-clause-none
returns-then-code_point-ge-INITIAL_CODE_POINT-clause-none g c =
    let units = c.args.basic.now in
    let basic = g.U.Unit.codes units in
    let at = c.loop-at.at in
    let many = codes_length g.U.Unit.code g.U.Unit.codes g.met.U.Unit.codes_are units in
    let is = codes_at g.U.Unit.code g.U.Unit.codes g.met.U.Unit.codes_are units at c.index-basic-at.result c.loop-at-test.true c.index-basic-at.is in
    let past : is_ascii (get_or basic at 0) ≡ false = grind (arith, nat_tests, is, c.code_point-code_point.ensures, c.if-code_point-ge-INITIAL_CODE_POINT.true) in
    list_all_at is_ascii basic at 0 (omega (arith, many, c.loop-at-test.true)) past

pub loop-at-preserved : goal.loop-at-preserved
loop-at-preserved g c =
    let next = codes_next g.U.Unit.code g.U.Unit.codes g.met.U.Unit.codes_are c.args.basic.now c.loop-at.at c.index-basic-at.result c.code_point-code_point.result c.loop-at-test.true c.index-basic-at.is c.code_point-code_point.ensures in
    grind (arith, common_steps, next)
