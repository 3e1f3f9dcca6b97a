use Rattle.std.proofs.Common.{◌≡◌, sym, subst, ◌∙◌, length, arith}
use Rattle.idn_punycode.proofs.UnitLemmas.{codes_length, codes_at}
use Rattle.idn_label.proofs.LabelsByPlace.{IsWithoutStop, without_stop-more, ends_at_stop, ends_with_name}
use Rattle.idn_label.proofs.full_stops.label_end.Goals as goal

pub returns-then-code_point-eq-FULL_STOP : goal.returns-then-code_point-eq-FULL_STOP
returns-then-code_point-eq-FULL_STOP g c =
    let units = c.args.name.now in
    let many = codes_length g.U.Unit.code g.U.Unit.codes g.met.U.Unit.codes_are units in
    let is = c.code_point.ensures ∙ codes_at g.U.Unit.code g.U.Unit.codes g.met.U.Unit.codes_are units c.loop-at.at c.index-name-at.result c.loop-at-test.true c.index-name-at.is in
    ends_at_stop (g.U.Unit.codes units) c.args.start c.loop-at.at c.loop-at.auto.at (omega (arith, many, c.loop-at-test.true)) c.loop-at.invariant (sym is ∙ c.if-code_point-eq-FULL_STOP.true)

pub loop-at-preserved : goal.loop-at-preserved
loop-at-preserved g c =
    let units = c.args.name.now in
    let many = codes_length g.U.Unit.code g.U.Unit.codes g.met.U.Unit.codes_are units in
    let is = c.code_point.ensures ∙ codes_at g.U.Unit.code g.U.Unit.codes g.met.U.Unit.codes_are units c.loop-at.at c.index-name-at.result c.loop-at-test.true c.index-name-at.is in
    without_stop-more (g.U.Unit.codes units) c.args.start c.loop-at.at c.loop-at.auto.at (omega (arith, many, c.loop-at-test.true)) c.loop-at.invariant (λ e. c.if-code_point-eq-FULL_STOP.false (is ∙ e))

pub returns : goal.returns
returns g c =
    let name = g.U.Unit.codes c.args.name.now in
    let many = codes_length g.U.Unit.code g.U.Unit.codes g.met.U.Unit.codes_are c.args.name.now in
    let all : c.loop-at.at ≡ length c.args.name.now = omega (arith, c.loop-at-test.false, c.loop-at.auto.at-end c.requires) in
    ends_with_name name c.args.start _ c.requires (sym many) (subst (IsWithoutStop name c.args.start) all c.loop-at.invariant)
