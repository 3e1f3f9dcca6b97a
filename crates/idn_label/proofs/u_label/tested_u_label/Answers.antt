use Rattle.std.proofs.Common.{◌≤◌, length, sym, ap, ◌∙◌, arith}
use Rattle.std.proofs.lemmas.Result.{err_from_is_err_and}
use Rattle.idna.specs.Punycode.{decode}
use Rattle.idna.specs.Validity.{is_all_ascii}
use Rattle.idn_punycode.proofs.UnitLemmas.{codes_length}
use Rattle.idn_label.specs.inner.FaultSteps.{fault_but_length}
use Rattle.idn_label.proofs.ALabels.{answered-tested, coded_fault}
use Rattle.idn_label.proofs.u_label.tested_u_label.Goals as goal

pub returns-clause-passes : goal.returns-clause-passes
returns-clause-passes g c =
    let given = g.U.Unit.codes c.args.given.now in
    let label = c.decode.new.self in
    let many = codes_length g.U.Unit.code g.U.Unit.codes g.met.U.Unit.codes_are c.args.given.now in
    let short : length given ≤ 63 = omega (arith, many, c.if-given-gt-MAX_LABEL_LEN.false) in
    let few : length label ≤ 63 = omega (arith, c.as_slice.ensures.short, ap length c.as_slice.ensures.value) in
    answered-tested c.args.properties given label c.requires.prefix short (ap decode (sym c.code_of.ensures.codes) ∙ c.in-Ok.ensures.decoded) (ap is_all_ascii (sym c.as_slice.ensures.value) ∙ sym c.if-is_all_ascii.ensures) few
    (ap (fault_but_length c.args.properties) (sym c.as_slice-2.ensures.value) ∙ c.in_ok-check_label.ensures.passes)

pub returns-in_err-check_label-clause-fault : goal.returns-in_err-check_label-clause-fault
returns-in_err-check_label-clause-fault g c =
    let label = c.decode.new.self in
    let p = err_from_is_err_and c.from_residual.result c.from_residual.ensures.1 in
    rw (p.1, p.2)
    (λ lower other. coded_fault c.args.properties (g.U.Unit.codes c.args.given.now) label _ c.requires.prefix lower (ap decode (sym c.code_of.ensures.codes) ∙ c.in-Ok.ensures.decoded) (ap is_all_ascii (sym c.as_slice.ensures.value) ∙ sym c.if-is_all_ascii.ensures) (ap (fault_but_length c.args.properties) (sym c.as_slice-2.ensures.value) ∙ c.in_err-check_label.ensures.fault other))
