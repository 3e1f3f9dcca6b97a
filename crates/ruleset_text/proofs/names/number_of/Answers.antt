use Rattle.std.proofs.Common.{◌≡◌, true, false, sym, ap, ◌∙◌, arith}
use Rattle.std.specs.Prelude.{bytes_eq}
use Rattle.ruleset_text.proofs.NameLemmas.{found-here, found-later, found-nowhere}
use Rattle.ruleset_text.proofs.names.number_of.Goals as goal

pub loop-number-init : goal.loop-number-init
loop-number-init c = omega arith

pub returns-then-eq-clause-is : goal.returns-then-eq-clause-is
returns-then-eq-clause-is c =
    let same : bytes_eq c.index-names-number.result c.args.bytes.now ≡ true = ap (λ n. bytes_eq n c.args.bytes.now) (sym c.as_slice.ensures) ∙ sym c.eq.ensures ∙ c.if-eq.true in
    found-here c.args.names.now c.args.bytes.now c.index-names-number.result c.loop-number.number c.loop-number-test.true c.index-names-number.is same c.loop-number.invariant

pub loop-number-preserved : goal.loop-number-preserved
loop-number-preserved c =
    let other : bytes_eq c.index-names-number.result c.args.bytes.now ≡ false = ap (λ n. bytes_eq n c.args.bytes.now) (sym c.as_slice.ensures) ∙ sym c.eq.ensures ∙ c.if-eq.false in
    found-later c.args.names.now c.args.bytes.now c.index-names-number.result c.loop-number.number c.loop-number-test.true c.index-names-number.is other c.loop-number.invariant

pub returns-clause-is : goal.returns-clause-is
returns-clause-is c = found-nowhere c.args.names.now c.args.bytes.now c.loop-number.number (omega arith) c.loop-number.invariant
