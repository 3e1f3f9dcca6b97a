use Rattle.std.proofs.Common.{◌≡◌, not, false, length, sym, ap, ◌∙◌, arith}
use Rattle.std.proofs.lemmas.List.Elements.{AllWithin-upto}
use Rattle.idn_label.specs.Steps.{is_ldh_point}
use Rattle.idn_label.proofs.LdhEndLemmas.{ends_at_other}
use Rattle.idn_label.proofs.ldh.ldh_end_in_few.Goals as goal

pub returns-then-not-is_ldh_point : goal.returns-then-not-is_ldh_point
returns-then-not-is_ldh_point c =
    ends_at_other c.args.text.now c.args.start c.loop-at.at c.loop-at.auto.at (omega (arith, c.loop-at-test.true)) c.loop-at.invariant (λ lt. ap is_ldh_point (sym c.from.ensures) ∙ sym c.if-not-is_ldh_point.ensures)

pub returns : goal.returns
returns c =
    let text = c.args.text.now in
    ends_at_other text c.args.start (length text) c.requires (omega arith) (AllWithin-upto (λ c. not (is_ldh_point c) ≡ false) text c.args.start c.loop-at.at (length text) (omega (arith, c.loop-at-test.false)) c.loop-at.invariant) (λ lt. absurd (omega (arith, lt)))
