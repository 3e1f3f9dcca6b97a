use Rattle.std.proofs.Common.{◌≡◌, false, length, arith}
use Rattle.std.proofs.lemmas.Bool.Decides.{nat_tests}
use Rattle.std.proofs.lemmas.List.Elements.{AllWithin-upto}
use Rattle.idn_label.specs.inner.Octets.{is_past_ascii}
use Rattle.idn_label.proofs.OctetLemmas.{ascii_rest, is_first}
use Rattle.idn_label.proofs.octets.first_in_few.Goals as goal

pub returns-then-text-at-ge128-clause-found : goal.returns-then-text-at-ge128-clause-found
returns-then-text-at-ge128-clause-found c = is_first c.args.text.now c.args.start c.loop-at.at c.loop-at.auto.at c.loop-at-test.true c.loop-at.invariant (grind (arith, nat_tests))

pub returns-clause-none : goal.returns-clause-none
returns-clause-none c =
    let text = c.args.text.now in
    ascii_rest text c.args.start (AllWithin-upto (λ octet. is_past_ascii octet ≡ false) text c.args.start c.loop-at.at (length text) (omega (arith, c.loop-at-test.false)) c.loop-at.invariant)
