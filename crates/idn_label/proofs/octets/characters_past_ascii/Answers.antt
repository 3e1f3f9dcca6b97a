use Rattle.idn_label.proofs.OctetLemmas.{read-all, read-character, read-first, read-nothing, read-refused, read-rest, read-rest_ascii}
use Rattle.idn_label.proofs.octets.characters_past_ascii.Goals as goal

pub loop-at-init : goal.loop-at-init
loop-at-init c = read-first c.args.text.now 0 _ (read-nothing c.args.text.now) c.requires

pub loop-at-preserved-then-text-at-lt128 : goal.loop-at-preserved-then-text-at-lt128
loop-at-preserved-then-text-at-lt128 c = read-first c.args.text.now c.loop-at.at _ c.loop-at.invariant c.in-Some.ensures.found

pub loop-at-preserved : goal.loop-at-preserved
loop-at-preserved c = read-character c.args.text.now c.loop-at.at _ c.loop-at.invariant c.in-Some-left_to_right_end.ensures

pub returns-in-Ok-clause-utf8 : goal.returns-in-Ok-clause-utf8
returns-in-Ok-clause-utf8 c = read-rest c.args.text.now c.loop-at.at c.loop-at.invariant c.in-Ok.ensures.cases.1

pub returns-in-Err-clause-other : goal.returns-in-Err-clause-other
returns-in-Err-clause-other c = read-refused c.args.text.now c.loop-at.at c.loop-at.invariant c.in-Err.ensures.cases.0

pub returns-clause-utf8 : goal.returns-clause-utf8
returns-clause-utf8 c = (read-all c.args.text.now c.loop-at.at c.loop-at-test.false c.loop-at.invariant).0

pub returns-clause-described : goal.returns-clause-described
returns-clause-described c = (read-all c.args.text.now c.loop-at.at c.loop-at-test.false c.loop-at.invariant).1

pub returns-in_default-clause-utf8 : goal.returns-in_default-clause-utf8
returns-in_default-clause-utf8 c = (read-rest_ascii c.args.text.now c.loop-at.at c.loop-at.invariant c.in_default.ensures.none).0

pub returns-in_default-clause-described : goal.returns-in_default-clause-described
returns-in_default-clause-described c = (read-rest_ascii c.args.text.now c.loop-at.at c.loop-at.invariant c.in_default.ensures.none).1
