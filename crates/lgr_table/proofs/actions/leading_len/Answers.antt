use Rattle.std.proofs.Common.{map, sym, subst, ◌∙◌}
use Rattle.std.proofs.lemmas.List.{take_all}
use Rattle.lgr_text.specs.Records.{action}
use Rattle.lgr_table.proofs.DemandLemmas.{AllInvalid, all-following, all-leading, following-cut, leading-cut}
use Rattle.lgr_table.proofs.actions.leading_len.Goals as goal

pub returns-then-not-makes_invalid-clause-leading : goal.returns-then-not-makes_invalid-clause-leading
returns-then-not-makes_invalid-clause-leading c =
    leading-cut c.args.actions.now c.loop-number.number c.index-actions-number.result c.loop-number-test.true c.index-actions-number.is
    c.loop-number.invariant (sym c.makes_invalid.ensures ∙ c.if-not-makes_invalid.true)

pub returns-then-not-makes_invalid-clause-following : goal.returns-then-not-makes_invalid-clause-following
returns-then-not-makes_invalid-clause-following c =
    following-cut c.args.actions.now c.loop-number.number c.index-actions-number.result c.loop-number-test.true c.index-actions-number.is
    c.loop-number.invariant (sym c.makes_invalid.ensures ∙ c.if-not-makes_invalid.true)

pub returns-clause-leading : goal.returns-clause-leading
returns-clause-leading c =
    all-leading c.args.actions.now
    (subst (λ l. AllInvalid (map action l)) (take_all c.loop-number.number c.args.actions.now c.loop-number-test.false) c.loop-number.invariant)

pub returns-clause-following : goal.returns-clause-following
returns-clause-following c =
    all-following c.args.actions.now
    (subst (λ l. AllInvalid (map action l)) (take_all c.loop-number.number c.args.actions.now c.loop-number-test.false) c.loop-number.invariant)
