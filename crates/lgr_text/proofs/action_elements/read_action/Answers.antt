use Rattle.std.proofs.Common.{◌≡◌, ◌&&◌, true, cond, None, Option, sym, ap, subst}
use Rattle.std.specs.Prelude.{codes}
use Rattle.std.proofs.lemmas.Result.{err_from_is_err_and}
use Rattle.lgr_text.specs.Attributes.{are_among}
use Rattle.lgr_text.specs.Elements.{is_empty}
use Rattle.lgr_text.specs.Actions.{action_by, action_of}
use Rattle.lgr_text.specs.Records as records
use Rattle.lgr_text.specs.inner.Reading.{Reads, node}
use Rattle.lgr_text.proofs.PassLemmas.{is-not-fails}
use Rattle.lgr_text.proofs.action_elements.read_action.Goals as goal

pub returns-in_err-check_plain : goal.returns-in_err-check_plain
returns-in_err-check_plain c = λ k say.
    let n = node c.args.element.now k in
    let p = err_from_is_err_and c.from_residual.result c.from_residual.ensures.1 in
    rw (p.1, p.2) (is-not-fails (are_among (codes "disp match not-match any-variant all-variants only-variants comment ref") n.attributes && is_empty k) (action_of n) _
    (λ f. ap (λ b. cond b (action_by n.attributes) None) f) (c.in_err-check_plain.ensures {u = tt} k say))

pub returns : goal.returns
returns c = λ k say.
    let n = node c.args.element.now k in
    let plain : are_among (codes "disp match not-match any-variant all-variants only-variants comment ref") n.attributes && is_empty k ≡ true = c.in_ok-check_plain.ensures {u = tt} k say in
    let said : action_of n ≡ action_by n.attributes = ap (λ b. cond b (action_by n.attributes) None) plain in
    subst (λ (o : Option records.Action). Reads records.action o c.action.result) (sym said) c.action.ensures
