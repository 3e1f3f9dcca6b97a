use Rattle.std.proofs.Common.{◌≡◌, true, cond, Some, None, Option, map, sym, ap, ◌∙◌, subst}
use Rattle.std.specs.Prelude.{codes, option_and_then}
use Rattle.std.proofs.lemmas.Result.{err_from_is_err_and}
use Rattle.lgr_text.specs.Attributes.{are_among}
use Rattle.lgr_text.specs.Elements.{each_element}
use Rattle.lgr_text.specs.Entries.{char_of, char_with, variant_of}
use Rattle.lgr_text.specs.Records as records
use Rattle.lgr_text.specs.inner.Reading.{Reads, node}
use Rattle.lgr_text.proofs.PassLemmas.{is-not-fails, fails-fails}
use Rattle.lgr_text.proofs.entries.read_char.Goals as goal

pub returns-in_err-check : goal.returns-in_err-check
returns-in_err-check c = λ k say.
    let n = node c.args.element.now k in
    let p = err_from_is_err_and c.from_residual.result c.from_residual.ensures.1 in
    rw (p.1, p.2) (is-not-fails (are_among (codes "cp when not-when tag comment ref") n.attributes) (char_of n) _
    (λ f. ap (λ b. cond b (option_and_then (char_with n.attributes) (each_element variant_of k)) None) f) (c.in_err-check.ensures {u = tt}))

pub returns-in_err-variants : goal.returns-in_err-variants
returns-in_err-variants c = λ k say.
    let n = node c.args.element.now k in
    let among : are_among (codes "cp when not-when tag comment ref") n.attributes ≡ true = c.in_ok-check.ensures {u = tt} in
    let p = err_from_is_err_and c.from_residual-in_err-variants.result c.from_residual-in_err-variants.ensures.1 in
    rw (p.1, p.2) (fails-fails (each_element variant_of k) (char_of n) _
    (λ f. ap (λ b. cond b (option_and_then (char_with n.attributes) (each_element variant_of k)) None) among ∙ ap (option_and_then (char_with n.attributes)) f)
    (c.in_err-variants.ensures {u = tt} k say))

pub returns : goal.returns
returns c = λ k say.
    let n = node c.args.element.now k in
    let among : are_among (codes "cp when not-when tag comment ref") n.attributes ≡ true = c.in_ok-check.ensures {u = tt} in
    let vs = map records.variant c.in_ok-variants.variants.items in
    let read : each_element variant_of k ≡ Some vs = c.in_ok-variants.ensures {u = tt} k say in
    let said : char_of n ≡ char_with n.attributes vs =
    ap (λ b. cond b (option_and_then (char_with n.attributes) (each_element variant_of k)) None) among ∙ ap (option_and_then (char_with n.attributes)) read in
    subst (λ (o : Option records.Entry). Reads records.entry o c.char_with.result) (sym said) c.char_with.ensures
