use Rattle.std.proofs.Common.{◌≡◌, ◌&&◌, true, cond, None, Option, sym, ap, ◌∙◌, subst}
use Rattle.std.specs.Prelude.{bytes_eq, codes}
use Rattle.std.proofs.lemmas.Result.{err_from_is_err_and}
use Rattle.lgr_text.specs.Attributes.{are_among}
use Rattle.lgr_text.specs.Elements.{if_plain, is_empty}
use Rattle.lgr_text.specs.Entries.{variant_by, variant_of}
use Rattle.lgr_text.specs.Records as records
use Rattle.lgr_text.specs.inner.Reading.{Reads, node}
use Rattle.lgr_text.proofs.PassLemmas.{is-not-fails}
use Rattle.lgr_text.proofs.entries.read_variant.Goals as goal

pub returns-then-not-is_named : goal.returns-then-not-is_named
returns-then-not-is_named c = λ k say.
    let n = node c.args.element.now k in
    rw c.wrong.ensures (ap (λ b. cond b (if_plain (codes "cp type when not-when comment ref") n (variant_by n.attributes)) None) (sym c.is_named.ensures ∙ c.if-not-is_named.true))

pub returns-in_err-check_plain : goal.returns-in_err-check_plain
returns-in_err-check_plain c = λ k say.
    let n = node c.args.element.now k in
    let named : bytes_eq n.name (codes "var") ≡ true = sym c.is_named.ensures ∙ c.if-not-is_named.false in
    let p = err_from_is_err_and c.from_residual.result c.from_residual.ensures.1 in
    rw (p.1, p.2) (is-not-fails (are_among (codes "cp type when not-when comment ref") n.attributes && is_empty k) (variant_of n) _
    (λ f. ap (λ b. cond b (if_plain (codes "cp type when not-when comment ref") n (variant_by n.attributes)) None) named ∙ ap (λ b. cond b (variant_by n.attributes) None) f)
    (c.in_err-check_plain.ensures {u = tt} k say))

pub returns : goal.returns
returns c = λ k say.
    let n = node c.args.element.now k in
    let named : bytes_eq n.name (codes "var") ≡ true = sym c.is_named.ensures ∙ c.if-not-is_named.false in
    let plain : are_among (codes "cp type when not-when comment ref") n.attributes && is_empty k ≡ true = c.in_ok-check_plain.ensures {u = tt} k say in
    let said : variant_of n ≡ variant_by n.attributes =
    ap (λ b. cond b (if_plain (codes "cp type when not-when comment ref") n (variant_by n.attributes)) None) named ∙ ap (λ b. cond b (variant_by n.attributes) None) plain in
    subst (λ (o : Option records.Variant). Reads records.variant o c.variant.result) (sym said) c.variant.ensures
