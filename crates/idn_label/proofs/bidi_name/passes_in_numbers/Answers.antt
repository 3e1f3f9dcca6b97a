use Rattle.std.proofs.Common.{map, ap, ◌∙◌, take_all, arith}
use Rattle.idna.specs.Labels.{labels_of}
use Rattle.idna.specs.Validity.{passes_bidi}
use Rattle.idn_label.specs.inner.BidiNames.{shown}
use Rattle.idn_label.proofs.BidiNames.{passes_bidi-shown}
use Rattle.idn_label.proofs.bidi_name.passes_in_numbers.Goals as goal

pub returns : goal.returns
returns c =
    let all = take_all c.loop-c.c-index c.args.name.now (omega (arith, c.loop-c-test.false)) in
    c.passes_bidi.ensures
    ∙ ap (λ name. passes_bidi (labels_of name)) (c.deref.ensures.0 ∙ c.loop-c.invariant ∙ ap (map shown) all)
    ∙ passes_bidi-shown c.args.name.now
