use Rattle.std.proofs.Common.{◌&&◌, map, ap, ◌∙◌}
use Rattle.std.specs.List.{list_any}
use Rattle.idn_class.specs.BidiClass.{bidi_class}
use Rattle.idn_class.specs.Tests.{is_en, is_an}
use Rattle.idn_class.proofs.BidiLemmas.{list_any-mapped}
use Rattle.idn_class.proofs.bidi.has_both_numbers.Goals as goal

pub returns-then-has_european_number : goal.returns-then-has_european_number
returns-then-has_european_number c =
    let label = c.args.label.now in
    let class = bidi_class c.args.properties in
    c.has_arabic_number.ensures
    ∙ list_any-mapped is_an class label
    ∙ ap (λ en. en && list_any is_an (map class label)) (c.if-has_european_number.ensures ∙ list_any-mapped is_en class label)

pub returns-else-has_european_number : goal.returns-else-has_european_number
returns-else-has_european_number c =
    let label = c.args.label.now in
    let class = bidi_class c.args.properties in
    c.if-has_european_number.false
    ∙ ap (λ en. en && list_any is_an (map class label)) (c.if-has_european_number.ensures ∙ list_any-mapped is_en class label)
