use Rattle.std.proofs.Common.{◌≡◌, ◌^◌, ◌<◌, length, length-append, ap, ◌∙◌, arith}
use Rattle.std.specs.Prelude.{Some}
use Rattle.ruleset_text.specs.Definitions.{type_names, type_number}
use Rattle.ruleset_text.specs.Names.{predefined_types}
use Rattle.variant_dispositions.specs.Kinds.{bit_of, kind_of_variant}
use Rattle.variant_table.proofs.NumberLemmas.{number_below}
use Rattle.valid_labels.proofs.actions.kind_of_name.Goals as goal

pub kind_of_variant-requires : goal.kind_of_variant-requires
kind_of_variant-requires c =
    let d = c.args.definitions.now in
    let name = c.args.name.now in
    let is : c.type_number.result ≡ type_number d name = c.type_number.ensures.is ∙ ap (type_number d) c.as_slice.ensures in
    let below : type_number d name < length (type_names d) = number_below (type_names d) name c.requires in
    omega (arith, is, below, c.types-types.ensures.few, length-append predefined_types d.types)

pub returns : goal.returns
returns c =
    let d = c.args.definitions.now in
    let is : c.type_number.result ≡ type_number d c.args.name.now = c.type_number.ensures.is ∙ ap (type_number d) c.as_slice.ensures in
    c.kind_of_variant.ensures.word ∙ ap (λ n. 2 ^ bit_of (kind_of_variant (Some n))) is
