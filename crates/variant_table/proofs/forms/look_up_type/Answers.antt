use Rattle.std.proofs.Common.{◌≡◌, ◌<◌, length, length-append, true, ap, sym, ◌∙◌, arith}
use Rattle.ruleset_text.specs.Definitions.{type_names, type_number}
use Rattle.ruleset_text.specs.Names.{predefined_types}
use Rattle.variant_table.specs.Forms.{knows_type}
use Rattle.variant_table.proofs.NumberLemmas.{number_below}
use Rattle.variant_table.proofs.forms.look_up_type.Goals as goal

pub returns-in-Some-clause-small : goal.returns-in-Some-clause-small
returns-in-Some-clause-small c =
    let d = c.args.definitions.now in
    let name = c.in-Some.name in
    let is : c.type_number.result ≡ type_number d name = c.type_number.ensures.is ∙ ap (type_number d) c.as_slice.ensures in
    let known : knows_type d c.args.mapped.now.type_name ≡ true = c.requires.known in
    let below : type_number d name < length (type_names d) = number_below (type_names d) name (sym (ap (knows_type d) c.in-Some.is) ∙ known) in
    omega (arith, is, below, c.types-types.ensures.few, length-append predefined_types d.types)
