use Rattle.std.proofs.Common.{[], take, sym, ap, ◌∙◌}
use Rattle.std.proofs.lemmas.List.{get_or-map}
use Rattle.lgr_text.specs.DefinitionOrder.{is_name_of_one}
use Rattle.lgr_text.specs.declared.records.Definition.{Definition}
use Rattle.lgr_text.proofs.order.is_repeated.Goals as goal

pub returns : goal.returns
returns c =
    let ds = c.args.definitions.now in
    let k = c.args.number in
    let this = c.index-definitions-number.result in
    let name = get_or-map (λ (d : Definition). d.name) ds k this [] c.requires in
    c.is_name_of_one.ensures
    ∙ ap (λ l. is_name_of_one l c.as_slice-name.result.now) c.split_at.ensures.front
    ∙ ap (is_name_of_one (take k ds)) (c.as_slice-name.ensures ∙ sym name)
