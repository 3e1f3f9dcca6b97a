use Rattle.std.proofs.Common.{Some, sym, ap, ◌∙◌}
use Rattle.ruleset_text.specs.Definitions.{type_number}
use Rattle.lgr_table.proofs.CalledLemmas.{type-back}
use Rattle.lgr_table.proofs.mapped.type_called.Goals as goal

pub returns : goal.returns
returns c =
    let d = c.args.definitions.now in
    let k = c.in-Some.number in
    ap (λ n. Some (type_number d n)) (c.in_ok-name.ensures ∙ c.type_name.ensures)
    ∙ ap (λ j. Some j) (type-back d k c.set_names-names.ensures.without_fault (c.requires k c.in-Some.is)) ∙ sym c.in-Some.is
