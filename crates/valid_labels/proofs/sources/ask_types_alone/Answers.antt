use Rattle.std.proofs.Common.{◌≡◌, true, false, sym, ◌∙◌}
use Rattle.valid_labels.specs.Validity.{AsksTypesAlone}
use Rattle.valid_labels.proofs.ActionLemmas.{action-at}
use Rattle.valid_labels.proofs.sources.ask_types_alone.Goals as goal

pub returns-then-not-asks_types_alone : goal.returns-then-not-asks_types_alone
returns-then-not-asks_types_alone c = (
  λ h. absurd (let f : false ≡ true = h in cc),
  λ all.
      let one = action-at AsksTypesAlone c.args.actions.now c.loop-action.action-index c.action-item.result c.loop-action-test.true c.action-item.is all in
      absurd (let f : true ≡ false = sym (c.asks_types_alone.ensures.1 one) ∙ c.if-not-asks_types_alone.true in cc),
)
