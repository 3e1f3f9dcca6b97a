use Rattle.std.proofs.Common.{◌∙◌, ◌++◌, ◌∷◌, [], ap, sym, take, append_assoc}
use Rattle.variant_table.specs.Entries.{Variant}
use Rattle.variant_table.proofs.ListLemmas.{take_next}
use Rattle.variant_table.proofs.EntryLemmas.{variant_from}
use Rattle.variant_table.proofs.sequences.Sequences.append.Goals as goal

pub loop-index-preserved : goal.loop-index-preserved
loop-index-preserved c =
    let x : Variant = record { sequence = c.get.result.now; type = c.variant_type.result; condition = c.condition.result } in
    c.in_ok-push.ensures.ok
    ∙ ap (λ s. s ++ x ∷ []) c.loop-index.invariant
    ∙ append_assoc c.args.self.now (take c.loop-index.index c.args.others.now) (x ∷ [])
    ∙ ap (λ t. c.args.self.now ++ t) (sym (take_next c.args.others.now c.loop-index.index x (variant_from c.args.others.now c.loop-index.index x c.get.ensures c.variant_type.ensures.is c.condition.ensures)))
