use Rattle.std.proofs.Common.{◌++◌, ◌∷◌, [], take, sym, ap, ◌∙◌}
use Rattle.std.proofs.lemmas.List.{get_or_read, take_more}
use Rattle.lgr_table.proofs.OtherRulesLemmas.{others-too}
use Rattle.lgr_table.proofs.rules.define_sets.Goals as goal

pub loop-number-preserved : goal.loop-number-preserved
loop-number-preserved c =
    let sets = c.args.sets.now in
    let i = c.loop-number.number in
    let x = c.index-sets-number.result in
    let set = c.in_ok-define_set.ensures in
    record {
      sets = set.sets ∙ ap (λ l. l ++ x ∷ []) c.loop-number.invariant.sets
          ∙ ap (λ y. take i sets ++ y ∷ []) (get_or_read sets i x c.loop-number-test.true c.index-sets-number.is x)
          ∙ sym (take_more sets i x c.loop-number-test.true);
      rules = set.rules ∙ c.loop-number.invariant.rules;
      others = others-too c.args.builder.now c.loop-number.builder c.define_set.new.builder c.loop-number.invariant.others set.others;
      called = λ rules are. set.called rules (c.loop-number.invariant.called rules are);
    }
