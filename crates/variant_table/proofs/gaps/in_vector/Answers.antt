use Rattle.std.proofs.Common.{rules, sym, subst, ◌≡◌}
use Rattle.std.proofs.lemmas.Iterator.Adapters.{items_from_extend}
use Rattle.std.proofs.lemmas.Iterator.Consumers.{YieldsList-from_rest}
use Rattle.std.specs.List.Sorted.{IsStrictlySortedBy}
use Rattle.variant_table.specs.Gaps.{pair_cmp, pairs_of}
use Rattle.variant_table.proofs.GapLemmas.{rising_pairs}
use Rattle.variant_table.proofs.gaps.in_vector.Goals as goal

pub returns-clause-gaps : goal.returns-clause-gaps
returns-clause-gaps c =
    let all = items_from_extend c.extend.result c.extend.ensures.ran (YieldsList-from_rest c.args.gaps.keys cc) in search rules

pub returns-clause-rising : goal.returns-clause-rising
returns-clause-rising c =
    let all = items_from_extend c.extend.result c.extend.ensures.ran (YieldsList-from_rest c.args.gaps.keys cc) in
    let same : c.extend.new.self.items ≡ c.args.gaps.keys = search rules in
    subst (λ gaps. IsStrictlySortedBy pair_cmp (pairs_of gaps)) (sym same) (rising_pairs c.args.gaps.keys c.into_iter.ensures.into_iter_gives.4)
