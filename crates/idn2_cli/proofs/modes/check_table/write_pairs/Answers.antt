use Rattle.std.proofs.Common.{◌++◌, ◌+◌, [], ◌∷◌, ◌∙◌, Err, List, ℕ, map, drop, ap, sym, subst, append_assoc}
use Rattle.std.proofs.lemmas.Result.{err_from_is_err_and}
use Rattle.variant_table.specs.Gaps.{pair_of, pairs_of}
use Rattle.variant_table.specs.WellFormed.{IsSequence}
use Rattle.idn2_answers.specs.Said.{Found, finding_text}
use Rattle.idn2_output.specs.OutputLines.{Output, outputs}
use Rattle.idn2_output.proofs.WrittenOutputLines.{emits_as, writes_as, writes_join, stops_between}
use Rattle.idn2_cli.proofs.modes.check_table.write_pairs.Goals as goal
use Rattle.variant_table.proofs.ListLemmas.{drop_item}

pub write_pair-requires-clause-first : goal.write_pair-requires-clause-first
write_pair-requires-clause-first g c = subst IsSequence (sym c.deref.ensures.value) (c.requires c.pairs.pair-index c.pair-item.result c.pairs-test.true c.pair-item.is).0

pub write_pair-requires-clause-second : goal.write_pair-requires-clause-second
write_pair-requires-clause-second g c = subst IsSequence (sym c.deref-in-pairs.ensures.value) (c.requires c.pairs.pair-index c.pair-item.result c.pairs-test.true c.pair-item.is).1

pub pairs-preserved : goal.pairs-preserved
pairs-preserved g c =
    let so_far = c.pairs.invariant in
    let pair = c.pair-item.result in
    let text = finding_text c.args.form in
    let found = Found c.args.finding in
    let output_line = Output (text (found (pair_of pair))) in
    let rest = drop (c.pairs.pair-index + 1) c.args.pairs.now in
    let next = drop_item c.args.pairs.now c.pairs.pair-index pair c.pairs-test.true c.pair-item.is in
    let line = ap (λ (s : List ℕ). text (found (s, c.deref-in-pairs.result.now))) c.deref.ensures.value ∙ ap (λ (s : List ℕ). text (found (pair.0.items, s))) c.deref-in-pairs.ensures.value in
    record {
      so_far = so_far.so_far ++ output_line ∷ [];
      split = so_far.split ∙ ap (λ l. so_far.so_far ++ outputs text (map found (pairs_of l))) next
          ∙ sym (append_assoc so_far.so_far (output_line ∷ []) (outputs text (map found (pairs_of rest))));
      output_lines = writes_join _ _ _ so_far.so_far (output_line ∷ []) so_far.output_lines (writes_as _ _ Output _ _ line c.in_ok-write_pair.ensures.written);
    }

pub returns-in_err-write_pair-clause-written : goal.returns-in_err-write_pair-clause-written
returns-in_err-write_pair-clause-written g c =
    let p = err_from_is_err_and c.from_residual.result c.from_residual.ensures.1 in
    let so_far = c.pairs.invariant in
    let pair = c.pair-item.result in
    let text = finding_text c.args.form in
    let found = Found c.args.finding in
    let output_line = Output (text (found (pair_of pair))) in
    let rest = drop (c.pairs.pair-index + 1) c.args.pairs.now in
    let next = drop_item c.args.pairs.now c.pairs.pair-index pair c.pairs-test.true c.pair-item.is in
    let line = ap (λ (s : List ℕ). text (found (s, c.deref-in-pairs.result.now))) c.deref.ensures.value ∙ ap (λ (s : List ℕ). text (found (pair.0.items, s))) c.deref-in-pairs.ensures.value in
    rw p.1 (stops_between _ _ _ _ so_far.so_far (output_line ∷ []) (outputs text (map found (pairs_of rest))) c.write_pair.result p.0
    (so_far.split ∙ ap (λ l. so_far.so_far ++ outputs text (map found (pairs_of l))) next) so_far.output_lines
    (emits_as _ _ Output _ _ c.write_pair.result line c.write_pair.ensures.written) (c.in_err-write_pair.was ∙ ap Err (sym p.2)))
