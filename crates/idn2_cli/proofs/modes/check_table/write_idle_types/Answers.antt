use Rattle.std.proofs.Common.{◌++◌, ◌+◌, [], ◌∷◌, ◌∙◌, Err, List, ℕ, ◌≤◌, length, map, drop, ap, sym, subst, append_assoc}
use Rattle.std.proofs.lemmas.Result.{err_from_is_err_and}
use Rattle.idn2_answers.specs.Said.{Idle, finding_text}
use Rattle.idn2_output.specs.OutputLines.{Output, outputs}
use Rattle.idn2_output.proofs.WrittenOutputLines.{emits_as, writes_as, writes_join, stops_between}
use Rattle.idn2_cli.proofs.modes.check_table.write_idle_types.Goals as goal
use Rattle.variant_table.proofs.ListLemmas.{drop_item}

pub write_idle_type-requires : goal.write_idle_type-requires
write_idle_type-requires g c =
    let short = subst (λ (name : List ℕ). length name ≤ 32) (sym c.name-item.is) (c.requires c.names.name-index c.name-item.result c.names-test.true) in
    subst (λ (name : List ℕ). length name ≤ 32) (sym c.as_slice.ensures) short

pub names-preserved : goal.names-preserved
names-preserved g c =
    let so_far = c.names.invariant in
    let name = c.name-item.result in
    let text = finding_text c.args.form in
    let output_line = Output (text (Idle name)) in
    let rest = drop (c.names.name-index + 1) c.args.names.now in
    let next = drop_item c.args.names.now c.names.name-index name c.names-test.true c.name-item.is in
    let line = ap (λ (s : List ℕ). text (Idle s)) c.as_slice.ensures in
    record {
      so_far = so_far.so_far ++ output_line ∷ [];
      split = so_far.split ∙ ap (λ l. so_far.so_far ++ outputs text (map Idle l)) next
          ∙ sym (append_assoc so_far.so_far (output_line ∷ []) (outputs text (map Idle rest)));
      output_lines = writes_join _ _ _ so_far.so_far (output_line ∷ []) so_far.output_lines (writes_as _ _ Output _ _ line c.in_ok-write_idle_type.ensures.written);
    }

pub returns-in_err-write_idle_type-clause-written : goal.returns-in_err-write_idle_type-clause-written
returns-in_err-write_idle_type-clause-written g c =
    let p = err_from_is_err_and c.from_residual.result c.from_residual.ensures.1 in
    let so_far = c.names.invariant in
    let name = c.name-item.result in
    let text = finding_text c.args.form in
    let output_line = Output (text (Idle name)) in
    let rest = drop (c.names.name-index + 1) c.args.names.now in
    let next = drop_item c.args.names.now c.names.name-index name c.names-test.true c.name-item.is in
    let line = ap (λ (s : List ℕ). text (Idle s)) c.as_slice.ensures in
    rw p.1 (stops_between _ _ _ _ so_far.so_far (output_line ∷ []) (outputs text (map Idle rest)) c.write_idle_type.result p.0
    (so_far.split ∙ ap (λ l. so_far.so_far ++ outputs text (map Idle l)) next) so_far.output_lines
    (emits_as _ _ Output _ _ c.write_idle_type.result line c.write_idle_type.ensures.written) (c.in_err-write_idle_type.was ∙ ap Err (sym p.2)))
