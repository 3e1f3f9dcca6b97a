use Rattle.std.proofs.Common.{◌++◌, [], ◌∷◌, ◌∙◌, Err, map, ap, sym, subst}
use Rattle.std.proofs.lemmas.List.{append-nil}
use Rattle.std.proofs.lemmas.Result.{err_from_is_err_and}
use Rattle.idn2_answers.specs.Said.{Counted, Idle, finding_text}
use Rattle.idn2_output.specs.OutputLines.{Output, outputs}
use Rattle.idn2_output.specs.Writing.{Writes}
use Rattle.idn2_output.proofs.WrittenOutputLines.{writes_join, writes_nothing, stops_between}
use Rattle.idn2_cli.proofs.CheckLemmas.{last-split}
use Rattle.idn2_cli.proofs.modes.check_table.write_last.Goals as goal

pub returns-in_err-write_idle_types-clause-written : goal.returns-in_err-write_idle_types-clause-written
returns-in_err-write_idle_types-clause-written g c =
    let p = err_from_is_err_and c.from_residual.result c.from_residual.ensures.1 in
    let text = finding_text c.args.form in
    let first = outputs text (map Idle c.args.idle.now) in
    let last = Output (text (Counted c.args.entries c.args.gaps)) ∷ [] in
    rw p.1 (stops_between _ _ _ _ [] first last c.write_idle_types.result p.0 (last-split c.args.form c.args.idle.now c.args.entries c.args.gaps) (writes_nothing _) c.write_idle_types.ensures.written
    (c.in_err-write_idle_types.was ∙ ap Err (sym p.2)))

pub returns-in_err-write_counts-clause-written : goal.returns-in_err-write_counts-clause-written
returns-in_err-write_counts-clause-written g c =
    let p = err_from_is_err_and c.from_residual-in_err-write_counts.result c.from_residual-in_err-write_counts.ensures.1 in
    let text = finding_text c.args.form in
    let first = outputs text (map Idle c.args.idle.now) in
    let last = Output (text (Counted c.args.entries c.args.gaps)) ∷ [] in
    rw p.1 (stops_between _ _ _ _ first last [] c.write_counts.result p.0 (last-split c.args.form c.args.idle.now c.args.entries c.args.gaps ∙ ap (λ l. first ++ l) (sym (append-nil last))) c.in_ok-write_idle_types.ensures.written c.write_counts.ensures.written
    (c.in_err-write_counts.was ∙ ap Err (sym p.2)))

pub returns-clause-written : goal.returns-clause-written
returns-clause-written g c =
    let text = finding_text c.args.form in
    subst (Writes _ _) (sym (last-split c.args.form c.args.idle.now c.args.entries c.args.gaps))
    (writes_join _ _ _ (outputs text (map Idle c.args.idle.now)) (Output (text (Counted c.args.entries c.args.gaps)) ∷ []) c.in_ok-write_idle_types.ensures.written c.in_ok-write_counts.ensures.written)
