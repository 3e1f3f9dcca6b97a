use Rattle.std.proofs.Common.{◌≡◌, ◌≤◌, All, ◌++◌, ◌+◌, [], ◌∷◌, ◌∙◌, Err, ℕ, List, not, ◌==◌, length, map, ap, sym, subst, append_assoc}
use Rattle.std.proofs.lemmas.List.{append-nil}
use Rattle.std.proofs.lemmas.Result.{err_from_is_err_and}
use Rattle.variant_table.specs.Gaps.{gaps_of, pairs_of}
use Rattle.answer_json.specs.declared.checked.PairFinding.TheVariants.{Missing, Differs}
use Rattle.idn2_cli.specs.inner.PairSequences.{HoldSequences}
use Rattle.variant_table.specs.Differences.{differences_of}
use Rattle.variant_table.specs.Entries.{TableValue}
use Rattle.variant_table.specs.IdleTypes.{idle_types}
use Rattle.idn2_options.specs.declared.command_line.form.Form.{Form}
use Rattle.idn2_answers.specs.Said.{Counted, Found, Idle, finding_text}
use Rattle.idn2_output.specs.OutputLines.{OutputLine, outputs}
use Rattle.idn2_answers.specs.Transcript.{check_findings, status_if}
use Rattle.idn2_output.specs.Writing.{Emits, Writes}
use Rattle.idn2_cli.proofs.CheckLemmas.{gaps_hold, differences_hold, check-split, pairs_of-length}
use Rattle.idn2_output.proofs.WrittenOutputLines.{writes_join, writes_nothing, stops_first, stops_between}
use Rattle.idn2_cli.proofs.modes.check_table.check_table.Goals as goal

pub write_pairs-requires : goal.write_pairs-requires
write_pairs-requires g c =
    subst HoldSequences (sym c.as_slice-missing.ensures.value)
    (gaps_hold c.args.table.now.entries c.in_ok-gaps.gaps.items c.len-entries.ensures.well_formed c.in_ok-gaps.ensures.gaps)

pub write_pairs-requires-2 : goal.write_pairs-requires-2
write_pairs-requires-2 g c =
    subst HoldSequences (sym c.as_slice-differing.ensures.value)
    (differences_hold c.args.table.now.entries c.in_ok-differences.differences.items c.len-entries.ensures.well_formed c.in_ok-differences.ensures.differences)

pub returns-in_err-gaps-clause-written : goal.returns-in_err-gaps-clause-written
returns-in_err-gaps-clause-written g c =
    let p = err_from_is_err_and c.from_residual.result c.from_residual.ensures.1 in
    rw (p.1, p.2) (stops_first _ _)

pub returns-in_err-types-clause-written : goal.returns-in_err-types-clause-written
returns-in_err-types-clause-written g c =
    let p = err_from_is_err_and c.from_residual-in_err-types.result c.from_residual-in_err-types.ensures.1 in
    rw (p.1, p.2) (stops_first _ _)

pub returns-in_err-differences-clause-written : goal.returns-in_err-differences-clause-written
returns-in_err-differences-clause-written g c =
    let p = err_from_is_err_and c.from_residual-in_err-differences.result c.from_residual-in_err-differences.ensures.1 in
    rw (p.1, p.2) (stops_first _ _)

-- what is written at last
last_is : (form : Form) (table : TableValue) (names : List (List ℕ)) (entries gaps : ℕ) (pairs : List (List ℕ × List ℕ)) → names ≡ idle_types table.definitions → entries ≡ length table.entries → gaps ≡ length pairs
    → outputs (finding_text form) (map Idle names ++ Counted entries gaps ∷ []) ≡ outputs (finding_text form) (map Idle (idle_types table.definitions) ++ Counted (length table.entries) (length pairs) ∷ [])
last_is form table names entries gaps pairs idle all few =
    ap (λ (xs : List (List ℕ)). outputs (finding_text form) (map Idle xs ++ Counted entries gaps ∷ [])) idle
    ∙ ap (λ (n : ℕ). outputs (finding_text form) (map Idle (idle_types table.definitions) ++ Counted n gaps ∷ [])) all
    ∙ ap (λ (n : ℕ). outputs (finding_text form) (map Idle (idle_types table.definitions) ++ Counted (length table.entries) n ∷ [])) few

pub write_last-requires : goal.write_last-requires
write_last-requires g c =
    subst (All (λ (name : List ℕ). length name ≤ 32)) (sym (c.as_slice-idle.ensures.value ∙ c.in_ok-types.ensures.list)) c.in_ok-types.ensures.short

pub returns-in_err-write_pairs-clause-written : goal.returns-in_err-write_pairs-clause-written
returns-in_err-write_pairs-clause-written g c =
    let p = err_from_is_err_and c.from_residual-in_err-write_pairs.result c.from_residual-in_err-write_pairs.ensures.1 in
    let table = c.args.table.now in
    let gaps = pairs_of c.in_ok-gaps.gaps.items in
    let differences = pairs_of c.in_ok-differences.differences.items in
    let text = finding_text c.args.form in
    let last = outputs text (map Idle (idle_types table.definitions) ++ Counted (length table.entries) (length gaps) ∷ []) in
    rw p.1 (stops_between _ _ _ (outputs text (check_findings table)) [] (outputs text (map (Found Missing) gaps)) (outputs text (map (Found Differs) differences) ++ last) c.write_pairs.result p.0
    (check-split c.args.form table gaps differences c.in_ok-gaps.ensures.list c.in_ok-differences.ensures.list) (writes_nothing _) (rw c.as_slice-missing.ensures.value at c.write_pairs.ensures.written)
    (c.in_err-write_pairs.was ∙ ap Err (sym p.2)))

pub returns-in_err-write_pairs-2-clause-written : goal.returns-in_err-write_pairs-2-clause-written
returns-in_err-write_pairs-2-clause-written g c =
    let p = err_from_is_err_and c.from_residual-in_err-write_pairs-2.result c.from_residual-in_err-write_pairs-2.ensures.1 in
    let table = c.args.table.now in
    let gaps = pairs_of c.in_ok-gaps.gaps.items in
    let differences = pairs_of c.in_ok-differences.differences.items in
    let text = finding_text c.args.form in
    let last = outputs text (map Idle (idle_types table.definitions) ++ Counted (length table.entries) (length gaps) ∷ []) in
    rw p.1 (stops_between _ _ _ (outputs text (check_findings table)) (outputs text (map (Found Missing) gaps)) (outputs text (map (Found Differs) differences)) last c.write_pairs-2.result p.0
    (check-split c.args.form table gaps differences c.in_ok-gaps.ensures.list c.in_ok-differences.ensures.list) (rw c.as_slice-missing.ensures.value at c.in_ok-write_pairs.ensures.written)
    (rw c.as_slice-differing.ensures.value at c.write_pairs-2.ensures.written) (c.in_err-write_pairs-2.was ∙ ap Err (sym p.2)))

pub returns-in_err-write_last-clause-written : goal.returns-in_err-write_last-clause-written
returns-in_err-write_last-clause-written g c =
    let p = err_from_is_err_and c.from_residual-in_err-write_last.result c.from_residual-in_err-write_last.ensures.1 in
    let table = c.args.table.now in
    let gaps = pairs_of c.in_ok-gaps.gaps.items in
    let differences = pairs_of c.in_ok-differences.differences.items in
    let text = finding_text c.args.form in
    let missing = outputs text (map (Found Missing) gaps) in
    let differing = outputs text (map (Found Differs) differences) in
    let last = outputs text (map Idle (idle_types table.definitions) ++ Counted (length table.entries) (length gaps) ∷ []) in
    let count = ap length c.as_slice-missing.ensures.value ∙ sym (pairs_of-length c.in_ok-gaps.gaps.items) in
    let same = last_is c.args.form table c.as_slice-idle.result.now c.len-entries.result (length c.as_slice-missing.result.now) gaps (c.as_slice-idle.ensures.value ∙ c.in_ok-types.ensures.list) c.len-entries.ensures.count count in
    rw p.1 (stops_between _ _ _ (outputs text (check_findings table)) (missing ++ differing) last [] c.write_last.result p.0
    (check-split c.args.form table gaps differences c.in_ok-gaps.ensures.list c.in_ok-differences.ensures.list ∙ sym (append_assoc missing differing last) ∙ ap (λ l. (missing ++ differing) ++ l) (sym (append-nil last)))
    (writes_join _ _ _ missing differing (rw c.as_slice-missing.ensures.value at c.in_ok-write_pairs.ensures.written) (rw c.as_slice-differing.ensures.value at c.in_ok-write_pairs-2.ensures.written))
    (subst (λ (ps : List OutputLine). Emits c.write_pairs-2.new.console c.write_last.new.console ps c.write_last.result) same c.write_last.ensures.written) (c.in_err-write_last.was ∙ ap Err (sym p.2)))

pub returns-clause-written : goal.returns-clause-written
returns-clause-written g c =
    let table = c.args.table.now in
    let gaps = pairs_of c.in_ok-gaps.gaps.items in
    let differences = pairs_of c.in_ok-differences.differences.items in
    let text = finding_text c.args.form in
    let missing = outputs text (map (Found Missing) gaps) in
    let differing = outputs text (map (Found Differs) differences) in
    let last = outputs text (map Idle (idle_types table.definitions) ++ Counted (length table.entries) (length gaps) ∷ []) in
    let count = ap length c.as_slice-missing.ensures.value ∙ sym (pairs_of-length c.in_ok-gaps.gaps.items) in
    let same = last_is c.args.form table c.as_slice-idle.result.now c.len-entries.result (length c.as_slice-missing.result.now) gaps (c.as_slice-idle.ensures.value ∙ c.in_ok-types.ensures.list) c.len-entries.ensures.count count in
    subst (Writes _ _) (sym (check-split c.args.form table gaps differences c.in_ok-gaps.ensures.list c.in_ok-differences.ensures.list))
    (writes_join _ _ _ missing (differing ++ last) (rw c.as_slice-missing.ensures.value at c.in_ok-write_pairs.ensures.written)
    (writes_join _ _ _ differing last (rw c.as_slice-differing.ensures.value at c.in_ok-write_pairs-2.ensures.written) (subst (Writes _ _) same c.in_ok-write_last.ensures.written)))

pub returns-clause-status : goal.returns-clause-status
returns-clause-status g c =
    let table = c.args.table.now in
    let missing = ap length c.as_slice-missing.ensures.value ∙ sym (pairs_of-length c.in_ok-gaps.gaps.items) ∙ ap length c.in_ok-gaps.ensures.list in
    let differing = ap length c.as_slice-differing.ensures.value ∙ sym (pairs_of-length c.in_ok-differences.differences.items) ∙ ap length c.in_ok-differences.ensures.list in
    let idle = ap length c.as_slice-idle.ensures.value ∙ ap length c.in_ok-types.ensures.list in
    c.status_of_findings.ensures
    ∙ ap (λ (n : ℕ). status_if (not (n + length c.as_slice-differing.result.now + length c.as_slice-idle.result.now == 0))) missing
    ∙ ap (λ (n : ℕ). status_if (not (length (gaps_of table.entries) + n + length c.as_slice-idle.result.now == 0))) differing
    ∙ ap (λ (n : ℕ). status_if (not (length (gaps_of table.entries) + length (differences_of table.entries) + n == 0))) idle
