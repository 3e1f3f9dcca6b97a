use Rattle.std.proofs.Common.{◌≤◌, ◌∙◌, ℕ, List, length, ap, sym, subst}
use Rattle.idn_text.specs.Points.{AreScalarValues}
use Rattle.idn_label.proofs.ALabels.{registrable_scalars}
use Rattle.idn_label.proofs.RequirementLemmas.{MeetsRequirements-registrable}
use Rattle.variant_table.specs.Entries.{TableValue}
use Rattle.registered_labels.specs.Collisions.{collisions}
use Rattle.std.specs.List.{filter}
use Rattle.std.proofs.lemmas.Result.{err_from_is_err_and}
use Rattle.idn2_options.specs.Settings.{Settings}
use Rattle.idn2_answers.specs.Collisions.{is_found, named_if}
use Rattle.idn2_answers.specs.Said.{Said}
use Rattle.idn2_output.specs.Writing.{Emits}
use Rattle.idn2_output.proofs.WrittenOutputLines.{stops_first}
use Rattle.idn2_cli.specs.declared.modes.collisions.Collision.{Collision}
use Rattle.idn2_cli.specs.inner.Asked.{lines_to}
use Rattle.idn2_cli.specs.inner.FoundLabels.{collision_line_by, found_block, lines_from, told_block}
use Rattle.idn2_cli.proofs.CollisionSteps.{block-walked}
use Rattle.idn2_cli.proofs.modes.collisions.write_collisions.Goals as goal

pub returns-in_err-walk-clause-written : goal.returns-in_err-walk-clause-written
returns-in_err-walk-clause-written g c =
    let p = err_from_is_err_and c.from_residual.result c.from_residual.ensures.1 in
    rw (p.1, p.2) (stops_first _ _)

pub returns-in_err-found-clause-written : goal.returns-in_err-found-clause-written
returns-in_err-found-clause-written g c =
    let p = err_from_is_err_and c.from_residual-in_err-found.result c.from_residual-in_err-found.ensures.1 in
    rw (p.1, p.2) (stops_first _ _)

pub write_found-requires-clause-short : goal.write_found-requires-clause-short
write_found-requires-clause-short g c =
    subst (λ (l : List ℕ). length l ≤ 63) (sym c.label-label.ensures) (MeetsRequirements-registrable c.args.options.now.properties c.args.near.decisions.label.now c.requires.good.registrable).points

pub write_found-requires-clause-scalar_values : goal.write_found-requires-clause-scalar_values
write_found-requires-clause-scalar_values g c =
    subst AreScalarValues (sym c.label-label.ensures) (registrable_scalars c.args.options.now.properties c.args.near.decisions.label.now c.requires.good.registrable)

pub returns-clause-written : goal.returns-clause-written
returns-clause-written g c =
    let o : Settings = c.args.options.now in
    let table : TableValue = c.args.near.decisions.table.now in
    let label : List ℕ = c.args.near.decisions.label.now in
    let labels : List (List ℕ) = c.args.registered.now in
    let spelled : List (List ℕ) = c.args.near.net.spelled in
    let line : List ℕ → Said = collision_line_by o table label in
    let after = c.deref.ensures.value ∙ ap (λ (s : Settings). s.after) c.options.view_is in
    let asked = c.label-label.ensures in
    let block =
    ap (λ (l : List ℕ). told_block o l labels c.deref-2.result.now) asked
    ∙ ap (λ (f : List Collision). named_if o.others label (found_block o.limit labels f)) c.deref-2.ensures.value
    ∙ ap (λ (r : List (List ℕ)). named_if o.others label (found_block o.limit r c.in_ok-found.found.items)) (sym c.in_ok-walk.ensures.registered)
    ∙ ap (named_if o.others label) (c.in_ok-found.ensures.block
    ∙ ap (λ (l : List (List ℕ)). lines_from line o.limit 0 (filter (is_found o table label) l)) (c.in_ok-walk.ensures.ahead ∙ ap (collisions spelled labels) after))
    ∙ sym (block-walked o table label labels spelled c.requires.near.decides.sound c.requires.all c.requires.limits.limit c.requires.near.spelled) in
    subst (λ (lines : List Said). Emits c.args.console.now c.write_found.new.console (lines_to c.args.asked.now lines) c.write_found.result) block c.write_found.ensures.written
