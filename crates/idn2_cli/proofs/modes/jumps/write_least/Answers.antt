use Rattle.std.proofs.Common.{[], ◌∷◌, ◌≡◌, ◌∙◌, ℕ, List, Option, Some, refl, ap, subst}
use Rattle.std.specs.Prelude.{Contains}
use Rattle.std.proofs.lemmas.Result.{err_from_is_err_and}
use Rattle.variant_table.specs.Entries.{TableValue}
use Rattle.variant_list.specs.Positions.{Built, Position}
use Rattle.variant_list.specs.Jumps.{HasNoneFrom, IsCandidate, IsLeastFrom}
use Rattle.answer_json.specs.declared.collision.Regards.{Regards}
use Rattle.idn2_options.specs.Settings.{Settings}
use Rattle.idn2_answers.specs.Collisions.{IsGood}
use Rattle.idn2_answers.specs.Said.{Least}
use Rattle.idn2_cli.specs.inner.Asked.{said_to}
use Rattle.idn2_output.specs.Writing.{Emits}
use Rattle.idn2_output.proofs.WrittenOutputLines.{stops_first}
use Rattle.idn2_cli.proofs.JumpAnswers.{jumped_to, least_near-found, least_near-none, settings_by}
use Rattle.idn2_cli.proofs.modes.jumps.write_least.Goals as goal

pub returns-in_err-cursor-clause-written : goal.returns-in_err-cursor-clause-written
returns-in_err-cursor-clause-written g c =
    let p = err_from_is_err_and c.from_residual.result c.from_residual.ensures.1 in
    rw (p.1, p.2) (stops_first _ _)

pub returns-in_err-regards-clause-written : goal.returns-in_err-regards-clause-written
returns-in_err-regards-clause-written g c =
    let p = err_from_is_err_and c.from_residual-in_err-regards.result c.from_residual-in_err-regards.ensures.1 in
    rw (p.1, p.2) (stops_first _ _)

pub returns-in_default-clause-written : goal.returns-in_default-clause-written
returns-in_default-clause-written g c =
    let net : Built = c.args.near.net in
    let table : TableValue = c.args.near.decisions.table.now in
    let label : List ℕ = c.args.near.decisions.label.now in
    let same : c.in_ok-cursor.cursor.net ≡ net = ap (λ (p : Position). p.net) c.in_ok-cursor.ensures in
    let none : HasNoneFrom (IsCandidate (Contains net.spelled)) c.args.text.now = subst (λ (n : Built). HasNoneFrom (IsCandidate (Contains n.spelled)) c.args.text.now) same c.in_default.ensures.jumps.none in
    subst (λ (o : Option (List ℕ × Regards)). Emits c.args.console.now c.write_none.new.console (said_to c.args.asked.now (Least o) ∷ []) c.write_none.result)
    (least_near-none c.args.mode.now.properties table label net.spelled c.requires.sound.entries c.requires.near.spelled c.args.text.now none) c.write_none.ensures.written

pub returns-clause-written : goal.returns-clause-written
returns-clause-written g c =
    let net : Built = c.args.near.net in
    let table : TableValue = c.args.near.decisions.table.now in
    let label : List ℕ = c.args.near.decisions.label.now in
    let found : List ℕ = c.last-label.result.now in
    let o : Settings = settings_by c.args.mode.now.properties in
    let good : IsGood o table label = record { registrable = c.requires.registrable; admitted = c.requires.admitted } in
    let least : IsLeastFrom (IsCandidate (Contains net.spelled)) c.args.text.now found =
    jumped_to net _ c.in_ok-cursor.cursor c.jump.new.self c.args.text.now found c.in_ok-cursor.ensures c.in-Some.ensures.jumps.found c.last-label.ensures.value in
    let told = c.in_ok-regards.ensures.regards o good refl in
    subst (λ (r : Option (List ℕ × Regards)). Emits c.args.console.now c.write_label.new.console (said_to c.args.asked.now (Least r) ∷ []) c.write_label.result)
    (ap (λ (r : Regards). let s : Option (List ℕ × Regards) = Some (found, r) in s) told
    ∙ least_near-found c.args.mode.now.properties table label net.spelled c.requires.sound.entries c.requires.near.spelled c.args.text.now found least)
    c.write_label.ensures.written
