use Rattle.std.proofs.Common.{◌≡◌, ◌≤◌, ◌-◌, ◌∙◌, ◌∷◌, [], ℕ, List, Option, Some, None, Bool, length, ap, sym, subst, if◌then◌else◌}
use Rattle.std.specs.Prelude.{slice_get}
use Rattle.std.specs.Option.{option_map}
use Rattle.std.proofs.lemmas.Option.{get_or_from_slice_get}
use Rattle.idn_text.specs.Points.{AreScalarValues}
use Rattle.idn_label.proofs.OldNameLemmas.{in_zone-scalars}
use Rattle.registered_labels.proofs.LabelLists.{in_zone_at, short_at}
use Rattle.idn2_answers.specs.Said.{BlockEnd}
use Rattle.idn2_output.specs.Writing.{Emits}
use Rattle.idn2_cli.specs.inner.Asked.{said_to}
use Rattle.idn2_cli.specs.inner.FoundLabels.{label_of, stop_at}
use Rattle.idn2_cli.proofs.modes.collisions.write_end_of.Goals as goal

pub write_stop-requires-clause-short : goal.write_stop-requires-clause-short
write_stop-requires-clause-short g c =
    subst (λ (v : List ℕ). length v ≤ 63) (sym c.as_slice.ensures.value)
    (short_at c.requires.all.0 c.args.registered.now c.in-Some.last.now.number c.decode.new.points.items c.requires.all.1 c.decode.ensures)

pub write_stop-requires-clause-scalar_values : goal.write_stop-requires-clause-scalar_values
write_stop-requires-clause-scalar_values g c =
    subst AreScalarValues (sym c.as_slice.ensures.value)
    (in_zone-scalars c.requires.all.0 c.decode.new.points.items (in_zone_at c.requires.all.0 c.args.registered.now c.in-Some.last.now.number c.decode.new.points.items c.requires.all.1 c.decode.ensures))

pub returns-in-Some-clause-written : goal.returns-in-Some-clause-written
returns-in-Some-clause-written g c =
    let registered : List (List ℕ) = c.args.registered.now in
    let found = c.args.found.now in
    let last = c.in-Some.last.now in
    let label : label_of registered last ≡ c.as_slice.result.now = get_or_from_slice_get registered last.number c.decode.new.points.items [] c.decode.ensures ∙ sym c.as_slice.ensures.value in
    let stop : (let o : Option (List ℕ) = Some c.as_slice.result.now in o) ≡ stop_at c.args.limit registered found =
    ap (λ (v : List ℕ). let o : Option (List ℕ) = Some v in o) (sym label)
    ∙ ap (option_map (label_of registered)) c.in-Some.ensures.value
    ∙ ap (λ (b : Bool). if b then option_map (label_of registered) (slice_get found (length found - 1)) else None) (sym (sym c.is_reached.ensures ∙ c.if-is_reached.true)) in
    subst (λ (s : Option (List ℕ)). Emits c.args.console.now c.write_stop.new.console (said_to c.args.asked.now (BlockEnd (length found) s) ∷ []) c.write_stop.result) stop c.write_stop.ensures.written
