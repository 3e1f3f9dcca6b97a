use Rattle.std.proofs.Common.{◌≡◌, ℕ, Bool, true, [], ◌∷◌, length, Option, Some, Ok, sym, ap, ◌∙◌}
use Rattle.std.specs.Option.{option_map}
use Rattle.ruleset_text.specs.Entries.{EntryForm}
use Rattle.ruleset_text.specs.EntryForms.{entry_form, notes}
use Rattle.ruleset_text.specs.EntrySteps.{State, ended, entry_read, start, state, step_in}
use Rattle.ruleset_text.specs.LineStops.{at_lexeme, or_end, read_from}
use Rattle.ruleset_text.specs.PlacedLexemes.{Placed, placed_lexemes}
use Rattle.ruleset_text.specs.inner.EntryNoted.{noted_from, nothing_noted}
use Rattle.ruleset_text.specs.inner.EntryTaken.{taken_as}
use Rattle.ruleset_text.proofs.EntryNotedLemmas.{noted_last, noted_next, read_in}
use Rattle.ruleset_text.proofs.EntrySpelledLemmas.{form_noted}
use Rattle.ruleset_text.proofs.entry_reading.read_entry.Goals as goal

taken : (b : Bool) (t : State) (o : Option State) → o ≡ taken_as b t → b ≡ true → o ≡ Some t
taken b t o is so = is ∙ ap (λ c. taken_as c t) so

pub loop-place-preserved : goal.loop-place-preserved
loop-place-preserved c =
    let parts = c.args.parts in
    let end : ℕ = length c.args.line.now in
    let w : Placed = record { place = c.in-Some.place; lexeme = c.in-Some.lexeme.now } in
    let rest = c.next.new.self in
    let s : State = state c.loop-place.state in
    let t : State = state c.step.new.self in
    let cut : c.loop-place.lexemes ≡ w ∷ rest = c.in-Some.ensures {u = tt} in
    let step : step_in parts s w.lexeme ≡ Some t = taken c.in_ok-step.field-0 t (step_in parts s w.lexeme) (c.in_ok-step.ensures {u = tt}).state c.if-not-branch.false in
    record {
      read = sym (ap (at_lexeme w (λ u. read_from (step_in parts) ended end u rest)) step) ∙ sym (ap (read_from (step_in parts) ended end s) cut) ∙ c.loop-place.invariant.read;
      noted = noted_next c.args.definitions.now parts s t (notes c.loop-place.notes) (notes c.step.new.notes) (noted_from c.args.definitions.now nothing_noted (Some start) (placed_lexemes c.args.line.now))
          c.loop-place.lexemes rest w cut step ((c.in_ok-step.ensures {u = tt}).notes c.if-not-branch.false) c.loop-place.invariant.noted;
    }

pub returns-in-Some-2-clause-noted : goal.returns-in-Some-2-clause-noted
returns-in-Some-2-clause-noted c =
    let d = c.args.definitions.now in
    let parts = c.args.parts in
    let line = c.args.line.now in
    let s : State = state c.loop-place.state in
    let form : EntryForm = entry_form c.in-Some-2.form in
    let none : c.loop-place.lexemes ≡ [] = c.in_default.ensures {u = tt} in
    let is : ended s ≡ Some form = c.in_ok-form.ensures {u = tt} ∙ ap (λ o. option_map entry_form o) c.in-Some-2.is in
    let read : entry_read parts line ≡ Ok form = sym c.loop-place.invariant.read ∙ ap (read_from (step_in parts) ended (length line) s) none ∙ ap (or_end (length line)) is in
    noted_last d (Some s) (notes c.loop-place.notes) (noted_from d nothing_noted (Some start) (placed_lexemes line)) c.loop-place.lexemes none c.loop-place.invariant.noted
    ∙ form_noted d line form (read_in parts line form read)
