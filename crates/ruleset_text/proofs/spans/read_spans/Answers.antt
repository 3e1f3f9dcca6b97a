use Rattle.std.proofs.Common.{◌≡◌, ℕ, List, ◌∷◌, Option, Some, None, Result, sym, ap, ◌∙◌}
use Rattle.std.specs.Option.{option_map, option_or}
use Rattle.label_patterns.specs.declared.span.Span.{Span}
use Rattle.ruleset_text.specs.declared.fault.FaultPlace.{FaultPlace}
use Rattle.ruleset_text.specs.declared.spans.Held.{Held}
use Rattle.ruleset_text.specs.DefinitionReading.{spans_ended, spans_read, spans_step}
use Rattle.ruleset_text.specs.EntryWords.{point_of}
use Rattle.ruleset_text.specs.inner.Rising.{IsRising, part_point}
use Rattle.ruleset_text.specs.LineFaults.{bad_place, first_bad}
use Rattle.ruleset_text.specs.LineStops.{at_lexeme, read_from}
use Rattle.ruleset_text.specs.PlacedLexemes.{Placed}
use Rattle.ruleset_text.specs.Spans.{State, part_of, state, step as step_of}
use Rattle.std.specs.Prelude.{IfSome}
use Rattle.ruleset_text.proofs.LineFaultLemmas.{part_lexeme, told_last, told_next}
use Rattle.ruleset_text.proofs.spans.read_spans.Goals as goal

-- a lexeme more
read_next : (end : ℕ) (ws rest : List Placed) (w : Placed) (s u : State) (all : Result (List Span) FaultPlace) → ws ≡ w ∷ rest → spans_step s w.lexeme ≡ Some u → read_from spans_step spans_ended end s ws ≡ all
    → read_from spans_step spans_ended end u rest ≡ all
read_next end ws rest w s u all cut step e =
    sym (ap (at_lexeme w (λ t. read_from spans_step spans_ended end t rest)) step) ∙ sym (ap (read_from spans_step spans_ended end s) cut) ∙ e

rising_some : (spans : List Span) (o : Option Held) (h : Held) → o ≡ Some h → IfSome o (IsRising spans) → IsRising spans h
rising_some spans None h e r = absurd cc
rising_some spans (Some k) h e r = let same : k ≡ h = cc in rw (← same) r

pub loop-place-preserved : goal.loop-place-preserved
loop-place-preserved c =
    let w : Placed = record { place = c.in-Some.place; lexeme = c.in-Some.lexeme.now } in
    let s : State = state c.loop-place.spans.items c.loop-place.held in
    let u : State = state c.step.new.spans.items c.in-Some-2.next in
    let cut : c.loop-place.lexemes ≡ w ∷ c.next.new.self = c.in-Some.ensures {u = tt} in
    let is : c.part_of-part.result ≡ part_of w.lexeme = c.part_of-part.ensures in
    let told = c.in_ok-next.ensures {u = tt} in
    let step : spans_step s w.lexeme ≡ Some u =
    ap (step_of c.loop-place.spans.items c.loop-place.held) (sym is) ∙ told.step ∙ ap (option_map (state c.step.new.spans.items)) c.in-Some-2.is in
    record {
      read = read_next c.args.end c.loop-place.lexemes c.next.new.self w s u (spans_read c.args.end c.args.lexemes) cut step c.loop-place.invariant.read;
      rising = rising_some c.step.new.spans.items c.in_ok-next.field-0 c.in-Some-2.next c.in-Some-2.is told.rising;
      limit = c.loop-place.invariant.limit;
      name = c.loop-place.invariant.name;
      class = ap (λ o. option_or o (first_bad c.args.properties c.next.new.self)) c.or-faults.ensures
          ∙ told_next (λ v. bad_place c.args.properties v.place (point_of v.lexeme)) (first_bad c.args.properties c.args.lexemes) c.loop-place.faults.class c.loop-place.lexemes c.next.new.self w c.in_ok-part_place.field-0 cut
          ((c.in_ok-part_place.ensures {u = tt}) ∙ ap (λ v. bad_place c.args.properties w.place (part_point v)) is ∙ sym (ap (bad_place c.args.properties w.place) (part_lexeme w.lexeme))) c.loop-place.invariant.class;
    }

pub returns-in-Some-3-clause-faults : goal.returns-in-Some-3-clause-faults
returns-in-Some-3-clause-faults c =
    let class = told_last (λ v. bad_place c.args.properties v.place (point_of v.lexeme)) (first_bad c.args.properties c.args.lexemes) c.loop-place.faults.class c.loop-place.lexemes (c.in_default.ensures {u = tt}) c.loop-place.invariant.class in
    ap (λ o. record { limit = o; name = c.loop-place.faults.name; class = c.loop-place.faults.class }) c.loop-place.invariant.limit
    ∙ ap (λ o. record { limit = None; name = o; class = c.loop-place.faults.class }) c.loop-place.invariant.name
    ∙ ap (λ o. record { limit = None; name = None; class = o }) class
