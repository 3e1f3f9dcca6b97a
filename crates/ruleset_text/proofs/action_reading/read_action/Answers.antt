use Rattle.std.proofs.Common.{◌≡◌, ℕ, List, [], ◌∷◌, Option, Some, Result, Ok, sym, ap, ◌∙◌}
use Rattle.std.specs.Option.{option_map, option_or}
use Rattle.ruleset_text.specs.declared.fault.FaultPlace.{FaultPlace}
use Rattle.ruleset_text.specs.ActionForms.{action, stage}
use Rattle.ruleset_text.specs.Actions.{NamedAction}
use Rattle.ruleset_text.specs.ActionSteps.{Begin, Stage, ended, step}
use Rattle.ruleset_text.specs.DefinitionPlaces.{Known}
use Rattle.ruleset_text.specs.DefinitionReading.{action_read}
use Rattle.ruleset_text.specs.LineFaults.{lexeme_place}
use Rattle.ruleset_text.specs.LineStops.{at_lexeme, or_end, read_from}
use Rattle.ruleset_text.specs.PlacedLexemes.{Placed}
use Rattle.ruleset_text.specs.inner.ActionNoted.{if_taken, unknown_at, unknown_from}
use Rattle.ruleset_text.specs.inner.DefinitionSteps.{known}
use Rattle.ruleset_text.proofs.ActionNameLemmas.{action_noted}
use Rattle.ruleset_text.proofs.LineFaultLemmas.{or_assoc, or_nothing}
use Rattle.ruleset_text.proofs.action_reading.read_action.Goals as goal

-- ---- a lexeme more

module _ (k : Known) (end : ℕ) (ws rest : List Placed) (w : Placed) (s u : Stage) (cut : ws ≡ w ∷ rest) (taken : step s w.lexeme ≡ Some u) where
  read_next : (all : Result NamedAction FaultPlace) → read_from step ended end s ws ≡ all → read_from step ended end u rest ≡ all
  read_next all e = sym (ap (at_lexeme w (λ t. read_from step ended end t rest)) taken) ∙ sym (ap (read_from step ended end s) cut) ∙ e

  unknown_next : (all found here : Option FaultPlace) → here ≡ unknown_at k s w.lexeme (lexeme_place w) → option_or found (unknown_from k s ws) ≡ all → option_or (option_or found here) (unknown_from k u rest) ≡ all
  unknown_next all found here is e =
      or_assoc found here (unknown_from k u rest) ∙ ap (λ o. option_or found (option_or o (unknown_from k u rest))) is
      ∙ ap (λ o. option_or found (option_or (unknown_at k s w.lexeme (lexeme_place w)) (if_taken o (λ t. unknown_from k t rest)))) (sym taken)
      ∙ ap (λ l. option_or found (unknown_from k s l)) (sym cut) ∙ e

pub loop-place-preserved : goal.loop-place-preserved
loop-place-preserved c =
    let k = known c.args.earlier in
    let w : Placed = record { place = c.in-Some.place; lexeme = c.in-Some.lexeme.now } in
    let s : Stage = stage c.loop-place.stage in
    let u : Stage = stage c.in-Some-2.next in
    let cut : c.loop-place.lexemes ≡ w ∷ c.next.new.self = c.in-Some.ensures {u = tt} in
    let taken : step s w.lexeme ≡ Some u = sym (c.in_ok-next.ensures {u = tt}) ∙ ap (option_map stage) c.in-Some-2.is in
    record {
      read = read_next k c.args.end c.loop-place.lexemes c.next.new.self w s u cut taken (action_read c.args.end c.args.lexemes) c.loop-place.invariant.read;
      unknown = ap (λ o. option_or o (unknown_from k u c.next.new.self)) c.or-unknown.ensures
          ∙ unknown_next k c.args.end c.loop-place.lexemes c.next.new.self w s u cut taken (unknown_from k Begin c.args.lexemes) c.loop-place.unknown c.unknown_place.result c.unknown_place.ensures c.loop-place.invariant.unknown;
    }

-- at the end
read_last : (end : ℕ) (ws : List Placed) (s : Stage) (a : NamedAction) (all : Result NamedAction FaultPlace) → ws ≡ [] → ended s ≡ Some a → read_from step ended end s ws ≡ all → all ≡ Ok a
read_last end ws s a all none is e = sym e ∙ ap (read_from step ended end s) none ∙ ap (or_end end) is

unknown_last : (k : Known) (ws : List Placed) (s : Stage) (found all : Option FaultPlace) → ws ≡ [] → option_or found (unknown_from k s ws) ≡ all → found ≡ all
unknown_last k ws s found all none e = sym (or_nothing found) ∙ ap (λ l. option_or found (unknown_from k s l)) (sym none) ∙ e

pub returns-in-Some-ended : goal.returns-in-Some-ended
returns-in-Some-ended c =
    let k = known c.args.earlier in
    let s : Stage = stage c.loop-place.stage in
    let a = action c.in-Some-ended.action in
    let none = c.in_default.ensures {u = tt} in
    let is : ended s ≡ Some a = sym c.ended.ensures ∙ ap (option_map action) c.in-Some-ended.is in
    let read = read_last c.args.end c.loop-place.lexemes s a (action_read c.args.end c.args.lexemes) none is c.loop-place.invariant.read in
    record {
      read = read;
      unknown = unknown_last k c.loop-place.lexemes s c.loop-place.unknown (unknown_from k Begin c.args.lexemes) none c.loop-place.invariant.unknown ∙ action_noted k c.args.end c.args.lexemes a read;
    }
