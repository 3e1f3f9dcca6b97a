use Rattle.std.proofs.Common.{◌≡◌, ℕ, ◌-◌, Bool, true, List, [], ◌∷◌, length, Option, Some, Result, Ok, sym, ap, ◌∙◌, arith}
use Rattle.std.specs.Option.{option_map, option_or}
use Rattle.label_patterns.specs.Patterns.{Pattern}
use Rattle.label_patterns.specs.Trees.{pattern}
use Rattle.ruleset_text.specs.declared.fault.FaultPlace.{FaultPlace}
use Rattle.ruleset_text.specs.declared.token.Token.{Token}
use Rattle.ruleset_text.specs.DefinitionReading.{pattern_step, pattern_read}
use Rattle.ruleset_text.specs.EntryWords.{point_of}
use Rattle.ruleset_text.specs.LineFaults.{bad_place, first_bad, first_unknown, lexeme_place, unknown_place}
use Rattle.ruleset_text.specs.LineStops.{at_lexeme, or_end, read_from}
use Rattle.ruleset_text.specs.PatternLimits.{limit_place}
use Rattle.ruleset_text.specs.PatternSigns.{State, ended_in, start, step_in}
use Rattle.ruleset_text.specs.Pieces.{pieces, state, taken_as}
use Rattle.ruleset_text.specs.PlacedLexemes.{Placed}
use Rattle.ruleset_text.specs.Tokens.{token_of}
use Rattle.ruleset_text.specs.inner.PatternSteps.{atoms_at, if_taken, left_after, limit_from, past_place, token_point}
use Rattle.ruleset_text.proofs.LineFaultLemmas.{lexeme_point, or_assoc, or_nothing, told_last, told_next}
use Rattle.ruleset_text.proofs.PatternLimitLemmas.{atoms_read, limit_read}
use Rattle.ruleset_text.proofs.reading.read_pattern.Goals as goal

-- ---- a lexeme more

module _ (r : Bool) (names : List (List ℕ)) (end : ℕ) (ws rest : List Placed) (w : Placed) (s u : State) (cut : ws ≡ w ∷ rest) (step : pattern_step r names s w.lexeme ≡ Some u) where
  read_next : (all : Result Pattern FaultPlace) → read_from (pattern_step r names) (ended_in r) end s ws ≡ all → read_from (pattern_step r names) (ended_in r) end u rest ≡ all
  read_next all e =
      sym (ap (at_lexeme w (λ t. read_from (pattern_step r names) (ended_in r) end t rest)) step) ∙ sym (ap (read_from (pattern_step r names) (ended_in r) end s) cut) ∙ e

  limit_next : (left : ℕ) (all found : Option FaultPlace) → option_or found (limit_from r names s left ws) ≡ all
      → option_or (option_or found (past_place s.pieces s.groups left (lexeme_place w) (token_of names w.lexeme))) (limit_from r names u (left - atoms_at (token_of names w.lexeme)) rest) ≡ all
  limit_next left all found e =
      let t : Token = token_of names w.lexeme in
      let here : Option FaultPlace = past_place s.pieces s.groups left (lexeme_place w) t in
      or_assoc found here (limit_from r names u (left - atoms_at t) rest)
      ∙ ap (λ o. option_or found (option_or here (if_taken o (λ v. limit_from r names v (left - atoms_at t) rest)))) (sym step)
      ∙ ap (λ l. option_or found (limit_from r names s left l)) (sym cut) ∙ e

taken : (b : Bool) (u : State) (o : Option State) → o ≡ taken_as b u → b ≡ true → o ≡ Some u
taken b u o is yes_taken = is ∙ ap (λ c. taken_as c u) yes_taken

pub loop-place-preserved : goal.loop-place-preserved
loop-place-preserved c =
    let r = c.args.is_rule in
    let names = c.args.earlier.sets.now in
    let w : Placed = record { place = c.in-Some.place; lexeme = c.in-Some.lexeme.now } in
    let t : Token = token_of names w.lexeme in
    let s : State = state c.loop-place.pieces.items c.loop-place.signs in
    let u : State = state c.take.new.pieces.items c.take.new.signs in
    let cut : c.loop-place.lexemes ≡ w ∷ c.next.new.self = c.in-Some.ensures {u = tt} in
    let is : c.token_of-token.result ≡ t = c.token_of-token.ensures in
    let step : pattern_step r names s w.lexeme ≡ Some u = taken c.in_ok-take.field-0 u (step_in r s t) (ap (step_in r s) (sym is) ∙ (c.in_ok-take.ensures {u = tt}).state) c.if-not-branch.false in
    let past = past_place (pieces c.loop-place.pieces.items) c.loop-place.signs.groups c.loop-place.atoms_left (lexeme_place w) in
    let limit : c.past_limit-faults.result ≡ option_or c.loop-place.faults.limit (past t) =
    c.past_limit-faults.ensures ∙ ap (λ ps. option_or c.loop-place.faults.limit (past_place (pieces ps) c.loop-place.signs.groups c.loop-place.atoms_left (lexeme_place w) c.token_of-token.result)) c.deref.ensures.value
    ∙ ap (λ v. option_or c.loop-place.faults.limit (past v)) is in
    let left : c.without_atom-atoms_left.result ≡ c.loop-place.atoms_left - atoms_at t = c.without_atom-atoms_left.ensures ∙ ap (λ v. c.loop-place.atoms_left - atoms_at v) is in
    record {
      read = read_next r names c.args.end c.loop-place.lexemes c.next.new.self w s u cut step (pattern_read r names c.args.end c.args.lexemes) c.loop-place.invariant.read;
      few = omega (arith, ap length cut, c.loop-place.invariant.few, (c.in_ok-take.ensures {u = tt}).few);
      left = ap (λ n. left_after names n c.next.new.self) left ∙ sym (ap (left_after names c.loop-place.atoms_left) cut) ∙ c.loop-place.invariant.left;
      limit = ap (λ o. option_or o (limit_from r names u c.without_atom-atoms_left.result c.next.new.self)) limit
          ∙ ap (λ n. option_or (option_or c.loop-place.faults.limit (past t)) (limit_from r names u n c.next.new.self)) left
          ∙ limit_next r names c.args.end c.loop-place.lexemes c.next.new.self w s u cut step c.loop-place.atoms_left (limit_from r names start c.args.earlier.atoms_left c.args.lexemes) c.loop-place.faults.limit c.loop-place.invariant.limit;
      name = ap (λ o. option_or o (first_unknown names c.next.new.self)) c.or-faults.ensures
          ∙ told_next (λ v. unknown_place (length names) (lexeme_place v) (token_of names v.lexeme)) (first_unknown names c.args.lexemes) c.loop-place.faults.name c.loop-place.lexemes c.next.new.self w c.unknown_place.result cut
          (c.unknown_place.ensures ∙ ap (unknown_place (length names) (lexeme_place w)) is) c.loop-place.invariant.name;
      class = ap (λ o. option_or o (first_bad c.args.earlier.properties c.next.new.self)) c.or-faults-in-Some.ensures
          ∙ told_next (λ v. bad_place c.args.earlier.properties v.place (point_of v.lexeme)) (first_bad c.args.earlier.properties c.args.lexemes) c.loop-place.faults.class c.loop-place.lexemes c.next.new.self w c.in_ok-token_place.field-0 cut
          ((c.in_ok-token_place.ensures {u = tt}) ∙ ap (λ v. bad_place c.args.earlier.properties w.place (token_point v)) is ∙ sym (ap (bad_place c.args.earlier.properties w.place) (lexeme_point names w.lexeme))) c.loop-place.invariant.class;
    }

-- ---- the end

read_last : (r : Bool) (names : List (List ℕ)) (end : ℕ) (ws : List Placed) (s : State) (p : Pattern) (o : Option Pattern) (all : Result Pattern FaultPlace) → ws ≡ [] → ended_in r s ≡ o → o ≡ Some p
    → read_from (pattern_step r names) (ended_in r) end s ws ≡ all → all ≡ Ok p
read_last r names end ws s p o all none ends is e =
    sym e ∙ ap (read_from (pattern_step r names) (ended_in r) end s) none ∙ ap (or_end end) (ends ∙ is)

pub returns-in-Some-2 : goal.returns-in-Some-2
returns-in-Some-2 c =
    let r = c.args.is_rule in
    let names = c.args.earlier.sets.now in
    let properties = c.args.earlier.properties in
    let s : State = state c.loop-place.pieces.items c.loop-place.signs in
    let p : Pattern = pattern c.in-Some-2.tree in
    let none : c.loop-place.lexemes ≡ [] = c.in_default.ensures {u = tt} in
    let read : pattern_read r names c.args.end c.args.lexemes ≡ Ok p =
    read_last r names c.args.end c.loop-place.lexemes s p (option_map pattern c.in_ok-tree.field-0) (pattern_read r names c.args.end c.args.lexemes) none (c.in_ok-tree.ensures {u = tt}) (ap (option_map pattern) c.in-Some-2.is)
    c.loop-place.invariant.read in
    record {
      read = read;
      atoms = sym (ap (left_after names c.loop-place.atoms_left) none) ∙ c.loop-place.invariant.left ∙ atoms_read r names c.args.end c.args.lexemes p c.args.earlier.atoms_left read;
      faults =
          let limit : c.loop-place.faults.limit ≡ limit_from r names start c.args.earlier.atoms_left c.args.lexemes =
          sym (or_nothing c.loop-place.faults.limit) ∙ sym (ap (λ l. option_or c.loop-place.faults.limit (limit_from r names s c.loop-place.atoms_left l)) none) ∙ c.loop-place.invariant.limit in
          let told = limit ∙ limit_read r names c.args.end c.args.lexemes p read c.args.earlier.atoms_left in
          let name = told_last (λ v. unknown_place (length names) (lexeme_place v) (token_of names v.lexeme)) (first_unknown names c.args.lexemes) c.loop-place.faults.name c.loop-place.lexemes none c.loop-place.invariant.name in
          let class = told_last (λ v. bad_place properties v.place (point_of v.lexeme)) (first_bad properties c.args.lexemes) c.loop-place.faults.class c.loop-place.lexemes none c.loop-place.invariant.class in
          ap (λ o. record { limit = o; name = c.loop-place.faults.name; class = c.loop-place.faults.class }) told
          ∙ ap (λ o. record { limit = limit_place c.args.earlier.atoms_left p c.args.lexemes; name = o; class = c.loop-place.faults.class }) name
          ∙ ap (λ o. record { limit = limit_place c.args.earlier.atoms_left p c.args.lexemes; name = first_unknown names c.args.lexemes; class = o }) class;
    }
