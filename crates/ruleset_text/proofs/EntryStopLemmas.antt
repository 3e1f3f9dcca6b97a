-- The place at which a line stops being an entry or a range is where the grammar says.
use Rattle.std.proofs.Common.{◌≡◌, ℕ, ◌≤◌, Bool, true, false, ◌&&◌, cond, leb, List, [], ◌∷◌, ◌++◌, length, Option, Some, None, Result, Ok, Err, refl, sym, ap, subst, ◌∙◌, arith}
use Rattle.std.specs.Prelude.{◌↔◌, is_some, slice_index, codes}
use Rattle.std.proofs.Math.Bool.{and-false}
use Rattle.std.proofs.lemmas.Bool.{le-leb}
use Rattle.label_patterns.specs.declared.condition.ConditionKind.{ConditionKind}
use Rattle.label_patterns.specs.declared.condition.ConditionKind.TheVariants as condition
use Rattle.idn_text.specs.Points.{point_of_hex}
use Rattle.ruleset_text.specs.declared.entry_parts.EntryParts.{EntryParts}
use Rattle.ruleset_text.specs.declared.entry_reading.EntryWord.{EntryWord}
use Rattle.ruleset_text.specs.declared.entry_reading.EntryWord.TheVariants as word
use Rattle.ruleset_text.specs.declared.entry_reading.Phase.{Phase}
use Rattle.ruleset_text.specs.declared.entry_reading.Phase.TheVariants as phase
use Rattle.ruleset_text.specs.declared.fault.FaultPlace.{FaultPlace}
use Rattle.ruleset_text.specs.Entries.{EntryForm, Mapped}
use Rattle.ruleset_text.specs.EntryParts.{has_parts}
use Rattle.ruleset_text.specs.EntryText.{IsForm}
use Rattle.ruleset_text.specs.EntryWords.{AreWords, entry_words, point_of}
use Rattle.ruleset_text.specs.EntrySteps.{State, start, word_of, marked, at_point, at_last, begin_by, is_first, may_be_range, with_done, separated, after_rule, after_type, after_points, after_point, at_type, at_rule, with_phase, step_by, step, stepped, state_after, is_begin, is_new, is_lacking, step_in, is_complete, ended, entry_at, entry_in, entry_read}
use Rattle.ruleset_text.specs.EntryStops.{AreEntry, IsEntryOf, IsEntryStop}
use Rattle.ruleset_text.specs.Lexemes.{lexemes}
use Rattle.ruleset_text.specs.Names.{is_name}
use Rattle.ruleset_text.specs.PlacedLexemes.{placed_lexemes}
use Rattle.idn_text.specs.Stops.{run, Begins}
use Rattle.ruleset_text.specs.Tokens.{without_prefix}
use Rattle.ruleset_text.proofs.EntryLemmas.{none_after}
use Rattle.ruleset_text.proofs.EntryPartLemmas.{AllHad, had_by_form, form_by_had}
use Rattle.ruleset_text.proofs.EntryReadLemmas.{words_read}
use Rattle.ruleset_text.proofs.EntrySpelledLemmas.{read_words}
use Rattle.ruleset_text.proofs.HexLemmas.{hex_facts, scalar_below}
use Rattle.ruleset_text.proofs.LineStopLemmas.{Tells, leads, reads_to, tells, stop_is, renamed, ok_err}
use Rattle.ruleset_text.proofs.PlacedLemmas.{unplaced-from}
use Rattle.idn_text.proofs.StopLemmas.{Spelled, Reads, run_none}

pub none_some : {X : Type 0} (A : Type 0) (x : X) → (let o : Option X = None in o) ≡ Some x → A
none_some A x e = absurd cc

same_some : {X : Type 0} (x y : X) → (let o : Option X = Some x in o) ≡ Some y → x ≡ y
same_some x y e = cc

-- ---- after a lexeme something was read

read_by : (p : Phase) (s t : State) → is_begin p ≡ false → Some (with_phase s p) ≡ Some t → is_new t ≡ false
read_by p s t other e = sym (ap is_new (same_some (with_phase s p) t e)) ∙ ap (λ b. is_first s.done && b) other ∙ and-false (is_first s.done)

-- the same where what was read changes, too
read_as : (s t : State) → is_begin s.phase ≡ false → Some s ≡ Some t → is_new t ≡ false
read_as s t other e = read_by s.phase s t other e

some_done : (done : List Mapped) (m : Mapped) → is_first (done ++ m ∷ []) ≡ false
some_done [] m = refl
some_done (d ∷ done) m = refl

read_done : (s t : State) → Some (with_done s) ≡ Some t → is_new t ≡ false
read_done s t e = sym (ap is_new (same_some (with_done s) t e)) ∙ ap (λ b. b && true) (some_done s.done s.current)

read_if : (s u t : State) (b : Bool) → (Some u ≡ Some t → is_new t ≡ false) → cond b (Some u) None ≡ Some t → is_new t ≡ false
read_if s u t true go e = go e
read_if s u t false go e = none_some _ t e

read_unless : (s u t : State) (b : Bool) → (Some u ≡ Some t → is_new t ≡ false) → cond b None (Some u) ≡ Some t → is_new t ≡ false
read_unless s u t false go e = go e
read_unless s u t true go e = none_some _ t e

read_point : (s t : State) (o : Option ℕ) → at_point s o ≡ Some t → is_new t ≡ false
read_point s t None e = none_some _ t e
read_point s t (Some c) e = read_as (record s { current = record s.current { points = s.current.points ++ c ∷ [] }; phase = phase.Point }) t refl e

read_last : (s t : State) (o : Option ℕ) → at_last s o ≡ Some t → is_new t ≡ false
read_last s t None e = none_some _ t e
read_last s t (Some c) e = read_if s (record s { last = Some c; phase = phase.Last }) t (leb (slice_index s.current.points 0) c) (read_as (record s { last = Some c; phase = phase.Last }) t refl) e

read_begin : (s t : State) (w : List ℕ) (e : EntryWord) → begin_by s e w ≡ Some t → is_new t ≡ false
read_begin s t w word.Mark h = read_as (marked s) t refl h
read_begin s t w e h = read_point s t (point_of w) h

read_separated : (s t : State) (e : EntryWord) → separated s e ≡ Some t → is_new t ≡ false
read_separated s t word.Bar h = read_if s (with_done s) t (is_first s.done) (read_done s t) h
read_separated s t word.Colon h = read_unless s (with_done s) t (is_first s.done) (read_done s t) h
read_separated s t e h = none_some _ t h

read_rule : (s t : State) (e : EntryWord) → after_rule s e ≡ Some t → is_new t ≡ false
read_rule s t e h = by (is_some s.last) h
  where
    by : (b : Bool) → cond b None (separated s e) ≡ Some t → is_new t ≡ false
    by false h = read_separated s t e h
    by true h = none_some _ t h

read_type : (s t : State) (e : EntryWord) → after_type s e ≡ Some t → is_new t ≡ false
read_type s t word.When h = read_by phase.When s t refl h
read_type s t word.Unless h = read_by phase.Unless s t refl h
read_type s t e h = read_rule s t e h

read_points : (s t : State) (e : EntryWord) → after_points s e ≡ Some t → is_new t ≡ false
read_points s t word.As h = read_unless s (with_phase s phase.As) t s.current.marked (read_by phase.As s t refl) h
read_points s t e h = read_type s t e h

read_after_point : (s t : State) (e : EntryWord) → after_point s e ≡ Some t → is_new t ≡ false
read_after_point s t word.Hyphen h = read_by phase.Hyphen s t refl h
read_after_point s t word.Range h = read_if s (with_phase s phase.Range) t (may_be_range s) (read_by phase.Range s t refl) h
read_after_point s t e h = read_points s t e h

read_name : (s t : State) (w : List ℕ) → at_type s w ≡ Some t → is_new t ≡ false
read_name s t w h =
    let u : State = record s { current = record s.current { type_name = Some w }; phase = phase.VariantType } in
    read_if s u t (is_name w) (read_as u t refl) h

read_condition : (s t : State) (kind : ConditionKind) (w : List ℕ) → at_rule s kind w ≡ Some t → is_new t ≡ false
read_condition s t kind w h =
    let u : State = record s { current = record s.current { condition = Some (record { kind = kind; rule = w }) }; phase = phase.Rule } in
    read_if s u t (is_name w) (read_as u t refl) h

read_step : (p : Phase) (s t : State) (w : List ℕ) → step_by p s w ≡ Some t → is_new t ≡ false
read_step phase.Begin s t w h = read_begin s t w (word_of w) h
read_step phase.Mark s t w h = read_point s t (point_of w) h
read_step phase.Point s t w h = read_after_point s t (word_of w) h
read_step phase.Hyphen s t w h = read_point s t (point_of w) h
read_step phase.Range s t w h = read_last s t (point_of w) h
read_step phase.Last s t w h = read_points s t (word_of w) h
read_step phase.As s t w h = read_name s t w h
read_step phase.VariantType s t w h = read_type s t (word_of w) h
read_step phase.When s t w h = read_condition s t condition.When w h
read_step phase.Unless s t w h = read_condition s t condition.Unless w h
read_step phase.Rule s t w h = read_rule s t (word_of w) h

-- ---- with parts or without

-- where no lexeme is lacking, the parts make no difference
run_had : (parts : EntryParts) (ws : List (List ℕ)) (s : State) → AllHad parts (is_new s) ws → run (step_in parts) (Some s) ws ≡ state_after (Some s) ws
run_had parts [] s had = refl
run_had parts (w ∷ ws) s had = ap (λ b. run (step_in parts) (cond b None (step s w)) ws) had.0 ∙ by (step s w) refl (λ t e. run_had parts ws t e)
  where
    by : (o : Option State) → step s w ≡ o → ((t : State) → AllHad parts (is_new t) ws → run (step_in parts) (Some t) ws ≡ state_after (Some t) ws)
        → run (step_in parts) o ws ≡ state_after o ws
    by None e rest = run_none (step_in parts) ws ∙ sym (none_after ws)
    by (Some t) e rest = rest t (subst (λ b. AllHad parts b ws) (sym (read_step s.phase s t w e)) had.1)

-- the lexemes of a run are none that the parts lack, and its states are those of reading
abbrev Ran : EntryParts → Bool → State → List (List ℕ) → State → Type 0
Ran parts first s ws t = AllHad parts first ws × (state_after (Some s) ws ≡ Some t)

ran : (parts : EntryParts) (ws : List (List ℕ)) (s t : State) → run (step_in parts) (Some s) ws ≡ Some t → Ran parts (is_new s) s ws t
ran parts [] s t e = (tt, e)
ran parts (w ∷ ws) s t e = by (is_lacking parts (is_new s) (word_of w)) (step s w) refl refl (λ u h. ran parts ws u t h) e
  where
    by : (b : Bool) (o : Option State) → is_lacking parts (is_new s) (word_of w) ≡ b → step s w ≡ o
        → ((u : State) → run (step_in parts) (Some u) ws ≡ Some t → Ran parts (is_new u) u ws t)
        → run (step_in parts) (cond b None o) ws ≡ Some t → Ran parts (is_new s) s (w ∷ ws) t
    by true o lacks e rest h = none_some _ t (sym (run_none (step_in parts) ws) ∙ h)
    by false None lacks e rest h = none_some _ t (sym (run_none (step_in parts) ws) ∙ h)
    by false (Some u) lacks e rest h =
        let r = rest u h in
        ((lacks, subst (λ b. AllHad parts b ws) (read_step s.phase s u w e) r.0), ap (λ o. state_after o ws) e ∙ r.1)

-- ---- what was read can be completed

-- the first code point is one
abbrev IsSound : State → Type 0
IsSound s = slice_index s.current.points 0 ≤ 1114111

pub point_bound : (w : List ℕ) (c : ℕ) → point_of w ≡ Some c → c ≤ 1114111
point_bound w c e = let below = scalar_below c (hex_facts (without_prefix w) c e).scalar in omega (arith, below)

first_bound : (points : List ℕ) (c : ℕ) → slice_index points 0 ≤ 1114111 → c ≤ 1114111 → slice_index (points ++ c ∷ []) 0 ≤ 1114111
first_bound [] c a b = b
first_bound (d ∷ points) c a b = a

along : (s t : State) → Some s ≡ Some t → IsSound s → IsSound t
along s t e is = subst IsSound (same_some s t e) is

begun : (s t : State) → Some (with_done s) ≡ Some t → IsSound t
begun s t h = along (with_done s) t h (omega arith)

if_sound : (s u t : State) (b : Bool) → IsSound u → cond b (Some u) None ≡ Some t → IsSound t
if_sound s u t true is h = along u t h is
if_sound s u t false is h = none_some _ t h

unless_sound : (s u t : State) (b : Bool) → IsSound u → cond b None (Some u) ≡ Some t → IsSound t
unless_sound s u t true is h = none_some _ t h
unless_sound s u t false is h = along u t h is

point_sound : (s t : State) (w : List ℕ) (o : Option ℕ) → IsSound s → point_of w ≡ o → at_point s o ≡ Some t → IsSound t
point_sound s t w None is e h = none_some _ t h
point_sound s t w (Some c) is e h =
    along (record s { current = record s.current { points = s.current.points ++ c ∷ [] }; phase = phase.Point }) t h (first_bound s.current.points c is (point_bound w c e))

begin_sound : (s t : State) (w : List ℕ) (e : EntryWord) → IsSound s → begin_by s e w ≡ Some t → IsSound t
begin_sound s t w word.Mark is h = along (marked s) t h is
begin_sound s t w e is h = point_sound s t w (point_of w) is refl h

last_sound : (s t : State) (o : Option ℕ) → IsSound s → at_last s o ≡ Some t → IsSound t
last_sound s t None is h = none_some _ t h
last_sound s t (Some c) is h = if_sound s (record s { last = Some c; phase = phase.Last }) t (leb (slice_index s.current.points 0) c) is h

separated_sound : (s t : State) (e : EntryWord) → separated s e ≡ Some t → IsSound t
separated_sound s t word.Bar h = if_sound s (with_done s) t (is_first s.done) (omega arith) h
separated_sound s t word.Colon h = unless_sound s (with_done s) t (is_first s.done) (omega arith) h
separated_sound s t e h = none_some _ t h

rule_sound : (s t : State) (e : EntryWord) → after_rule s e ≡ Some t → IsSound t
rule_sound s t e h = by (is_some s.last) h
  where
    by : (b : Bool) → cond b None (separated s e) ≡ Some t → IsSound t
    by false h = separated_sound s t e h
    by true h = none_some _ t h

type_sound : (s t : State) (e : EntryWord) → IsSound s → after_type s e ≡ Some t → IsSound t
type_sound s t word.When is h = along (with_phase s phase.When) t h is
type_sound s t word.Unless is h = along (with_phase s phase.Unless) t h is
type_sound s t e is h = rule_sound s t e h

points_sound : (s t : State) (e : EntryWord) → IsSound s → after_points s e ≡ Some t → IsSound t
points_sound s t word.As is h = unless_sound s (with_phase s phase.As) t s.current.marked is h
points_sound s t e is h = type_sound s t e is h

after_point_sound : (s t : State) (e : EntryWord) → IsSound s → after_point s e ≡ Some t → IsSound t
after_point_sound s t word.Hyphen is h = along (with_phase s phase.Hyphen) t h is
after_point_sound s t word.Range is h = if_sound s (with_phase s phase.Range) t (may_be_range s) is h
after_point_sound s t e is h = points_sound s t e is h

step_sound : (s t : State) (w : List ℕ) (p : Phase) → IsSound s → step_by p s w ≡ Some t → IsSound t
step_sound s t w phase.Begin is h = begin_sound s t w (word_of w) is h
step_sound s t w phase.Mark is h = point_sound s t w (point_of w) is refl h
step_sound s t w phase.Hyphen is h = point_sound s t w (point_of w) is refl h
step_sound s t w phase.Point is h = after_point_sound s t (word_of w) is h
step_sound s t w phase.Range is h = last_sound s t (point_of w) is h
step_sound s t w phase.Last is h = points_sound s t (word_of w) is h
step_sound s t w phase.As is h = if_sound s (record s { current = record s.current { type_name = Some w }; phase = phase.VariantType }) t (is_name w) is h
step_sound s t w phase.VariantType is h = type_sound s t (word_of w) is h
step_sound s t w phase.When is h =
    if_sound s (record s { current = record s.current { condition = Some (record { kind = condition.When; rule = w }) }; phase = phase.Rule }) t (is_name w) is h
step_sound s t w phase.Unless is h =
    if_sound s (record s { current = record s.current { condition = Some (record { kind = condition.Unless; rule = w }) }; phase = phase.Rule }) t (is_name w) is h
step_sound s t w phase.Rule is h = rule_sound s t (word_of w) h

sound_after : (ws : List (List ℕ)) (s t : State) → IsSound s → state_after (Some s) ws ≡ Some t → IsSound t
sound_after [] s t is e = along s t e is
sound_after (w ∷ ws) s t is e = by (step s w) refl e (λ u. sound_after ws u t)
  where
    by : (o : Option State) → step s w ≡ o → state_after o ws ≡ Some t → ((u : State) → IsSound u → state_after (Some u) ws ≡ Some t → IsSound t) → IsSound t
    by None h e rest = none_some _ t (sym (none_after ws) ∙ e)
    by (Some u) h e rest = rest u (step_sound s u w s.phase is h) e

-- a lexeme that completes it
a_point : point_of (codes "0061") ≡ Some 97
unfolding point_of_hex
a_point = refl

last_point : point_of (codes "10FFFF") ≡ Some 1114111
unfolding point_of_hex
last_point = refl

record Completed (parts : EntryParts) (s : State) : Type 0 where
  more : List (List ℕ)
  had : (first : Bool) → AllHad parts first more
  at : State
  leads : state_after (Some s) more ≡ Some at
  complete : is_complete at.phase ≡ true

abbrev with_a : State → State
with_a s = record s { current = record s.current { points = s.current.points ++ 97 ∷ [] }; phase = phase.Point }

no_lack : (parts : EntryParts) (first : Bool) (w : List ℕ) → word_of w ≡ word.Other → is_lacking parts first (word_of w) ≡ false
no_lack parts true w e = ap (is_lacking parts true) e
no_lack parts false w e = ap (is_lacking parts false) e

by_point : (parts : EntryParts) (s : State) → step s (codes "0061") ≡ at_point s (point_of (codes "0061")) → Completed parts s
by_point parts s e = record {
  more = codes "0061" ∷ [];
  had = λ first. (no_lack parts first (codes "0061") refl, tt);
  at = with_a s;
  leads = e ∙ ap (at_point s) a_point;
  complete = refl;
}

as_it_is : (parts : EntryParts) (s : State) → is_complete s.phase ≡ true → Completed parts s
as_it_is parts s is = record { more = []; had = λ first. tt; at = s; leads = refl; complete = is }

by_rule : (parts : EntryParts) (s : State) (kind : ConditionKind) → step s (codes "r") ≡ at_rule s kind (codes "r") → Completed parts s
by_rule parts s kind e = record {
  more = codes "r" ∷ [];
  had = λ first. (no_lack parts first (codes "r") refl, tt);
  at = record s { current = record s.current { condition = Some (record { kind = kind; rule = codes "r" }) }; phase = phase.Rule };
  leads = e;
  complete = refl;
}

by_type : (parts : EntryParts) (s : State) → step s (codes "t") ≡ at_type s (codes "t") → Completed parts s
by_type parts s e = record {
  more = codes "t" ∷ [];
  had = λ first. (no_lack parts first (codes "t") refl, tt);
  at = record s { current = record s.current { type_name = Some (codes "t") }; phase = phase.VariantType };
  leads = e;
  complete = refl;
}

completed : (parts : EntryParts) (s : State) (p : Phase) → s.phase ≡ p → IsSound s → Completed parts s
completed parts s phase.Begin e is = by_point parts s (ap (λ p. step_by p s (codes "0061")) e)
completed parts s phase.Mark e is = by_point parts s (ap (λ p. step_by p s (codes "0061")) e)
completed parts s phase.Hyphen e is = by_point parts s (ap (λ p. step_by p s (codes "0061")) e)
completed parts s phase.Point e is = as_it_is parts s (ap is_complete e)
completed parts s phase.Last e is = as_it_is parts s (ap is_complete e)
completed parts s phase.VariantType e is = as_it_is parts s (ap is_complete e)
completed parts s phase.Rule e is = as_it_is parts s (ap is_complete e)
completed parts s phase.When e is = by_rule parts s condition.When (ap (λ p. step_by p s (codes "r")) e)
completed parts s phase.Unless e is = by_rule parts s condition.Unless (ap (λ p. step_by p s (codes "r")) e)
completed parts s phase.As e is = by_type parts s (ap (λ p. step_by p s (codes "t")) e)
completed parts s phase.Range e is =
    let next : State = record s { last = Some 1114111; phase = phase.Last } in
    record {
      more = codes "10FFFF" ∷ [];
      had = λ first. (no_lack parts first (codes "10FFFF") refl, tt);
      at = next;
      leads = ap (λ p. step_by p s (codes "10FFFF")) e ∙ ap (at_last s) last_point ∙ ap (λ b. cond b (Some next) None) (le-leb (slice_index s.current.points 0) 1114111 is);
      complete = refl;
    }

-- ---- what some entry or range begins with

had_append : (parts : EntryParts) (ws vs : List (List ℕ)) (first : Bool) → AllHad parts first ws → ((f : Bool) → AllHad parts f vs) → AllHad parts first (ws ++ vs)
had_append parts [] vs first a b = b first
had_append parts (w ∷ ws) vs first a b = (a.0, had_append parts ws vs false a.1 b)

after_append : (ws vs : List (List ℕ)) (s : Option State) → state_after s (ws ++ vs) ≡ state_after (state_after s ws) vs
after_append [] vs s = refl
after_append (w ∷ ws) vs s = after_append ws vs (stepped s w)

form_at : (t : State) → is_complete t.phase ≡ true → (form : EntryForm) × (ended t ≡ Some form)
form_at t e = (record { mapped = t.done ++ t.current ∷ []; last = t.last }, ap (λ b. cond b (Some (record { mapped = t.done ++ t.current ∷ []; last = t.last })) None) e)

-- lexemes that were read with such parts, to a complete form
whole : (parts : EntryParts) (ws : List (List ℕ)) (t : State) (form : EntryForm) → AllHad parts true ws → state_after (Some start) ws ≡ Some t → ended t ≡ Some form
    → IsForm form.mapped form.last × (has_parts parts form ≡ true) × AreWords (entry_words form.mapped form.last) ws
unfolding entry_in
whole parts ws t form had e ends =
    let read : entry_in ws ≡ Some form = ap entry_at e ∙ ends in
    let is = read_words form ws read in
    (is.0, form_by_had parts form ws is.0 is.1 had, is.1)

begins_by_run : (parts : EntryParts) (ws : List (List ℕ)) (s : State) → run (step_in parts) (Some start) ws ≡ Some s → Begins (AreEntry parts) ws
begins_by_run parts ws s e =
    let r = ran parts ws start s e in
    let c = completed parts s s.phase refl (sound_after ws start s (omega arith) r.1) in
    let f = form_at c.at c.complete in
    let all = had_append parts ws c.more true r.0 c.had in
    let leads = after_append ws c.more (Some start) ∙ ap (λ o. state_after o c.more) r.1 ∙ c.leads in
    let w = whole parts (ws ++ c.more) c.at f.0 all leads f.1 in
    (c.more, (f.0, w.0, w.1, w.2))

-- the lexemes of a form lead to a state
entry_state : (ws : List (List ℕ)) (form : EntryForm) → entry_in ws ≡ Some form → (t : State) × (state_after (Some start) ws ≡ Some t) × (ended t ≡ Some form)
unfolding entry_in
entry_state ws form e = by (state_after (Some start) ws) refl e
  where
    by : (o : Option State) → state_after (Some start) ws ≡ o → entry_at o ≡ Some form → (t : State) × (state_after (Some start) ws ≡ Some t) × (ended t ≡ Some form)
    by None h e = none_some _ form e
    by (Some t) h e = (t, h, e)

-- an entry or a range is read to its end
entry_run : (parts : EntryParts) (ws : List (List ℕ)) → (is : AreEntry parts ws) → (t : State) × (run (step_in parts) (Some start) ws ≡ Some t) × (ended t ≡ Some is.0)
entry_run parts ws is =
    let t = entry_state ws is.0 (words_read is.0 ws is.1 is.3) in
    (t.0, run_had parts ws start (had_by_form parts is.0 ws is.1 is.2 is.3) ∙ t.1, t.2)

-- ---- a reader by steps

abbrev Spells : EntryParts → List (List ℕ) → EntryForm → Type 0
Spells parts ws form = IsForm form.mapped form.last × (has_parts parts form ≡ true) × AreWords (entry_words form.mapped form.last) ws

reader : (parts : EntryParts) → Reads (step_in parts) start ended (λ ws. Unit {0}) (Spells parts)
reader parts = record {
  all = λ ws form is. entry_run parts ws (form, is.0, is.1, is.2);
  only = λ ws s form e f. let k = ran parts ws start s e in whole parts ws s form k.0 k.1 f;
  begun = λ ws s fits e. let b = begins_by_run parts ws s e in (b.0, (b.1.0, (b.1.1, b.1.2, b.1.3)));
}

-- ---- the form

form_found : (parts : EntryParts) (line : List ℕ) (form : EntryForm) → entry_read parts line ≡ Ok form → IsEntryOf parts line form
unfolding entry_read
form_found parts line form e =
    let l = leads (step_in parts) ended (length line) (placed_lexemes line) start form e in
    let run_to = subst (λ ws. run (step_in parts) (Some start) ws ≡ Some l.last) (unplaced-from 0 line) l.run_to in
    let k = ran parts (lexemes line) start l.last run_to in
    let w = whole parts (lexemes line) l.last form k.0 k.1 l.ends_in in
    ((w.0, w.2), w.1)

found_form : (parts : EntryParts) (line : List ℕ) (form : EntryForm) → IsEntryOf parts line form → entry_read parts line ≡ Ok form
unfolding entry_read
found_form parts line form is =
    let t = entry_run parts (lexemes line) (form, is.0.0, is.1, is.0.1) in
    let run_to = subst (λ ws. run (step_in parts) (Some start) ws ≡ Some t.0) (sym (unplaced-from 0 line)) t.1 in
    reads_to (step_in parts) ended (length line) (placed_lexemes line) start t.0 form run_to t.2

pub the_entry : (parts : EntryParts) (line : List ℕ) (form : EntryForm) → (entry_read parts line ≡ Ok form) ↔ IsEntryOf parts line form
the_entry parts line form = (form_found parts line form, found_form parts line form)

-- ---- the place

told : (parts : EntryParts) (line : List ℕ) → Tells (Spells parts) (placed_lexemes line) (length line) (entry_read parts line)
unfolding entry_read
told parts line = tells (step_in parts) start ended (λ ws. Unit {0}) (Spells parts) (reader parts) (length line) (placed_lexemes line) (λ front rest cut. tt)

place_found : (parts : EntryParts) (line : List ℕ) (place : FaultPlace) (read : Result EntryForm FaultPlace) → Tells (Spells parts) (placed_lexemes line) (length line) read → read ≡ Err place
    → IsEntryStop parts line place
place_found parts line place read is e =
    let stop : Tells (Spells parts) (placed_lexemes line) (length line) (Err place) = subst (Tells (Spells parts) (placed_lexemes line) (length line)) e is in
    renamed (Spelled (Spells parts)) (AreEntry parts) (placed_lexemes line) (length line) place (λ more all. (all.0, all.1.0, all.1.1, all.1.2)) (λ more all. (all.0, (all.1, all.2, all.3))) stop

pub the_stop : (parts : EntryParts) (line : List ℕ) (place : FaultPlace) → (entry_read parts line ≡ Err place) ↔ IsEntryStop parts line place
the_stop parts line place = (
  place_found parts line place (entry_read parts line) (told parts line),
  λ is. stop_is (Spells parts) (placed_lexemes line) (length line) (entry_read parts line) place (told parts line)
      (renamed (AreEntry parts) (Spelled (Spells parts)) (placed_lexemes line) (length line) place (λ more all. (all.0, (all.1, all.2, all.3))) (λ more all. (all.0, all.1.0, all.1.1, all.1.2)) is),
)

-- ---- without a place

-- what stops is no entry and no range of these parts, however long it is
pub no_form : (parts : EntryParts) (line : List ℕ) (place : FaultPlace) → entry_read parts line ≡ Err place → (form : EntryForm) → IsEntryOf parts line form → ⊥
no_form parts line place e form is = ok_err form place (sym (found_form parts line form is) ∙ e)
