-- The spans of a set, read lexeme by lexeme: each beginning can be completed.
use Rattle.std.proofs.Common.{◌≡◌, ℕ, ◌≤◌, ◌+◌, nat_le, nat_lt, Bool, true, false, cond, List, [], ◌∷◌, ◌++◌, map, Option, Some, None, refl, sym, ap, subst, ◌∙◌, arith}
use Rattle.std.specs.Prelude.{bytes_eq, codes}
use Rattle.std.proofs.lemmas.Bool.Decides.{nat_tests}
use Rattle.idn_text.specs.Points.{point_of_hex}
use Rattle.label_patterns.specs.declared.span.Span.{Span}
use Rattle.ruleset_text.specs.declared.spans.Held.{Held}
use Rattle.ruleset_text.specs.declared.spans.Held.TheVariants as held
use Rattle.ruleset_text.specs.declared.spans.SpanPart.{SpanPart}
use Rattle.ruleset_text.specs.declared.spans.SpanPart.TheVariants as part
use Rattle.ruleset_text.specs.DefinitionReading.{spans_step, spans_ended}
use Rattle.ruleset_text.specs.EntryWords.{point_of}
use Rattle.ruleset_text.specs.Spans.{State, state, span, part_of, point_part, step, state_after, spans_at, spans_in}
use Rattle.ruleset_text.specs.SpanWords.{SpellSet}
use Rattle.idn_text.specs.Stops.{run}
use Rattle.ruleset_text.specs.Tokens.{without_prefix}
use Rattle.ruleset_text.proofs.HexLemmas.{hex_facts, scalar_below}
use Rattle.ruleset_text.proofs.SpanExactLemmas.{set_read, set_spelled}
use Rattle.idn_text.proofs.StopLemmas.{Reads, run_append, run_none}

abbrev start : State
start = state [] (held.Above 0)

parts_run : (ws : List (List ℕ)) (o : Option State) → state_after o (map part_of ws) ≡ run spans_step o ws
parts_run [] o = refl
parts_run (w ∷ ws) None = parts_run ws None
parts_run (w ∷ ws) (Some s) = parts_run ws (spans_step s w)

read_at : (ws : List (List ℕ)) → spans_in ws ≡ spans_at (run spans_step (Some start) ws)
unfolding spans_in
read_at ws = ap spans_at (parts_run ws (Some start))

at_state : (o : Option State) (spans : List Span) → spans_at o ≡ Some spans → (s : State) × (o ≡ Some s) × (spans_ended s ≡ Some spans)
at_state None spans e = absurd (cc)
at_state (Some s) spans e = (s, refl, e)

-- ---- what was read can be completed

part_bound : (w : List ℕ) (c : ℕ) → part_of w ≡ part.Point c → c ≤ 1114111
part_bound w c e = by (bytes_eq w (codes "..")) (point_of w) refl e
  where
    by : (b : Bool) (o : Option ℕ) → point_of w ≡ o → cond b part.Range (point_part o) ≡ part.Point c → c ≤ 1114111
    by true o at h = absurd (let clash : part.Range ≡ part.Point c = h in cc)
    by false None at h = absurd (let clash : part.Other ≡ part.Point c = h in cc)
    by false (Some d) at h =
        let same : d ≡ c = cc in
        let below = scalar_below c (hex_facts (without_prefix w) c (at ∙ ap (λ x. Some x) same)).scalar in omega (arith, below)

-- nothing was read; or a span is complete, or a point is held that is a code point
abbrev IsGood : Held → List Span → Type 0
IsGood (held.Above low) [] = low ≡ 0
IsGood (held.Above low) (x ∷ spans) = Unit {0}
IsGood (held.First c) spans = c ≤ 1114111
IsGood (held.Range c) spans = c ≤ 1114111

abbrev IsGoodState : State → Type 0
IsGoodState s = IsGood s.held s.spans

no_state : {A : Type 0} (t : State) → None ≡ Some t → A
no_state t e = absurd (cc)

same_state : (s t : State) → Some s ≡ Some t → s ≡ t
same_state s t e = cc

if_state : (b : Bool) (s t : State) → cond b (Some s) None ≡ Some t → IsGoodState s → IsGoodState t
if_state true s t e good = subst IsGoodState (same_state s t e) good
if_state false s t e good = no_state t e

pushed_good : (spans : List Span) (s : Span) (low : ℕ) → IsGood (held.Above low) (spans ++ s ∷ [])
pushed_good [] s low = tt
pushed_good (x ∷ spans) s low = tt

part_good : (spans : List Span) (h : Held) (w : List ℕ) (p : SpanPart) (t : State) → part_of w ≡ p → step spans h p ≡ Some t → IsGood h spans → IsGoodState t
part_good spans (held.Above low) w (part.Point c) t at e good = if_state (nat_le low c) (state spans (held.First c)) t e (part_bound w c at)
part_good spans (held.Above low) w part.Range t at e good = no_state t e
part_good spans (held.Above low) w part.Other t at e good = no_state t e
part_good spans (held.First c) w (part.Point d) t at e good = if_state (nat_lt c d) (state (spans ++ span c c ∷ []) (held.First d)) t e (part_bound w d at)
part_good spans (held.First c) w part.Range t at e good = subst IsGoodState (same_state (state spans (held.Range c)) t e) good
part_good spans (held.First c) w part.Other t at e good = no_state t e
part_good spans (held.Range c) w (part.Point d) t at e good = if_state (nat_le c d) (state (spans ++ span c d ∷ []) (held.Above (d + 1))) t e (pushed_good spans (span c d) (d + 1))
part_good spans (held.Range c) w part.Range t at e good = no_state t e
part_good spans (held.Range c) w part.Other t at e good = no_state t e

run_good : (ws : List (List ℕ)) (s t : State) → IsGoodState s → run spans_step (Some s) ws ≡ Some t → IsGoodState t
run_good [] s t good e = subst IsGoodState (same_state s t e) good
run_good (w ∷ ws) s t good e = by (spans_step s w) refl e (λ u later f. run_good ws u t later f)
  where
    by : (o : Option State) → spans_step s w ≡ o → run spans_step o ws ≡ Some t → ((u : State) → IsGoodState u → run spans_step (Some u) ws ≡ Some t → IsGoodState t) → IsGoodState t
    by None at f later = no_state t (sym (run_none spans_step ws) ∙ f)
    by (Some u) at f later = later u (part_good s.spans s.held w (part_of w) u refl at good) f

record Completed (s : State) : Type 0 where
  more : List (List ℕ)
  last : State
  spans : List Span
  run_to : run spans_step (Some s) more ≡ Some last
  ends_in : spans_ended last ≡ Some spans

a_part : part_of (codes "0061") ≡ part.Point 97
unfolding point_of_hex
a_part = refl

last_part : part_of (codes "10FFFF") ≡ part.Point 1114111
unfolding point_of_hex
last_part = refl

to_last : (spans : List Span) (c : ℕ) → c ≤ 1114111
    → run spans_step (Some (state spans (held.Range c))) (codes "10FFFF" ∷ []) ≡ Some (state (spans ++ span c 1114111 ∷ []) (held.Above (1114111 + 1)))
to_last spans c few =
    let fits : nat_le c 1114111 ≡ true = grind (arith, nat_tests) in
    ap (λ p. step spans (held.Range c) p) last_part ∙ ap (λ b. cond b (Some (state (spans ++ span c 1114111 ∷ []) (held.Above (1114111 + 1)))) None) fits

completed : (h : Held) (spans : List Span) → IsGood h spans → Completed (state spans h)
completed (held.Above low) [] good = record {
  more = codes "0061" ∷ [];
  last = state [] (held.First 97);
  spans = span 97 97 ∷ [];
  run_to = ap (λ p. step [] (held.Above low) p) a_part ∙ ap (λ n. cond (nat_le n 97) (Some (state [] (held.First 97))) None) good;
  ends_in = refl;
}
completed (held.Above low) (x ∷ spans) good = record { more = []; last = state (x ∷ spans) (held.Above low); spans = x ∷ spans; run_to = refl; ends_in = refl }
completed (held.First c) spans good = record { more = []; last = state spans (held.First c); spans = spans ++ span c c ∷ []; run_to = refl; ends_in = refl }
completed (held.Range c) [] good =
    record { more = codes "10FFFF" ∷ []; last = state (span c 1114111 ∷ []) (held.Above (1114111 + 1)); spans = span c 1114111 ∷ []; run_to = to_last [] c good; ends_in = refl }
completed (held.Range c) (x ∷ spans) good = record {
  more = codes "10FFFF" ∷ [];
  last = state (x ∷ (spans ++ span c 1114111 ∷ [])) (held.Above (1114111 + 1));
  spans = x ∷ (spans ++ span c 1114111 ∷ []);
  run_to = to_last (x ∷ spans) c good;
  ends_in = refl;
}

can_begin : (ws : List (List ℕ)) (s : State) → run spans_step (Some start) ws ≡ Some s → (more : List (List ℕ)) × (spans : List Span) × SpellSet (ws ++ more) spans
can_begin ws s e =
    let c = completed s.held s.spans (run_good ws start s refl e) in
    let all = run_append spans_step ws c.more (Some start) ∙ ap (λ o. run spans_step o c.more) e ∙ c.run_to in
    (c.more, c.spans, set_spelled (ws ++ c.more) c.spans (read_at (ws ++ c.more) ∙ ap spans_at all ∙ c.ends_in))

pub spans_reader : Reads spans_step (state [] (held.Above 0)) spans_ended (λ ws. Unit {0}) SpellSet
spans_reader = record {
  all = λ ws spans is. at_state (run spans_step (Some start) ws) spans (sym (read_at ws) ∙ set_read ws spans is);
  only = λ ws s spans e f. set_spelled ws spans (read_at ws ∙ ap spans_at e ∙ f);
  begun = λ ws s fits e. let b = can_begin ws s e in (b.0, (b.1, b.2));
}
