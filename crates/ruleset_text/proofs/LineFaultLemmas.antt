-- A place is told of a set or of a code point exactly if the line that was read has one that it may not have.
use Rattle.std.proofs.Common.{◌≡◌, ◌≢◌, ℕ, ◌+◌, ◌==◌, nat_le, nat_lt, Bool, true, false, cond, not, ◌||◌, ◌&&◌, List, [], ◌∷◌, ◌++◌, length, Option, Some, None, Result, Ok, Err, refl, sym, ap, ◌∙◌, arith}
use Rattle.std.specs.Prelude.{◌↔◌, bytes_eq, codes, is_some}
use Rattle.std.specs.List.{AllByRecursion, list_any}
use Rattle.std.specs.Option.{option_or}
use Rattle.std.specs.Str.Parse.{digits_value}
use Rattle.std.proofs.lemmas.Bool.Decides.{nat_tests}
use Rattle.std.proofs.lemmas.List.Folds.{list_any-append}
use Rattle.std.proofs.lemmas.Slice.Eq.{bytes_eq-Decides}
use Rattle.idn_text.specs.Points.{is_scalar_value, point_of_hex}
use Rattle.label_patterns.specs.declared.span.Span.{Span}
use Rattle.label_patterns.specs.Patterns.{Pattern, Set, Any, Start, End, Anchor, Group, Optional, Many, Then, Either}
use Rattle.label_patterns.specs.Patterns as patterns
use Rattle.ruleset_text.specs.declared.fault.FaultPlace.{FaultPlace}
use Rattle.ruleset_text.specs.declared.spans.Held.{Held}
use Rattle.ruleset_text.specs.declared.spans.Held.TheVariants as held
use Rattle.ruleset_text.specs.declared.spans.SpanPart.{SpanPart}
use Rattle.ruleset_text.specs.declared.spans.SpanPart.TheVariants as part
use Rattle.ruleset_text.specs.declared.token.Token.{Token}
use Rattle.ruleset_text.specs.declared.token.Token.TheVariants as token
use Rattle.ruleset_text.specs.Classes.{has_bad_end, has_bad_point, is_bad_point, is_bad_span}
use Rattle.ruleset_text.specs.DefinitionReading.{pattern_read, spans_ended, spans_read, spans_step}
use Rattle.ruleset_text.specs.EntryWords.{point_of}
use Rattle.ruleset_text.specs.Grammar.{tokens}
use Rattle.ruleset_text.specs.Limits.{has_its_sets}
use Rattle.ruleset_text.specs.LineFaults.{IsFirstTold, bad_place, first_bad, first_told, first_unknown, lexeme_place, unknown_place}
use Rattle.ruleset_text.specs.LineStops.{at_lexeme, read_from}
use Rattle.ruleset_text.specs.Names.{is_name, number_of}
use Rattle.ruleset_text.specs.PlacedLexemes.{Placed}
use Rattle.ruleset_text.specs.Spans as spans
use Rattle.ruleset_text.specs.Spans.{part_of, span}
use Rattle.ruleset_text.specs.Tokens.{mark_token, point_token, set_token, token_of, word_token}
use Rattle.ruleset_text.specs.inner.PatternSteps.{token_point}
use Rattle.ruleset_text.specs.inner.Rising.{part_point}
use Rattle.ruleset_text.proofs.LineStopLemmas.{at_end}
use Rattle.ruleset_text.proofs.PatternLimitLemmas.{its_tokens, tokens_at}
use Rattle.idn_class.specs.declared.properties.Properties.{Properties}

-- ---- the first of which something is told

pub or_assoc : {X : Type 0} (a b c : Option X) → option_or (option_or a b) c ≡ option_or a (option_or b c)
or_assoc None b c = refl
or_assoc (Some x) b c = refl

pub or_nothing : {X : Type 0} (a : Option X) → option_or a None ≡ a
or_nothing None = refl
or_nothing (Some x) = refl

-- after a lexeme more
pub told_next : {X : Type 0} (f : X → Option FaultPlace) (all found : Option FaultPlace) (ws rest : List X) (w : X) (here : Option FaultPlace) → ws ≡ w ∷ rest → here ≡ f w
    → option_or found (first_told f ws) ≡ all → option_or (option_or found here) (first_told f rest) ≡ all
told_next f all found ws rest w here cut is e =
    or_assoc found here (first_told f rest) ∙ ap (λ o. option_or found (option_or o (first_told f rest))) is ∙ ap (λ l. option_or found (first_told f l)) (sym cut) ∙ e

pub told_last : (f : Placed → Option FaultPlace) (all found : Option FaultPlace) (ws : List Placed) → ws ≡ [] → option_or found (first_told f ws) ≡ all → found ≡ all
told_last f all found ws none e = sym (or_nothing found) ∙ ap (λ l. option_or found (first_told f l)) (sym none) ∙ e

found : {X : Type 0} (f : X → Option FaultPlace) (ws : List X) (place : FaultPlace) → first_told f ws ≡ Some place → IsFirstTold f ws place
found f [] place e = absurd cc
found {X} f (w ∷ ws) place e = by (f w) refl (found f ws place) e
  where
    by : (o : Option FaultPlace) → f w ≡ o → (first_told f ws ≡ Some place → IsFirstTold f ws place) → option_or o (first_told f ws) ≡ Some place → IsFirstTold f (w ∷ ws) place
    by (Some p) is later k = (w, record { before = []; after = ws; cut = refl; earlier = tt; has = λ none. absurd cc }, is ∙ k)
    by None is later k =
        let r = later k in
        let first = r.1 in
        (r.0, record { before = w ∷ first.before; after = first.after; cut = ap (λ l. w ∷ l) first.cut; earlier = (λ some. some is, first.earlier); has = first.has }, r.2)

none_of : (o : Option FaultPlace) → (o ≢ None → ⊥) → o ≡ None
none_of None h = refl
none_of (Some p) h = absurd (h (λ e. cc))

finds : {X : Type 0} (f : X → Option FaultPlace) (before : List X) (w : X) (after : List X) (place : FaultPlace) → AllByRecursion (λ v. f v ≢ None → ⊥) before → f w ≡ Some place
    → first_told f (before ++ w ∷ after) ≡ Some place
finds f [] w after place are is = ap (λ o. option_or o (first_told f after)) is
finds f (v ∷ before) w after place are is = ap (λ o. option_or o (first_told f (before ++ w ∷ after))) (none_of (f v) are.0) ∙ finds f before w after place are.1 is

pub first_is_told : {X : Type 0} (f : X → Option FaultPlace) (ws : List X) (place : FaultPlace) → (first_told f ws ≡ Some place) ↔ IsFirstTold f ws place
first_is_told f ws place = (found f ws place, λ t. ap (first_told f) (t.1).cut ∙ finds f (t.1).before t.0 (t.1).after place (t.1).earlier t.2)

pub either_some : {X : Type 0} (a b : Option X) → is_some (option_or a b) ≡ (is_some a || is_some b)
either_some None b = refl
either_some (Some x) b = refl

-- where each lexeme is told by a test of its token
told_by_tokens : (names : List (List ℕ)) (f : Placed → Option FaultPlace) (test : Token → Bool) → ((w : Placed) → is_some (f w) ≡ test (token_of names w.lexeme)) → (ws : List Placed) → is_some (first_told f ws) ≡ list_any test (tokens_at names ws)
told_by_tokens names f test is [] = refl
told_by_tokens names f test is (w ∷ ws) =
    either_some (f w) (first_told f ws) ∙ ap (λ b. b || is_some (first_told f ws)) (is w) ∙ ap (λ b. test (token_of names w.lexeme) || b) (told_by_tokens names f test is ws)

or_none : (a : Bool) → (a || false) ≡ a
or_none true = refl
or_none false = refl

-- ---- sets

abbrev is_unknown : ℕ → Token → Bool
is_unknown n (token.Set m) = nat_le n m
is_unknown n t = false

place_if : (b : Bool) (at : FaultPlace) → is_some (cond b (Some at) None) ≡ b
place_if true at = refl
place_if false at = refl

unknown_token : (n : ℕ) (at : FaultPlace) (t : Token) → is_some (unknown_place n at t) ≡ is_unknown n t
unknown_token n at (token.Set m) = place_if (nat_le n m) at
unknown_token n at (token.Point c) = refl
unknown_token n at token.Any = refl
unknown_token n at token.Start = refl
unknown_token n at token.End = refl
unknown_token n at token.Anchor = refl
unknown_token n at token.Open = refl
unknown_token n at token.Close = refl
unknown_token n at token.Optional = refl
unknown_token n at token.Many = refl
unknown_token n at token.Or = refl
unknown_token n at token.Other = refl

not_below : (m n : ℕ) → (nat_le n m || false) ≡ not (nat_lt m n)
not_below m n = grind (arith, nat_tests)

both_known : (a b : Bool) → (not a || not b) ≡ not (a && b)
both_known true b = refl
both_known false b = refl

any_sign : (test : Token → Bool) (ts : List Token) (t : Token) → test t ≡ false → list_any test (ts ++ t ∷ []) ≡ list_any test ts
any_sign test ts t none = list_any-append test ts (t ∷ []) ∙ ap (λ b. list_any test ts || (b || false)) none ∙ or_none (list_any test ts)

tokens_unknown : (n : ℕ) (p : Pattern) → list_any (is_unknown n) (tokens p) ≡ not (has_its_sets n p)
tokens_unknown n (patterns.Point c) = refl
tokens_unknown n (Set m) = not_below m n
tokens_unknown n Any = refl
tokens_unknown n Start = refl
tokens_unknown n End = refl
tokens_unknown n Anchor = refl
tokens_unknown n (Group p) = any_sign (is_unknown n) (tokens p) token.Close refl ∙ tokens_unknown n p
tokens_unknown n (Optional p) = any_sign (is_unknown n) (tokens p) token.Optional refl ∙ tokens_unknown n p
tokens_unknown n (Many p) = any_sign (is_unknown n) (tokens p) token.Many refl ∙ tokens_unknown n p
tokens_unknown n (Then p q) =
    list_any-append (is_unknown n) (tokens p) (tokens q) ∙ ap (λ b. b || list_any (is_unknown n) (tokens q)) (tokens_unknown n p) ∙ ap (λ b. not (has_its_sets n p) || b) (tokens_unknown n q)
    ∙ both_known (has_its_sets n p) (has_its_sets n q)
tokens_unknown n (Either p q) =
    list_any-append (is_unknown n) (tokens p) (token.Or ∷ tokens q) ∙ ap (λ b. b || list_any (is_unknown n) (tokens q)) (tokens_unknown n p) ∙ ap (λ b. not (has_its_sets n p) || b) (tokens_unknown n q)
    ∙ both_known (has_its_sets n p) (has_its_sets n q)

pub unknown_refused : (r : Bool) (names : List (List ℕ)) (end : ℕ) (ws : List Placed) (p : Pattern) → pattern_read r names end ws ≡ Ok p → is_some (first_unknown names ws) ≡ not (has_its_sets (length names) p)
unknown_refused r names end ws p read =
    told_by_tokens names (λ w. unknown_place (length names) (lexeme_place w) (token_of names w.lexeme)) (is_unknown (length names)) (λ w. unknown_token (length names) (lexeme_place w) (token_of names w.lexeme)) ws
    ∙ ap (list_any (is_unknown (length names))) (its_tokens r names end ws p read) ∙ tokens_unknown (length names) p

-- ---- code points of a pattern

either_none : (b : Bool) (t u : Token) → token_point t ≡ None → token_point u ≡ None → token_point (cond b t u) ≡ None
either_none true t u a b = a
either_none false t u a b = b

mark_none : (c : ℕ) → token_point (mark_token c) ≡ None
mark_none c =
    either_none (c == 40) token.Open _ refl
    (either_none (c == 41) token.Close _ refl
    (either_none (c == 63) token.Optional _ refl
    (either_none (c == 42) token.Many _ refl
    (either_none (c == 47) token.Or _ refl
    (either_none (c == 94) token.Start _ refl
    (either_none (c == 36) token.End _ refl (either_none (c == 46) token.Any _ refl (either_none (c == 95) token.Anchor token.Other refl refl))))))))

short_none : (c : ℕ) → point_of (c ∷ []) ≡ None
unfolding point_of_hex
short_none c = refl

nothing_none : point_of [] ≡ None
unfolding point_of_hex
nothing_none = refl

no_digits : (a b s : Bool) (v : Option ℕ) → cond (((a && b) && false) && s) v None ≡ None
no_digits true true s v = refl
no_digits true false s v = refl
no_digits false b s v = refl

at_none : (d : ℕ) (cs : List ℕ) → point_of (64 ∷ d ∷ cs) ≡ None
unfolding point_of_hex
at_none d cs =
    let digits : List ℕ = 64 ∷ d ∷ cs in no_digits (nat_le 4 (length digits)) (nat_le (length digits) 6) (is_scalar_value (digits_value 16 digits)) (Some (digits_value 16 digits))

set_none : (b : Bool) (n : ℕ) → token_point (cond b (token.Set n) token.Other) ≡ None
set_none true n = refl
set_none false n = refl

point_back : (o : Option ℕ) → o ≡ token_point (point_token o)
point_back None = refl
point_back (Some c) = refl

is_at : (c : ℕ) → (c == 64) ≡ true → c ≡ 64
is_at c e = grind (arith, nat_tests)

-- the code point of a lexeme is that of its token
pub lexeme_point : (names : List (List ℕ)) (w : List ℕ) → point_of w ≡ token_point (token_of names w)
lexeme_point names [] = nothing_none
lexeme_point names (c ∷ []) = short_none c ∙ sym (mark_none c)
lexeme_point names (c ∷ d ∷ cs) = by (c == 64) refl
  where
    by : (b : Bool) → (c == 64) ≡ b → point_of (c ∷ d ∷ cs) ≡ token_point (cond b (set_token names (d ∷ cs)) (word_token (c ∷ d ∷ cs)))
    by true e = ap (λ n. point_of (n ∷ d ∷ cs)) (is_at c e) ∙ at_none d cs ∙ sym (set_none (is_name (d ∷ cs)) (number_of names (d ∷ cs)))
    by false e = point_back (point_of (c ∷ d ∷ cs))

module _ (properties : Properties) where
  abbrev bad_in : Option ℕ → Bool
  bad_in None = false
  bad_in (Some c) = is_bad_point properties c

  abbrev token_bad : Token → Bool
  token_bad t = bad_in (token_point t)

  bad_told : (place : ℕ) (o : Option ℕ) → is_some (bad_place properties place o) ≡ bad_in o
  bad_told place None = refl
  bad_told place (Some c) = place_if (is_bad_point properties c) _

  tokens_bad : (p : Pattern) → list_any token_bad (tokens p) ≡ has_bad_point properties p
  tokens_bad (patterns.Point c) = or_none (is_bad_point properties c)
  tokens_bad (Set n) = refl
  tokens_bad Any = refl
  tokens_bad Start = refl
  tokens_bad End = refl
  tokens_bad Anchor = refl
  tokens_bad (Group p) = any_sign token_bad (tokens p) token.Close refl ∙ tokens_bad p
  tokens_bad (Optional p) = any_sign token_bad (tokens p) token.Optional refl ∙ tokens_bad p
  tokens_bad (Many p) = any_sign token_bad (tokens p) token.Many refl ∙ tokens_bad p
  tokens_bad (Then p q) = list_any-append token_bad (tokens p) (tokens q) ∙ ap (λ b. b || list_any token_bad (tokens q)) (tokens_bad p) ∙ ap (λ b. has_bad_point properties p || b) (tokens_bad q)
  tokens_bad (Either p q) =
      list_any-append token_bad (tokens p) (token.Or ∷ tokens q) ∙ ap (λ b. b || list_any token_bad (tokens q)) (tokens_bad p) ∙ ap (λ b. has_bad_point properties p || b) (tokens_bad q)

  pub bad_refused : (r : Bool) (names : List (List ℕ)) (end : ℕ) (ws : List Placed) (p : Pattern) → pattern_read r names end ws ≡ Ok p → is_some (first_bad properties ws) ≡ has_bad_point properties p
  bad_refused r names end ws p read =
      told_by_tokens names (λ w. bad_place properties w.place (point_of w.lexeme)) token_bad (λ w. bad_told w.place (point_of w.lexeme) ∙ ap bad_in (lexeme_point names w.lexeme)) ws
      ∙ ap (list_any token_bad) (its_tokens r names end ws p read) ∙ tokens_bad p

-- ---- code points of a set

dots_none : point_of (codes "..") ≡ None
unfolding point_of_hex
dots_none = refl

-- the code point of a lexeme is that of its part
pub part_lexeme : (w : List ℕ) → point_of w ≡ part_point (part_of w)
part_lexeme w = by (bytes_eq w (codes "..")) refl
  where
    read : (o : Option ℕ) → o ≡ part_point (spans.point_part o)
    read None = refl
    read (Some c) = refl

    by : (b : Bool) → bytes_eq w (codes "..") ≡ b → point_of w ≡ part_point (cond b part.Range (spans.point_part (point_of w)))
    by true e = ap point_of ((bytes_eq-Decides w (codes "..")).0 e) ∙ dots_none
    by false e = read (point_of w)

module _ (properties : Properties) where
  -- the point that is held
  abbrev held_bad : Held → Bool
  held_bad (held.Above low) = false
  held_bad (held.First c) = is_bad_point properties c
  held_bad (held.Range c) = is_bad_point properties c

  abbrev state_bad : spans.State → Bool
  state_bad s = has_bad_end properties s.spans || held_bad s.held

  -- one with a part more
  abbrev part_bad : SpanPart → Bool
  part_bad p = bad_in properties (part_point p)

  shuffled : (a b c : Bool) → ((a || ((b || b) || false)) || c) ≡ ((a || b) || c)
  shuffled true b c = refl
  shuffled false true c = refl
  shuffled false false c = refl

  closed : (a b c : Bool) → ((a || ((b || c) || false)) || false) ≡ ((a || b) || c)
  closed true b c = refl
  closed false true c = refl
  closed false false true = refl
  closed false false false = refl

  with_span : (ss : List Span) (c d : ℕ) → has_bad_end properties (ss ++ span c d ∷ []) ≡ (has_bad_end properties ss || ((is_bad_point properties c || is_bad_point properties d) || false))
  with_span ss c d = list_any-append (is_bad_span properties) ss (span c d ∷ [])

  if_stepped : (b : Bool) (t u : spans.State) → cond b (Some t) None ≡ Some u → t ≡ u
  if_stepped true t u e = cc
  if_stepped false t u e = absurd (let clash : (let o : Option spans.State = None in o) ≡ Some u = e in cc)

  none_stepped : {A : Type 0} (u : spans.State) → (let o : Option spans.State = None in o) ≡ Some u → A
  none_stepped u e = absurd cc

  stepped_bad : (ss : List Span) (h : Held) (p : SpanPart) (u : spans.State) → spans.step ss h p ≡ Some u → state_bad u ≡ (state_bad (spans.state ss h) || part_bad p)
  stepped_bad ss (held.Above low) (part.Point c) u e =
      ap state_bad (sym (if_stepped (nat_le low c) (spans.state ss (held.First c)) u e)) ∙ ap (λ b. b || is_bad_point properties c) (sym (or_none (has_bad_end properties ss)))
  stepped_bad ss (held.Above low) part.Range u e = none_stepped u e
  stepped_bad ss (held.Above low) part.Other u e = none_stepped u e
  stepped_bad ss (held.First c) (part.Point d) u e =
      ap state_bad (sym (if_stepped (nat_lt c d) (spans.state (ss ++ span c c ∷ []) (held.First d)) u e))
      ∙ ap (λ b. b || is_bad_point properties d) (with_span ss c c) ∙ shuffled (has_bad_end properties ss) (is_bad_point properties c) (is_bad_point properties d)
  stepped_bad ss (held.First c) part.Range u e = ap state_bad (let same : u ≡ spans.state ss (held.Range c) = cc in same) ∙ sym (or_none (state_bad (spans.state ss (held.First c))))
  stepped_bad ss (held.First c) part.Other u e = none_stepped u e
  stepped_bad ss (held.Range c) (part.Point d) u e =
      ap state_bad (sym (if_stepped (nat_le c d) (spans.state (ss ++ span c d ∷ []) (held.Above (d + 1))) u e))
      ∙ ap (λ b. b || false) (with_span ss c d) ∙ closed (has_bad_end properties ss) (is_bad_point properties c) (is_bad_point properties d)
  stepped_bad ss (held.Range c) part.Range u e = none_stepped u e
  stepped_bad ss (held.Range c) part.Other u e = none_stepped u e

  ended_bad : (ss : List Span) (h : Held) (all : List Span) → spans.ended ss h ≡ Some all → has_bad_end properties all ≡ state_bad (spans.state ss h)
  ended_bad [] (held.Above low) all e = absurd (let clash : (let o : Option (List Span) = None in o) ≡ Some all = e in cc)
  ended_bad (s ∷ ss) (held.Above low) all e = ap (has_bad_end properties) (let same : all ≡ s ∷ ss = cc in same) ∙ sym (or_none (has_bad_end properties (s ∷ ss)))
  ended_bad ss (held.First c) all e =
      ap (has_bad_end properties) (let same : all ≡ ss ++ span c c ∷ [] = cc in same) ∙ with_span ss c c ∙ last (has_bad_end properties ss) (is_bad_point properties c)
    where
      last : (a b : Bool) → (a || ((b || b) || false)) ≡ (a || b)
      last true b = refl
      last false true = refl
      last false false = refl
  ended_bad ss (held.Range c) all e = absurd (let clash : (let o : Option (List Span) = None in o) ≡ Some all = e in cc)

  or_rest : (a b c : Bool) → ((a || b) || c) ≡ (a || (b || c))
  or_rest true b c = refl
  or_rest false b c = refl

  spans_bad : (end : ℕ) (ws : List Placed) (s : spans.State) (all : List Span) → read_from spans_step spans_ended end s ws ≡ Ok all → has_bad_end properties all ≡ (state_bad s || is_some (first_bad properties ws))
  spans_bad end [] s all e = ended_bad s.spans s.held all (at_end end (spans_ended s) all e) ∙ sym (or_none (state_bad s))
  spans_bad end (w ∷ ws) s all e = by (spans_step s w.lexeme) refl (λ u. spans_bad end ws u all) e
    where
      here : is_some (bad_place properties w.place (point_of w.lexeme)) ≡ part_bad (part_of w.lexeme)
      here = bad_told properties w.place (point_of w.lexeme) ∙ ap (bad_in properties) (part_lexeme w.lexeme)

      by : (o : Option spans.State) → spans_step s w.lexeme ≡ o → ((u : spans.State) → read_from spans_step spans_ended end u ws ≡ Ok all → has_bad_end properties all ≡ (state_bad u || is_some (first_bad properties ws)))
          → at_lexeme w (λ u. read_from spans_step spans_ended end u ws) o ≡ Ok all → has_bad_end properties all ≡ (state_bad s || is_some (first_bad properties (w ∷ ws)))
      by None is later k = absurd (let clash : (let r : Result (List Span) FaultPlace = Err (lexeme_place w) in r) ≡ Ok all = k in cc)
      by (Some u) is later k =
          later u k ∙ ap (λ b. b || is_some (first_bad properties ws)) (stepped_bad s.spans s.held (part_of w.lexeme) u is)
          ∙ or_rest (state_bad s) (part_bad (part_of w.lexeme)) (is_some (first_bad properties ws))
          ∙ ap (λ b. state_bad s || (b || is_some (first_bad properties ws))) (sym here)
          ∙ ap (λ b. state_bad s || b) (sym (either_some (bad_place properties w.place (point_of w.lexeme)) (first_bad properties ws)))

  pub span_refused : (end : ℕ) (ws : List Placed) (all : List Span) → spans_read end ws ≡ Ok all → is_some (first_bad properties ws) ≡ has_bad_end properties all
  span_refused end ws all read = sym (spans_bad end ws (spans.state [] (held.Above 0)) all read)
