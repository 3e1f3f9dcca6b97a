-- Reading spans is exact: it gives what the grammar says of their lexemes, and nothing else.
use Rattle.std.proofs.Common.{◌≡◌, inl, inr, ℕ, ◌+◌, ◌<◌, ◌≤◌, Bool, true, false, cond, leb, ltb, List, [], ◌∷◌, ◌++◌, map, Option, Some, None, refl, sym, ap, subst, ◌∙◌, append_assoc, append-nil, arith}
use Rattle.std.specs.Prelude.{◌↔◌, bytes_eq, codes}
use Rattle.std.specs.List.{AllByRecursion}
use Rattle.std.proofs.lemmas.Bool.{le-leb, lt-ltb}
use Rattle.std.proofs.lemmas.Slice.Eq.{bytes_eq-Decides}
use Rattle.label_patterns.specs.declared.span.Span.{Span}
use Rattle.label_patterns.specs.Sets.{Rise}
use Rattle.idn_text.specs.Points as points
use Rattle.ruleset_text.specs.declared.spans.SpanPart.{SpanPart}
use Rattle.ruleset_text.specs.declared.spans.SpanPart.TheVariants as part
use Rattle.ruleset_text.specs.declared.spans.Held.{Held}
use Rattle.ruleset_text.specs.declared.spans.Held.TheVariants as held
use Rattle.ruleset_text.specs.EntryWords as words
use Rattle.ruleset_text.specs.EntryWords.{IsWord, AreWords, point_of}
use Rattle.ruleset_text.specs.Spans.{State, state, step, state_after, point_part, part_of, span, ended, spans_at, spans_in}
use Rattle.ruleset_text.specs.SpanWords.{SpellSpans, SpellSet}
use Rattle.ruleset_text.proofs.SpanLemmas.{none_after, spans_good}

-- ---- lexemes and parts

point_read : (w : List ℕ) (c : ℕ) → IsWord (words.Point c) w → part_of w ≡ part.Point c
unfolding points.point_of_hex
point_read w c is = by_stops (bytes_eq w (codes "..")) refl
  where
    by_stops : (b : Bool) → bytes_eq w (codes "..") ≡ b → part_of w ≡ part.Point c
    by_stops true e = (let same : w ≡ codes ".." = (bytes_eq-Decides w (codes "..")).0 e in let none : point_of w ≡ None = ap point_of same in absurd (cc))
    by_stops false e = ap (λ b. cond b part.Range (point_part (point_of w))) e ∙ ap point_part is

range_read : (w : List ℕ) → IsWord words.Range w → part_of w ≡ part.Range
range_read w is = ap part_of is

-- what a part was read from
abbrev IsRead : SpanPart → List ℕ → Type 0
IsRead (part.Point c) w = IsWord (words.Point c) w
IsRead part.Range w = IsWord words.Range w
IsRead part.Other w = Unit {0}

read_of : (w : List ℕ) → IsRead (part_of w) w
read_of w = by_stops (bytes_eq w (codes "..")) refl
  where
    by_point : (o : Option ℕ) → point_of w ≡ o → IsRead (point_part o) w
    by_point None e = tt
    by_point (Some c) e = e

    by_stops : (b : Bool) → bytes_eq w (codes "..") ≡ b → IsRead (cond b part.Range (point_part (point_of w))) w
    by_stops true e = (bytes_eq-Decides w (codes "..")).0 e
    by_stops false e = by_point (point_of w) refl

-- ---- what is spelled is read

-- the spans that the lexemes are read as, after these and what is held
abbrev read_after : List Span → Held → List (List ℕ) → Option (List Span)
read_after done h lexemes = spans_at (state_after (Some (state done h)) (map part_of lexemes))

abbrev AreFrom : ℕ → List Span → Type 0
AreFrom low spans = AllByRecursion (λ s. low ≤ s.first) spans

from_next : (last : ℕ) (spans : List Span) → AllByRecursion (λ s. last < s.first) spans → AreFrom (last + 1) spans
from_next last [] h = tt
from_next last (s ∷ spans) h = (omega (arith, h.0), from_next last spans h.1)

step_read : (done : List Span) (h : Held) (w : List ℕ) (p : SpanPart) (o : Option State) (rest : List (List ℕ)) → part_of w ≡ p → step done h p ≡ o → read_after done h (w ∷ rest) ≡ spans_at (state_after o (map part_of rest))
step_read done h w p o rest e is = ap (λ q. spans_at (state_after (step done h q) (map part_of rest))) e ∙ ap (λ s. spans_at (state_after s (map part_of rest))) is

first_step : (done : List Span) (low c : ℕ) → low ≤ c → step done (held.Above low) (part.Point c) ≡ Some (state done (held.First c))
first_step done low c l = ap (λ b. cond b (Some (state done (held.First c))) None) (le-leb low c l)

next_step : (done : List Span) (c d : ℕ) → c < d → step done (held.First c) (part.Point d) ≡ Some (state (done ++ span c c ∷ []) (held.First d))
next_step done c d l = ap (λ b. cond b (Some (state (done ++ span c c ∷ []) (held.First d))) None) (lt-ltb c d l)

last_step : (done : List Span) (c d : ℕ) → c ≤ d → step done (held.Range c) (part.Point d) ≡ Some (state (done ++ span c d ∷ []) (held.Above (d + 1)))
last_step done c d l = ap (λ b. cond b (Some (state (done ++ span c d ∷ []) (held.Above (d + 1)))) None) (le-leb c d l)

-- the first code point, where there is nothing held
abbrev Begins : List Span → Held → ℕ → Type 0
Begins done (held.Above low) a = low ≤ a
Begins done (held.First c) a = c < a
Begins done (held.Range c) a = ⊥

-- the spans that are complete once another one begins
abbrev before : List Span → Held → List Span
before done (held.First c) = done ++ span c c ∷ []
before done h = done

begin_step : (done : List Span) (h : Held) (a : ℕ) → Begins done h a → step done h (part.Point a) ≡ Some (state (before done h) (held.First a))
begin_step done (held.Above low) a l = first_step done low a l
begin_step done (held.First c) a l = next_step done c a l
begin_step done (held.Range c) a l = absurd l

-- a span or the end may follow
abbrev MayEnd : Held → Type 0
MayEnd (held.Range c) = ⊥
MayEnd h = Unit {0}

abbrev AllBegin : List Span → Held → List Span → Type 0
AllBegin done h spans = AllByRecursion (λ s. Begins done h s.first) spans

after_point : (done : List Span) (a : ℕ) (spans : List Span) → AllByRecursion (λ s. a < s.first) spans → AllBegin done (held.First a) spans
after_point done a [] h = tt
after_point done a (s ∷ spans) h = (h.0, after_point done a spans h.1)

after_range : (done : List Span) (b : ℕ) (spans : List Span) → AllByRecursion (λ s. b < s.first) spans → AllBegin done (held.Above (b + 1)) spans
after_range done b [] h = tt
after_range done b (s ∷ spans) h = (omega (arith, h.0), after_range done b spans h.1)

-- spans, if there is one
abbrev found : List Span → Option (List Span)
found spans = ended spans (held.Above 0)

found_one : (done : List Span) (s : Span) → Some (done ++ s ∷ []) ≡ found (done ++ s ∷ [])
found_one [] s = refl
found_one (t ∷ done) s = refl

end_read : (done : List Span) (h : Held) → MayEnd h → ended done h ≡ found (before done h)
end_read [] (held.Above low) may = refl
end_read (s ∷ done) (held.Above low) may = refl
end_read done (held.First c) may = found_one done (span c c)
end_read done (held.Range c) may = absurd may

more : (done : List Span) (s t : Span) (spans : List Span) → s ≡ t → found ((done ++ s ∷ []) ++ spans) ≡ found (done ++ t ∷ spans)
more done s t spans e = ap found (append_assoc done (s ∷ []) spans) ∙ ap (λ u. found (done ++ u ∷ spans)) e

same_span : (s : Span) → s.first ≡ s.last → span s.first s.first ≡ s
same_span s e = ap (λ b. span s.first b) e

-- a span has these lexemes, and the rest is read
point_spelled : (done : List Span) (h : Held) (first rest : List (List ℕ)) (s : Span) (spans : List Span) → Begins done h s.first → s.first ≡ s.last → AreWords (words.Point s.first ∷ []) first
    → read_after (before done h) (held.First s.first) rest ≡ found ((before done h ++ span s.first s.first ∷ []) ++ spans) → read_after done h (first ++ rest) ≡ found (before done h ++ s ∷ spans)
point_spelled done h [] rest s spans begins e is then = absurd is
point_spelled done h (w ∷ v ∷ first) rest s spans begins e is then = absurd is.1
point_spelled done h (w ∷ []) rest s spans begins e is then =
    let a = s.first in
    step_read done h w (part.Point a) (Some (state (before done h) (held.First a))) rest (point_read w a is.0) (begin_step done h a begins)
    ∙ then ∙ more (before done h) (span a a) s spans (same_span s e)

range_spelled : (done : List Span) (h : Held) (first rest : List (List ℕ)) (s : Span) (spans : List Span) → Begins done h s.first → s.first ≤ s.last → AreWords (words.Point s.first ∷ words.Range ∷ words.Point s.last ∷ []) first
    → read_after (before done h ++ s ∷ []) (held.Above (s.last + 1)) rest ≡ found ((before done h ++ s ∷ []) ++ spans) → read_after done h (first ++ rest) ≡ found (before done h ++ s ∷ spans)
range_spelled done h [] rest s spans begins l is then = absurd is
range_spelled done h (w ∷ []) rest s spans begins l is then = absurd is.1
range_spelled done h (w ∷ r ∷ []) rest s spans begins l is then = absurd is.1.1
range_spelled done h (w ∷ r ∷ v ∷ x ∷ first) rest s spans begins l is then = absurd is.1.1.1
range_spelled done h (w ∷ r ∷ v ∷ []) rest s spans begins l is then =
    let a = s.first in
    let b = s.last in
    let now = before done h in
    step_read done h w (part.Point a) (Some (state now (held.First a))) (r ∷ v ∷ rest) (point_read w a is.0) (begin_step done h a begins)
    ∙ step_read now (held.First a) r part.Range (Some (state now (held.Range a))) (v ∷ rest) (range_read r is.1.0) refl
    ∙ step_read now (held.Range a) v (part.Point b) (Some (state (now ++ s ∷ []) (held.Above (b + 1)))) rest (point_read v b is.1.1.0) (last_step now a b l)
    ∙ then ∙ more now s s spans refl

spelled_read : (done : List Span) (h : Held) (lexemes : List (List ℕ)) (spans : List Span) → MayEnd h → AllBegin done h spans → Rise spans → SpellSpans lexemes spans → read_after done h lexemes ≡ found (before done h ++ spans)
spelled_read done h lexemes [] may begin rise spelled = ap (read_after done h) spelled ∙ end_read done h may ∙ ap found (sym (append-nil (before done h)))
spelled_read done h lexemes (s ∷ spans) may begin rise (first, rest, e, inl (same, is), spelled) =
    let now = before done h in
    let later : AllByRecursion (λ t. s.first < t.first) spans = subst (λ b. AllByRecursion (λ t. b < t.first) spans) (sym same) rise.1 in
    ap (read_after done h) e
    ∙ point_spelled done h first rest s spans begin.0 same is (spelled_read now (held.First s.first) rest spans tt (after_point now s.first spans later) rise.2 spelled)
spelled_read done h lexemes (s ∷ spans) may begin rise (first, rest, e, inr is, spelled) =
    let now = before done h ++ s ∷ [] in
    ap (read_after done h) e
    ∙ range_spelled done h first rest s spans begin.0 rise.0 is (spelled_read now (held.Above (s.last + 1)) rest spans tt (after_range now s.last spans rise.1) rise.2 spelled)

all_above : (spans : List Span) → AllBegin [] (held.Above 0) spans
all_above [] = tt
all_above (s ∷ spans) = (omega arith, all_above spans)

pub set_read : (lexemes : List (List ℕ)) (spans : List Span) → SpellSet lexemes spans → spans_in lexemes ≡ Some spans
unfolding spans_in
set_read lexemes [] is = absurd (omega (arith, is.0))
set_read lexemes (s ∷ spans) is = spelled_read [] (held.Above 0) lexemes (s ∷ spans) tt (all_above (s ∷ spans)) is.1 is.2

-- ---- what is read is spelled

-- the lexemes spell the spans, after what is held
abbrev SpellFrom : Held → List (List ℕ) → List Span → Type 0
SpellFrom (held.Above low) lexemes spans = SpellSpans lexemes spans
SpellFrom (held.First c) lexemes spans = (w : List ℕ) → IsWord (words.Point c) w → SpellSpans (w ∷ lexemes) spans
SpellFrom (held.Range c) lexemes spans = (w r : List ℕ) → IsWord (words.Point c) w → IsWord words.Range r → SpellSpans (w ∷ r ∷ lexemes) spans

-- more spans than are complete
record More (done : List Span) (h : Held) (lexemes : List (List ℕ)) (all : List Span) : Type 0 where
  spans : List Span
  whole : all ≡ done ++ spans
  spelled : SpellFrom h lexemes spans

same_spans : (spans all : List Span) → Some spans ≡ Some all → all ≡ spans
same_spans spans all e = cc

ended_spelled : (done : List Span) (h : Held) (all : List Span) → ended done h ≡ Some all → More done h [] all
ended_spelled [] (held.Above low) all e = absurd (cc)
ended_spelled (s ∷ done) (held.Above low) all e = record { spans = []; whole = same_spans (s ∷ done) all e ∙ sym (append-nil (s ∷ done)); spelled = refl }
ended_spelled done (held.First c) all e = record { spans = span c c ∷ []; whole = same_spans (done ++ span c c ∷ []) all e; spelled = λ w is. (w ∷ [], [], refl, inl (refl, (is, tt)), refl) }
ended_spelled done (held.Range c) all e = absurd (cc)

-- a span more is complete
later : (done : List Span) (s : Span) (k : Held) (lexemes : List (List ℕ)) (all : List Span) → More (done ++ s ∷ []) k lexemes all → (h : Held) (others : List (List ℕ))
    → ((spans : List Span) → SpellFrom k lexemes spans → SpellFrom h others (s ∷ spans)) → More done h others all
later done s k lexemes all m h others f = record { spans = s ∷ m.spans; whole = m.whole ∙ append_assoc done (s ∷ []) m.spans; spelled = f m.spans m.spelled }

held_more : (done : List Span) (h k : Held) (lexemes others : List (List ℕ)) (all : List Span) → More done k lexemes all → ((spans : List Span) → SpellFrom k lexemes spans → SpellFrom h others spans) → More done h others all
held_more done h k lexemes others all m f = record { spans = m.spans; whole = m.whole; spelled = f m.spans m.spelled }

no_spans : {A : Type 0} (all : List Span) → None ≡ Some all → A
no_spans all e = absurd cc

-- a part that may not stand there
stuck : {A : Type 0} (parts : List SpanPart) (all : List Span) → spans_at (state_after None parts) ≡ Some all → A
stuck parts all e = no_spans all (sym (ap spans_at (none_after parts)) ∙ e)

-- what the rest is read as, after each state
abbrev RestSpelled : List (List ℕ) → List Span → Type 0
RestSpelled lexemes all = (done : List Span) (h : Held) → read_after done h lexemes ≡ Some all → More done h lexemes all

-- one part after the others, if it may stand there
abbrev after_if : List (List ℕ) → Bool → State → Option (List Span)
after_if lexemes b s = spans_at (state_after (cond b (Some s) None) (map part_of lexemes))

first_if : (done : List Span) (low c : ℕ) (w : List ℕ) (lexemes : List (List ℕ)) (all : List Span) (b : Bool) → RestSpelled lexemes all → IsWord (words.Point c) w
    → after_if lexemes b (state done (held.First c)) ≡ Some all → More done (held.Above low) (w ∷ lexemes) all
first_if done low c w lexemes all true rest is e = held_more done (held.Above low) (held.First c) lexemes (w ∷ lexemes) all (rest done (held.First c) e) (λ spans f. f w is)
first_if done low c w lexemes all false rest is e = stuck (map part_of lexemes) all e

next_if : (done : List Span) (c d : ℕ) (w : List ℕ) (lexemes : List (List ℕ)) (all : List Span) (b : Bool) → RestSpelled lexemes all → IsWord (words.Point d) w
    → after_if lexemes b (state (done ++ span c c ∷ []) (held.First d)) ≡ Some all → More done (held.First c) (w ∷ lexemes) all
next_if done c d w lexemes all true rest is e =
    later done (span c c) (held.First d) lexemes all (rest (done ++ span c c ∷ []) (held.First d) e) (held.First c) (w ∷ lexemes)
    (λ spans f v first. (v ∷ [], w ∷ lexemes, refl, inl (refl, (first, tt)), f w is))
next_if done c d w lexemes all false rest is e = stuck (map part_of lexemes) all e

last_if : (done : List Span) (c d : ℕ) (w : List ℕ) (lexemes : List (List ℕ)) (all : List Span) (b : Bool) → RestSpelled lexemes all → IsWord (words.Point d) w
    → after_if lexemes b (state (done ++ span c d ∷ []) (held.Above (d + 1))) ≡ Some all → More done (held.Range c) (w ∷ lexemes) all
last_if done c d w lexemes all true rest is e =
    later done (span c d) (held.Above (d + 1)) lexemes all (rest (done ++ span c d ∷ []) (held.Above (d + 1)) e) (held.Range c) (w ∷ lexemes)
    (λ spans f v r first range. (v ∷ r ∷ w ∷ [], lexemes, refl, inr (first, (range, (is, tt))), f))
last_if done c d w lexemes all false rest is e = stuck (map part_of lexemes) all e

part_spelled : (done : List Span) (h : Held) (w : List ℕ) (lexemes : List (List ℕ)) (all : List Span) (p : SpanPart) → RestSpelled lexemes all → IsRead p w
    → spans_at (state_after (step done h p) (map part_of lexemes)) ≡ Some all → More done h (w ∷ lexemes) all
part_spelled done (held.Above low) w lexemes all (part.Point c) rest is e = first_if done low c w lexemes all (leb low c) rest is e
part_spelled done (held.First c) w lexemes all (part.Point d) rest is e = next_if done c d w lexemes all (ltb c d) rest is e
part_spelled done (held.Range c) w lexemes all (part.Point d) rest is e = last_if done c d w lexemes all (leb c d) rest is e
part_spelled done (held.First c) w lexemes all part.Range rest is e =
    held_more done (held.First c) (held.Range c) lexemes (w ∷ lexemes) all (rest done (held.Range c) e) (λ spans f v first. f v w first is)
part_spelled done (held.Above low) w lexemes all part.Range rest is e = stuck (map part_of lexemes) all e
part_spelled done (held.Range c) w lexemes all part.Range rest is e = stuck (map part_of lexemes) all e
part_spelled done (held.Above low) w lexemes all part.Other rest is e = stuck (map part_of lexemes) all e
part_spelled done (held.First c) w lexemes all part.Other rest is e = stuck (map part_of lexemes) all e
part_spelled done (held.Range c) w lexemes all part.Other rest is e = stuck (map part_of lexemes) all e

read_spelled : (lexemes : List (List ℕ)) (all : List Span) → RestSpelled lexemes all
read_spelled [] all done h e = ended_spelled done h all e
read_spelled (w ∷ lexemes) all done h e = part_spelled done h w lexemes all (part_of w) (read_spelled lexemes all) (read_of w) e

pub set_spelled : (lexemes : List (List ℕ)) (spans : List Span) → spans_in lexemes ≡ Some spans → SpellSet lexemes spans
unfolding spans_in
set_spelled lexemes spans e =
    let m = read_spelled lexemes spans [] (held.Above 0) e in
    let good = spans_good lexemes spans e in
    (good.0, good.1, subst (SpellSpans lexemes) (sym m.whole) m.spelled)

pub reading_spans_is_exact : (lexemes : List (List ℕ)) (spans : List Span) → (spans_in lexemes ≡ Some spans) ↔ SpellSet lexemes spans
reading_spans_is_exact lexemes spans = (set_spelled lexemes spans, set_read lexemes spans)

-- lexemes spell one list of spans at most
pub one_set : (lexemes : List (List ℕ)) (spans others : List Span) → SpellSet lexemes spans → SpellSet lexemes others → spans ≡ others
one_set lexemes spans others is too = same_spans others spans (sym (set_read lexemes others too) ∙ set_read lexemes spans is)
