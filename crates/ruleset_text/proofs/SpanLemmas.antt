-- Spans that rise, one after the other.
use Rattle.std.proofs.Common.{◌≡◌, ℕ, ◌+◌, ◌<◌, ◌≤◌, Bool, true, false, cond, leb, ltb, List, [], ◌∷◌, ◌++◌, length, map, Option, Some, None, refl, sym, ap, subst, ◌∙◌, length-append, arith}
use Rattle.std.proofs.lemmas.Bool.{leb-true, ltb-true}
use Rattle.std.specs.List.{AllByRecursion}
use Rattle.label_patterns.specs.declared.span.Span.{Span}
use Rattle.label_patterns.specs.Sets.{Rise}
use Rattle.ruleset_text.specs.declared.spans.SpanPart.{SpanPart}
use Rattle.ruleset_text.specs.declared.spans.SpanPart.TheVariants as part
use Rattle.ruleset_text.specs.declared.spans.Held.{Held}
use Rattle.ruleset_text.specs.declared.spans.Held.TheVariants as held
use Rattle.ruleset_text.specs.inner.Rising.{least, IsRising}
use Rattle.ruleset_text.specs.Lexemes.{lexemes}
use Rattle.ruleset_text.specs.Spans.{State, state, step, stepped, state_after, part_of, span, ended, spans_at, spans_in, spans_of}

below-more : (spans : List Span) (m n : ℕ) → m ≤ n → AllByRecursion (λ s. s.last < m) spans → AllByRecursion (λ s. s.last < n) spans
below-more [] m n l h = tt
below-more (s ∷ spans) m n l h = (omega (arith, l, h.0), below-more spans m n l h.1)

below-push : (spans : List Span) (a b n : ℕ) → b < n → AllByRecursion (λ s. s.last < n) spans → AllByRecursion (λ s. s.last < n) (spans ++ span a b ∷ [])
below-push [] a b n l h = (l, tt)
below-push (s ∷ spans) a b n l h = (h.0, below-push spans a b n l h.1)

above-push : (spans : List Span) (m a b : ℕ) → m < a → AllByRecursion (λ t. m < t.first) spans → AllByRecursion (λ t. m < t.first) (spans ++ span a b ∷ [])
above-push [] m a b l h = (l, tt)
above-push (s ∷ spans) m a b l h = (h.0, above-push spans m a b l h.1)

pub rise-push : (spans : List Span) (a b : ℕ) → a ≤ b → AllByRecursion (λ s. s.last < a) spans → Rise spans → Rise (spans ++ span a b ∷ [])
rise-push [] a b l h rise = (l, tt, tt)
rise-push (s ∷ spans) a b l h rise = (rise.0, above-push spans s.last a b h.0 rise.1, rise-push spans a b l h.1 rise.2)

-- a point is held
pub rising-held : (spans : List Span) (h k : Held) → least h ≤ least k → IsRising spans h → IsRising spans k
rising-held spans h k l rising = (rising.0, below-more spans (least h) (least k) l rising.1)

-- a span is complete
pub rising-push : (spans : List Span) (a b : ℕ) (h k : Held) → least h ≡ a → a ≤ b → b < least k → IsRising spans h → IsRising (spans ++ span a b ∷ []) k
rising-push spans a b h k e l m rising =
    let below : AllByRecursion (λ s. s.last < a) spans = below-more spans (least h) a (omega (arith, e)) rising.1 in
    (rise-push spans a b l below rising.0, below-push spans a b (least k) m (below-more spans a (least k) (omega (arith, l, m)) below))

-- the spans of a text by the state so far and the parts of the rest
abbrev pub Reads : List ℕ → List Span → Held → List ℕ → Type 0
Reads text spans h rest = spans_at (state_after (Some (state spans h)) (map part_of (lexemes rest))) ≡ spans_of text

pub start : (text : List ℕ) → Reads text [] (held.Above 0) text
unfolding spans_in
start text = refl

pub next-part : (text rest lexeme others : List ℕ) (spans : List Span) (h : Held) (o : Option State) → lexemes rest ≡ lexeme ∷ lexemes others → step spans h (part_of lexeme) ≡ o
    → Reads text spans h rest → spans_at (state_after o (map part_of (lexemes others))) ≡ spans_of text
next-part text rest lexeme others spans h o e is before =
    ap (λ s. spans_at (state_after s (map part_of (lexemes others)))) (sym is)
    ∙ ap (λ l. spans_at (state_after (Some (state spans h)) (map part_of l))) (sym e)
    ∙ before

pub none_after : (ps : List SpanPart) → state_after None ps ≡ None
none_after [] = refl
none_after (p ∷ ps) = none_after ps

pub none-part : (text others : List ℕ) → spans_at (state_after None (map part_of (lexemes others))) ≡ spans_of text → spans_of text ≡ None
none-part text others e = sym e ∙ ap spans_at (none_after (map part_of (lexemes others)))

pub no-part : (text rest : List ℕ) (spans : List Span) (h : Held) → lexemes rest ≡ [] → Reads text spans h rest → spans_of text ≡ ended spans h
no-part text rest spans h e before = sym before ∙ ap (λ l. spans_at (state_after (Some (state spans h)) (map part_of l))) e

-- ---- what is read rises

-- the state, if there is one, is of spans that rise
abbrev pub IsGood : Option State → Type 0
IsGood None = Unit {0}
IsGood (Some s) = IsRising s.spans s.held

first_good : (spans : List Span) (low c : ℕ) (b : Bool) → leb low c ≡ b → IsRising spans (held.Above low) → IsGood (cond b (Some (state spans (held.First c))) None)
first_good spans low c true e rising = rising-held spans (held.Above low) (held.First c) (leb-true low c e) rising
first_good spans low c false e rising = tt

next_good : (spans : List Span) (c d : ℕ) (b : Bool) → ltb c d ≡ b → IsRising spans (held.First c) → IsGood (cond b (Some (state (spans ++ span c c ∷ []) (held.First d))) None)
next_good spans c d true e rising = rising-push spans c c (held.First c) (held.First d) refl (omega arith) (ltb-true c d e) rising
next_good spans c d false e rising = tt

last_good : (spans : List Span) (c d : ℕ) (b : Bool) → leb c d ≡ b → IsRising spans (held.Range c) → IsGood (cond b (Some (state (spans ++ span c d ∷ []) (held.Above (d + 1)))) None)
last_good spans c d true e rising = rising-push spans c d (held.Range c) (held.Above (d + 1)) refl (leb-true c d e) (omega arith) rising
last_good spans c d false e rising = tt

step_good : (spans : List Span) (h : Held) (p : SpanPart) → IsRising spans h → IsGood (step spans h p)
step_good spans (held.Above low) (part.Point c) rising = first_good spans low c (leb low c) refl rising
step_good spans (held.Above low) part.Range rising = tt
step_good spans (held.Above low) part.Other rising = tt
step_good spans (held.First c) (part.Point d) rising = next_good spans c d (ltb c d) refl rising
step_good spans (held.First c) part.Range rising = rising-held spans (held.First c) (held.Range c) (omega arith) rising
step_good spans (held.First c) part.Other rising = tt
step_good spans (held.Range c) (part.Point d) rising = last_good spans c d (leb c d) refl rising
step_good spans (held.Range c) part.Range rising = tt
step_good spans (held.Range c) part.Other rising = tt

stepped_good : (o : Option State) (p : SpanPart) → IsGood o → IsGood (stepped o p)
stepped_good None p good = tt
stepped_good (Some s) p good = step_good s.spans s.held p good

after_good : (o : Option State) (ps : List SpanPart) → IsGood o → IsGood (state_after o ps)
after_good o [] good = good
after_good o (p ∷ ps) good = after_good (stepped o p) ps (stepped_good o p good)

-- there is a span, and they rise
abbrev pub AreGood : List Span → Type 0
AreGood spans = (0 < length spans) × Rise spans

ended_good : (spans : List Span) (h : Held) (found : List Span) → IsRising spans h → ended spans h ≡ Some found → AreGood found
ended_good [] (held.Above low) found rising e = absurd (cc)
ended_good (s ∷ spans) (held.Above low) found rising e = let same : s ∷ spans ≡ found = cc in subst AreGood same (omega arith, rising.0)
ended_good spans (held.First c) found rising e =
    let same : spans ++ span c c ∷ [] ≡ found = cc in
    subst AreGood same (omega (arith, length-append spans (span c c ∷ [])), rise-push spans c c (omega arith) rising.1 rising.0)
ended_good spans (held.Range c) found rising e = absurd (cc)

at_good : (o : Option State) (found : List Span) → IsGood o → spans_at o ≡ Some found → AreGood found
at_good None found good e = absurd (cc)
at_good (Some s) found good e = ended_good s.spans s.held found good e

pub spans_good : (words : List (List ℕ)) (found : List Span) → spans_in words ≡ Some found → AreGood found
unfolding spans_in
spans_good words found e = at_good (state_after (Some (state [] (held.Above 0))) (map part_of words)) found (after_good (Some (state [] (held.Above 0))) (map part_of words) (tt, tt)) e
