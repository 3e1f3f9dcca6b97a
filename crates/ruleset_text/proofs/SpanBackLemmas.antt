-- The canonical text of the spans of a set is read back.
use Rattle.std.proofs.Common.{◌≡◌, ℕ, ◌+◌, ◌<◌, ◌≤◌, Bool, true, false, cond, eqb, List, [], ◌∷◌, ◌++◌, map, length, Option, Some, None, refl, sym, ap, subst, ◌∙◌, append_assoc, append-nil, length-append, arith}
use Rattle.std.specs.Prelude.{IsTrue, bytes_eq}
use Rattle.std.specs.List.{AllByRecursion, onto_first}
use Rattle.std.proofs.lemmas.Bool.{eqb-true, le-leb, lt-ltb, or_parts, false_from_ne_true, not-false}
use Rattle.std.proofs.lemmas.Bool.Decides.{nat_tests}
use Rattle.std.proofs.lemmas.Slice.Eq.{bytes_eq-Decides}
use Rattle.idn_class.proofs.ClassNumbers.{class_of-no_scalar, is_scalar-out}
use Rattle.idn_class.specs.Class.{class_of, is_scalar}
use Rattle.idn_text.specs.Points.{is_scalar_value, point_of_hex}
use Rattle.label_patterns.specs.declared.span.Span.{Span}
use Rattle.label_patterns.specs.Patterns.{Pattern, Point, Set, Any, Start, End, Anchor, Group, Optional, Many, Then, Either}
use Rattle.label_patterns.specs.Sets.{Rise}
use Rattle.ruleset_text.specs.declared.spans.SpanPart.{SpanPart}
use Rattle.ruleset_text.specs.declared.spans.SpanPart.TheVariants as part
use Rattle.ruleset_text.specs.declared.spans.Held.{Held}
use Rattle.ruleset_text.specs.declared.spans.Held.TheVariants as held
use Rattle.ruleset_text.specs.Canonical.{HasPoints, point_text, span_text, spans_text}
use Rattle.ruleset_text.specs.Classes.{is_label_class, is_bad_point, is_bad_span, has_bad_point, has_bad_end}
use Rattle.ruleset_text.specs.Lexemes.{is_word_byte, begins_in_word, begins_in_stops, lexemes}
use Rattle.ruleset_text.specs.Spans.{State, state, step, state_after, part_of, point_part, span, ended, spans_at, spans_in}
use Rattle.ruleset_text.specs.Tokens.{without_prefix}
use Rattle.ruleset_text.proofs.HexLemmas.{hex_facts, point_of_hex-text}
use Rattle.ruleset_text.proofs.PointLemmas.{point_word, without_prefix-hex}
use Rattle.ruleset_text.proofs.TextLemmas.{IsApart, word_lexeme}
use Rattle.idn_class.specs.declared.properties.Properties.{Properties}

-- ---- a code point of the three classes is a scalar value

no_scalar : (c : ℕ) → is_scalar_value c ≡ false → is_scalar c ≡ false
no_scalar c h = is_scalar-out c (grind (arith, nat_tests))

pub scalar_of_class : (properties : Properties) (c : ℕ) → is_bad_point properties c ≡ false → is_scalar_value c ≡ true
scalar_of_class properties c h = by_cases (is_scalar_value c) refl
  where
    by_cases : (b : Bool) → is_scalar_value c ≡ b → is_scalar_value c ≡ true
    by_cases true e = e
    by_cases false e = (let f : true ≡ false = sym (not-false (is_label_class (class_of properties c)) h) ∙ ap is_label_class (class_of-no_scalar properties c (no_scalar c e)) in absurd (cc))

pub has_points : (properties : Properties) (p : Pattern) → has_bad_point properties p ≡ false → HasPoints p
has_points properties (Point c) h = scalar_of_class properties c h
has_points properties (Set n) h = tt
has_points properties Any h = tt
has_points properties Start h = tt
has_points properties End h = tt
has_points properties Anchor h = tt
has_points properties (Group p) h = has_points properties p h
has_points properties (Optional p) h = has_points properties p h
has_points properties (Many p) h = has_points properties p h
has_points properties (Then p q) h = let parts = or_parts (has_bad_point properties p) (has_bad_point properties q) h in (has_points properties p parts.0, has_points properties q parts.1)
has_points properties (Either p q) h = let parts = or_parts (has_bad_point properties p) (has_bad_point properties q) h in (has_points properties p parts.0, has_points properties q parts.1)

-- the ends of each span are scalar values
abbrev pub HaveScalars : List Span → Type 0
HaveScalars spans = AllByRecursion (λ s. IsTrue (is_scalar_value s.first) × IsTrue (is_scalar_value s.last)) spans

pub have_scalars : (properties : Properties) (spans : List Span) → has_bad_end properties spans ≡ false → HaveScalars spans
have_scalars properties [] h = tt
have_scalars properties (s ∷ spans) h =
    let parts = or_parts (is_bad_span properties s) (has_bad_end properties spans) h in
    let ends = or_parts (is_bad_point properties s.first) (is_bad_point properties s.last) parts.0 in
    ((scalar_of_class properties s.first ends.0, scalar_of_class properties s.last ends.1), have_scalars properties spans parts.1)

-- ---- words

pub word_first : (word rest : List ℕ) → 0 < length word → AllByRecursion (λ c. IsTrue (is_word_byte c)) word → begins_in_word rest ≡ false → lexemes (word ++ rest) ≡ word ∷ lexemes rest
word_first [] rest l h e = absurd (omega (arith, l))
word_first (c ∷ cs) rest l h e = word_lexeme c cs rest h e

-- a word is no '..'
no_range : (word : List ℕ) → 0 < length word → AllByRecursion (λ c. IsTrue (is_word_byte c)) word → bytes_eq word (46 ∷ 46 ∷ []) ≡ false
no_range word l h =
    false_from_ne_true (bytes_eq word (46 ∷ 46 ∷ []))
    (λ e. let all : AllByRecursion (λ c. IsTrue (is_word_byte c)) (46 ∷ 46 ∷ []) = subst (AllByRecursion (λ c. IsTrue (is_word_byte c))) ((bytes_eq-Decides word (46 ∷ 46 ∷ [])).0 e) h in
    let bad : false ≡ true = all.0 in cc)

-- a word doesn't begin with a full stop
pub no_stops : (word rest : List ℕ) → 0 < length word → AllByRecursion (λ c. IsTrue (is_word_byte c)) word → begins_in_stops (word ++ rest) ≡ false
no_stops [] rest l h = absurd (omega (arith, l))
no_stops (c ∷ cs) rest l h =
    false_from_ne_true (eqb c 46) (λ e. let bad : false ≡ true = sym (ap is_word_byte (eqb-true c 46 e)) ∙ h.0 in cc)

point_part_of : (c : ℕ) → is_scalar_value c ≡ true → part_of (point_text c) ≡ part.Point c
point_part_of c s =
    let word = point_word [] c s in
    let read = point_of_hex-text c s in
    let digits : List ℕ = point_text c in
    ap (λ b. cond b part.Range (point_part (point_of_hex (without_prefix digits)))) (no_range digits word.0 word.1)
    ∙ ap (λ w. point_part (point_of_hex w)) (without_prefix-hex digits c (hex_facts digits c read))
    ∙ ap point_part read

-- ---- the parts of spans

abbrev parts_by : Bool → Span → List SpanPart
parts_by true s = part.Point s.first ∷ []
parts_by false s = part.Point s.first ∷ part.Range ∷ part.Point s.last ∷ []

abbrev span_parts : Span → List SpanPart
span_parts s = parts_by (eqb s.first s.last) s

abbrev parts_of : List Span → List SpanPart
parts_of [] = []
parts_of (s ∷ spans) = span_parts s ++ parts_of spans

point_goes : (c : ℕ) (rest : List ℕ) → is_scalar_value c ≡ true → begins_in_word rest ≡ false → map part_of (lexemes (point_text c ++ rest)) ≡ part.Point c ∷ map part_of (lexemes rest)
point_goes c rest s e =
    let word = point_word [] c s in
    ap (map part_of) (word_first (point_text c) rest word.0 word.1 e) ∙ ap (λ p. p ∷ map part_of (lexemes rest)) (point_part_of c s)

pub stops_go : (t : List ℕ) → begins_in_stops t ≡ false → lexemes (46 ∷ 46 ∷ t) ≡ (46 ∷ 46 ∷ []) ∷ lexemes t
stops_go t e = ap (λ b. onto_first 46 (cond b (onto_first 46 (lexemes t)) ((46 ∷ []) ∷ lexemes t))) e

span_goes : (s : Span) (rest : List ℕ) → is_scalar_value s.first ≡ true → is_scalar_value s.last ≡ true → IsApart rest → map part_of (lexemes (span_text s ++ rest)) ≡ span_parts s ++ map part_of (lexemes rest)
span_goes s rest first last apart = by_cases (eqb s.first s.last) refl
  where
    by_cases : (b : Bool) → eqb s.first s.last ≡ b → map part_of (lexemes (cond b (point_text s.first) (point_text s.first ++ 46 ∷ 46 ∷ point_text s.last) ++ rest)) ≡ parts_by b s ++ map part_of (lexemes rest)
    by_cases true e = point_goes s.first rest first apart.0
    by_cases false e =
        let after : List ℕ = point_text s.last ++ rest in
        let word = point_word [] s.last last in
        ap (λ t. map part_of (lexemes t)) (append_assoc (point_text s.first) (46 ∷ 46 ∷ point_text s.last) rest)
        ∙ point_goes s.first (46 ∷ 46 ∷ after) first refl
        ∙ ap (λ l. part.Point s.first ∷ map part_of l) (stops_go after (no_stops (point_text s.last) rest word.0 word.1))
        ∙ ap (λ l. part.Point s.first ∷ part.Range ∷ l) (point_goes s.last rest last apart.0)

apart : (spans : List Span) → IsApart (spans_text spans)
apart [] = (refl, refl)
apart (s ∷ spans) = (refl, refl)

spans_go : (spans : List Span) → HaveScalars spans → map part_of (lexemes (spans_text spans)) ≡ parts_of spans
spans_go [] h = refl
spans_go (s ∷ spans) h = span_goes s (spans_text spans) h.0.0 h.0.1 (apart spans) ∙ ap (λ l. span_parts s ++ l) (spans_go spans h.1)

-- ---- the spans of these parts

-- the spans, with that of the point that is held
abbrev complete : List Span → Held → List Span
complete spans (held.Above low) = spans
complete spans (held.First c) = spans ++ span c c ∷ []
complete spans (held.Range c) = spans

-- a span that begins so may follow
abbrev MayFollow : Held → ℕ → Type 0
MayFollow (held.Above low) a = low ≤ a
MayFollow (held.First c) a = c < a
MayFollow (held.Range c) a = ⊥

abbrev MayGoOn : Held → List Span → Type 0
MayGoOn h (s ∷ spans) = MayFollow h s.first
MayGoOn (held.Above low) [] = Unit {0}
MayGoOn (held.First c) [] = Unit {0}
MayGoOn (held.Range c) [] = ⊥

begin : (spans : List Span) (h : Held) (a : ℕ) → MayFollow h a → step spans h (part.Point a) ≡ Some (state (complete spans h) (held.First a))
begin spans (held.Above low) a l = ap (λ b. cond b (Some (state spans (held.First a))) None) (le-leb low a l)
begin spans (held.First c) a l = ap (λ b. cond b (Some (state (spans ++ span c c ∷ []) (held.First a))) None) (lt-ltb c a l)
begin spans (held.Range c) a l = absurd l

ended_above : (spans : List Span) (low : ℕ) → 0 < length spans → ended spans (held.Above low) ≡ Some spans
ended_above [] low l = absurd (omega (arith, l))
ended_above (s ∷ spans) low l = refl

end_of : (spans : List Span) (h : Held) → MayGoOn h [] → 0 < length (complete spans h ++ []) → ended spans h ≡ Some (complete spans h ++ [])
end_of spans (held.Above low) m l = ended_above spans low (omega (arith, l, length-append spans [])) ∙ ap Some (sym (append-nil spans))
end_of spans (held.First c) m l = ap Some (sym (append-nil (spans ++ span c c ∷ [])))
end_of spans (held.Range c) m l = absurd m

go_on_first : (c : ℕ) (spans : List Span) → AllByRecursion (λ t. c < t.first) spans → MayGoOn (held.First c) spans
go_on_first c [] h = tt
go_on_first c (s ∷ spans) h = h.0

go_on_above : (c : ℕ) (spans : List Span) → AllByRecursion (λ t. c < t.first) spans → MayGoOn (held.Above (c + 1)) spans
go_on_above c [] h = tt
go_on_above c (s ∷ spans) h = omega (arith, h.0)

-- the spans after those before, by the state that these leave
abbrev Folds : List Span → Type 0
Folds spans = (before : List Span) (h : Held) → MayGoOn h spans → 0 < length (complete before h ++ spans) → spans_at (state_after (Some (state before h)) (parts_of spans)) ≡ Some (complete before h ++ spans)

fold_one : (s : Span) (spans before : List Span) (h : Held) (b : Bool) → eqb s.first s.last ≡ b → Rise (s ∷ spans) → MayFollow h s.first → Folds spans
    → spans_at (state_after (Some (state before h)) (parts_by b s ++ parts_of spans)) ≡ Some (complete before h ++ s ∷ spans)
fold_one s spans before h true e rise go rest =
    let front : List Span = complete before h in
    let same : s.first ≡ s.last = eqb-true s.first s.last e in
    let one : span s.first s.first ≡ s = ap (λ l. span s.first l) same in
    let above : AllByRecursion (λ t. s.first < t.first) spans = subst (λ n. AllByRecursion (λ t. n < t.first) spans) (sym same) rise.1 in
    let filled : 0 < length ((front ++ span s.first s.first ∷ []) ++ spans) =
    omega (arith, length-append (front ++ span s.first s.first ∷ []) spans, length-append front (span s.first s.first ∷ [])) in
    ap (λ o. spans_at (state_after o (parts_of spans))) (begin before h s.first go)
    ∙ rest front (held.First s.first) (go_on_first s.first spans above) filled
    ∙ ap (λ t. Some ((front ++ t ∷ []) ++ spans)) one ∙ ap Some (append_assoc front (s ∷ []) spans)
fold_one s spans before h false e rise go rest =
    let front : List Span = complete before h in
    let last : Option State = Some (state (front ++ s ∷ []) (held.Above (s.last + 1))) in
    let filled : 0 < length ((front ++ s ∷ []) ++ spans) = omega (arith, length-append (front ++ s ∷ []) spans, length-append front (s ∷ [])) in
    ap (λ o. spans_at (state_after o (part.Range ∷ part.Point s.last ∷ parts_of spans))) (begin before h s.first go)
    ∙ ap (λ b. spans_at (state_after (cond b last None) (parts_of spans))) (le-leb s.first s.last rise.0)
    ∙ rest (front ++ s ∷ []) (held.Above (s.last + 1)) (go_on_above s.last spans rise.1) filled
    ∙ ap Some (append_assoc front (s ∷ []) spans)

fold : (spans : List Span) → Rise spans → Folds spans
fold [] rise before h go some = end_of before h go some
fold (s ∷ spans) rise before h go some = fold_one s spans before h (eqb s.first s.last) refl rise go (fold spans rise.2)

pub spans_back : (properties : Properties) (spans : List Span) → 0 < length spans → Rise spans → has_bad_end properties spans ≡ false → spans_in (lexemes (spans_text spans)) ≡ Some spans
unfolding spans_in
spans_back properties [] some rise good = absurd (omega (arith, some))
spans_back properties (s ∷ spans) some rise good =
    ap (λ ps. spans_at (state_after (Some (state [] (held.Above 0))) ps)) (spans_go (s ∷ spans) (have_scalars properties (s ∷ spans) good))
    ∙ fold (s ∷ spans) rise [] (held.Above 0) (omega arith) some
