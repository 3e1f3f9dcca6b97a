-- Spans that are apart.
use Rattle.std.proofs.Common.{◌≡◌, ℕ, ◌+◌, ◌<◌, ◌≤◌, max, true, false, Bool, ◌||◌, ◌&&◌, ◌⊎◌, inl, inr, List, [], ◌∷◌, ◌++◌, length, get_or, leb, refl, ap, sym, ◌∙◌, arith}
use Rattle.std.specs.List.{AllByRecursion}
use Rattle.std.proofs.lemmas.Bool.{le-leb, lt-leb, cases_lt}
use Rattle.std.proofs.lemmas.Bool.Decides.{nat_tests}
use Rattle.std.proofs.lemmas.List.Folds.{list_any-append}
use Rattle.std.proofs.Math.Bool.{and-false}
use Rattle.label_patterns.specs.declared.span.Span.{Span}
use Rattle.label_patterns.specs.Sets.{is_in, is_in_span, Rise}
use Rattle.lgr_text.specs.CodePoints.{AreApartFrom, IsSpan}
use Rattle.lgr_text.specs.inner.Stretches.{BeginUpTo, EndFrom}

pub apart-above : (spans : List Span) (m n : ℕ) → m < n → AreApartFrom n spans → AllByRecursion (λ t. m < t.first) spans
apart-above [] m n less apart = tt
apart-above (s ∷ spans) m n less apart =
    (omega (arith, less, apart.0), apart-above spans m (s.last + 2) (omega (arith, less, apart.0, apart.1.0)) apart.2)

pub apart-rise : (spans : List Span) (n : ℕ) → AreApartFrom n spans → Rise spans
apart-rise [] n apart = tt
apart-rise (s ∷ spans) n apart =
    (apart.1.0, apart-above spans s.last (s.last + 2) (omega arith) apart.2, apart-rise spans (s.last + 2) apart.2)

pub apart-ends : (spans : List Span) (n : ℕ) → AreApartFrom n spans → EndFrom n spans
apart-ends [] n apart = tt
apart-ends (s ∷ spans) n apart = (omega (arith, apart.0, apart.1.0), apart.1, apart.2)

pub ends-lower : (spans : List Span) (m n : ℕ) → m ≤ n → EndFrom n spans → EndFrom m spans
ends-lower [] m n le ends = tt
ends-lower (s ∷ spans) m n le ends = (omega (arith, le, ends.0), ends.1, ends.2)

-- ---- which code points are in them

pub none-below : (spans : List Span) (n c : ℕ) → AreApartFrom n spans → c < n → is_in spans c ≡ false
none-below [] n c apart less = refl
none-below (s ∷ spans) n c apart less =
    ap (λ b. b && leb c s.last || is_in spans c) (lt-leb s.first c (omega (arith, apart.0, less)))
    ∙ none-below spans (s.last + 2) c apart.2 (omega (arith, less, apart.0, apart.1.0))

pub past-first : (s : Span) (spans : List Span) (c : ℕ) → s.last < c → is_in (s ∷ spans) c ≡ is_in spans c
past-first s spans c over =
    ap (λ b. leb s.first c && b || is_in spans c) (lt-leb c s.last over) ∙ ap (λ b. b || is_in spans c) (and-false (leb s.first c))

pub in-first : (s : Span) (spans : List Span) (c : ℕ) → s.first ≤ c → c ≤ s.last → is_in (s ∷ spans) c ≡ true
in-first s spans c low high =
    ap (λ b. b && leb c s.last || is_in spans c) (le-leb s.first c low) ∙ ap (λ b. b || is_in spans c) (le-leb c s.last high)

pub before-first : (s : Span) (spans : List Span) (c : ℕ) → IsSpan s → AreApartFrom (s.last + 2) spans → c < s.first → is_in (s ∷ spans) c ≡ false
before-first s spans c span apart less = none-below (s ∷ spans) s.first c (omega arith, span, apart) less

pub before-the-first : (spans : List Span) (n c : ℕ) (d : Span) → EndFrom n spans → 1 ≤ length spans → c < (get_or spans 0 d).first → is_in spans c ≡ false
before-the-first [] n c d ends some less = absurd (omega (arith, some))
before-the-first (s ∷ spans) n c d ends some less = before-first s spans c ends.1 ends.2 less

-- no code point is past the last one
pub none-past : (spans : List Span) (n c : ℕ) → AreApartFrom n spans → 0x10FFFF < c → is_in spans c ≡ false
none-past [] n c apart over = refl
none-past (s ∷ spans) n c apart over =
    past-first s spans c (omega (arith, apart.1.1, over)) ∙ none-past spans (s.last + 2) c apart.2 over

-- ---- a span more

pub begin-up-to : (spans : List Span) (m n : ℕ) → m ≤ n → BeginUpTo m spans → BeginUpTo n spans
begin-up-to [] m n le begin = tt
begin-up-to (s ∷ spans) m n le begin = (omega (arith, le, begin.0), begin-up-to spans m n le begin.1)

pub begin-last : (spans : List Span) (s : Span) (n : ℕ) → BeginUpTo n (spans ++ s ∷ []) → s.first ≤ n
begin-last [] s n begin = begin.0
begin-last (t ∷ spans) s n begin = begin-last spans s n begin.1

pub begin-widened : (spans : List Span) (s t : Span) (n : ℕ) → t.first ≡ s.first → BeginUpTo n (spans ++ s ∷ []) → BeginUpTo n (spans ++ t ∷ [])
begin-widened [] s t n same begin = (omega (arith, same, begin.0), tt)
begin-widened (u ∷ spans) s t n same begin = (begin.0, begin-widened spans s t n same begin.1)

pub apart-last : (spans : List Span) (s : Span) (n : ℕ) → AreApartFrom n (spans ++ s ∷ []) → IsSpan s
apart-last [] s n apart = apart.1
apart-last (t ∷ spans) s n apart = apart-last spans s (t.last + 2) apart.2

-- after a gap
pub apart-more : (spans : List Span) (s t : Span) (n : ℕ) → s.last + 1 < t.first → IsSpan t → AreApartFrom n (spans ++ s ∷ [])
    → AreApartFrom n ((spans ++ s ∷ []) ++ t ∷ [])
apart-more [] s t n gap span apart = (apart.0, apart.1, (omega (arith, gap), span, tt))
apart-more (u ∷ spans) s t n gap span apart = (apart.0, apart.1, apart-more spans s t (u.last + 2) gap span apart.2)

-- in the place of the last one
pub apart-widened : (spans : List Span) (s t : Span) (n : ℕ) → t.first ≡ s.first → IsSpan t → AreApartFrom n (spans ++ s ∷ []) → AreApartFrom n (spans ++ t ∷ [])
apart-widened [] s t n same span apart = (omega (arith, same, apart.0), span, tt)
apart-widened (u ∷ spans) s t n same span apart = (apart.0, apart.1, apart-widened spans s t (u.last + 2) same span apart.2)

regroup : (a b d : Bool) → (a || ((b || d) || false)) ≡ ((a || (b || false)) || d)
regroup true b d = refl
regroup false true d = refl
regroup false false true = refl
regroup false false false = refl

-- two spans of which the second begins in the first or right after it, and both together
one-span : (s t u : Span) (c : ℕ) → s.first ≤ t.first → t.first ≤ s.last + 1 → s.first ≤ s.last → u.first ≡ s.first
    → s.last ≤ u.last → t.last ≤ u.last → ((u.last ≡ s.last) ⊎ (u.last ≡ t.last)) → is_in_span c u ≡ (is_in_span c s || is_in_span c t)
one-span s t u c begins touches some first left right either = grind (arith, nat_tests)

pub in-widened : (spans : List Span) (s t u : Span) (c : ℕ) → s.first ≤ t.first → t.first ≤ s.last + 1 → s.first ≤ s.last → u.first ≡ s.first
    → s.last ≤ u.last → t.last ≤ u.last → ((u.last ≡ s.last) ⊎ (u.last ≡ t.last))
    → is_in (spans ++ u ∷ []) c ≡ (is_in (spans ++ s ∷ []) c || is_in_span c t)
in-widened spans s t u c begins touches some first left right either =
    list_any-append (is_in_span c) spans (u ∷ [])
    ∙ ap (λ b. is_in spans c || (b || false)) (one-span s t u c begins touches some first left right either)
    ∙ regroup (is_in spans c) (is_in_span c s) (is_in_span c t)
    ∙ ap (λ b. b || is_in_span c t) (sym (list_any-append (is_in_span c) spans (s ∷ [])))

pub max-is-one : (a b m : ℕ) → m ≡ max a b → (m ≡ a) ⊎ (m ≡ b)
max-is-one a b m e = elim (cases_lt a b) [ inl less ↦ inr (omega (arith, e, less)) | inr more ↦ inl (omega (arith, e, more)) ]
