-- A binary search among spans that rise.
use Rattle.std.proofs.Common.{◌≡◌, ℕ, zero, suc, ◌<◌, ◌≤◌, true, false, ◌||◌, ◌&&◌, List, [], ◌∷◌, length, get_or, ltb, leb, refl, ap, ◌∙◌, arith}
use Rattle.std.specs.List.{AllByRecursion, AllWithin}
use Rattle.std.specs.List.Sorted.{IsNonDecreasingBy}
use Rattle.std.proofs.lemmas.Bool.{le-leb, lt-leb, ltb-true, ltb-false}
use Rattle.std.proofs.Math.Bool.{or-false, and-true, and-false}
use Rattle.label_patterns.specs.declared.span.Span.{Span}
use Rattle.label_patterns.specs.Sets.{is_in, Rise}

below-last : (spans : List Span) (m : ℕ) → AllByRecursion (λ t. m < t.first) spans → Rise spans → (j : ℕ) (d : Span) → j < length spans → m ≤ (get_or spans j d).last
below-last [] m above rise j d l = absurd (omega (arith, l))
below-last (s ∷ spans) m above rise zero d l = omega (arith, above.0, rise.0)
below-last (s ∷ spans) m above rise (suc j) d l = below-last spans m above.1 rise.2 j d (omega (arith, l))

pub lasts-rise : (spans : List Span) → Rise spans → IsNonDecreasingBy (λ s. s.last) spans
lasts-rise [] rise i j d le l = absurd (omega (arith, l))
lasts-rise (s ∷ spans) rise zero zero d le l = omega arith
lasts-rise (s ∷ spans) rise zero (suc j) d le l = below-last spans s.last rise.1 rise.2 j d (omega (arith, l))
lasts-rise (s ∷ spans) rise (suc i) zero d le l = absurd (omega (arith, le))
lasts-rise (s ∷ spans) rise (suc i) (suc j) d le l = lasts-rise spans rise.2 i j d (omega (arith, le)) (omega (arith, l))

none-below : (spans : List Span) (m c : ℕ) → AllByRecursion (λ t. m < t.first) spans → c ≤ m → is_in spans c ≡ false
none-below [] m c above l = refl
none-below (s ∷ spans) m c above l =
    let e : leb s.first c ≡ false = lt-leb s.first c (omega (arith, above.0, l)) in
    ap (λ b. b && leb c s.last || is_in spans c) e ∙ none-below spans m c above.1 l

-- the span at the place that the search tells decides
pub in-at : (spans : List Span) (c k : ℕ) (d : Span) → Rise spans → k < length spans
    → AllWithin (λ s. ltb s.last c ≡ true) spans 0 k → AllWithin (λ s. ltb s.last c ≡ false) spans k (length spans)
    → is_in spans c ≡ leb (get_or spans k d).first c
in-at [] c k d rise l before from = absurd (omega (arith, l))
in-at (s ∷ spans) c zero d rise l before from =
    let e : leb c s.last ≡ true = le-leb c s.last (ltb-false s.last c (from 0 d (omega arith) (omega arith))) in
    ap (λ b. leb s.first c && b || is_in spans c) e
    ∙ ap (λ b. b || is_in spans c) (and-true (leb s.first c))
    ∙ ap (λ b. leb s.first c || b) (none-below spans s.last c rise.1 (ltb-false s.last c (from 0 d (omega arith) (omega arith))))
    ∙ or-false (leb s.first c)
in-at (s ∷ spans) c (suc k) d rise l before from =
    let e : leb c s.last ≡ false = lt-leb c s.last (ltb-true s.last c (before 0 d (omega arith) (omega arith))) in
    ap (λ b. leb s.first c && b || is_in spans c) e
    ∙ ap (λ b. b || is_in spans c) (and-false (leb s.first c))
    ∙ in-at spans c k d rise.2 (omega (arith, l)) (λ i e a b. before (suc i) e (omega arith) (omega (arith, b))) (λ i e a b. from (suc i) e (omega (arith, a)) (omega (arith, b)))

-- all spans end before it
pub in-none : (spans : List Span) (c k : ℕ) → length spans ≤ k → AllWithin (λ s. ltb s.last c ≡ true) spans 0 k → is_in spans c ≡ false
in-none [] c k l before = refl
in-none (s ∷ spans) c zero l before = absurd (omega (arith, l))
in-none (s ∷ spans) c (suc k) l before =
    let e : leb c s.last ≡ false = lt-leb c s.last (ltb-true s.last c (before 0 s (omega arith) (omega arith))) in
    ap (λ b. leb s.first c && b || is_in spans c) e
    ∙ ap (λ b. b || is_in spans c) (and-false (leb s.first c))
    ∙ in-none spans c k (omega (arith, l)) (λ i e a b. before (suc i) e (omega arith) (omega (arith, b)))
