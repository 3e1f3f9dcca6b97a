-- A set of code points has one form.
use Rattle.std.proofs.Common.{◌≡◌, ℕ, ◌+◌, ◌<◌, inl, inr, List, [], ◌∷◌, refl, ap, sym, ◌∙◌, arith}
use Rattle.std.proofs.lemmas.Bool.{cases_lt, cases_order, false≢true}
use Rattle.label_patterns.specs.declared.span.Span.{Span}
use Rattle.label_patterns.specs.Sets.{is_in}
use Rattle.lgr_text.specs.CodePoints.{AreApartFrom, IsSpan}
use Rattle.lgr_text.proofs.SpanLemmas.{in-first, past-first, before-first, none-below}

-- the first span of one doesn't begin before that of the other, nor does it end after it
not-before : (s t : Span) (these those : List Span) → IsSpan s → IsSpan t → AreApartFrom (t.last + 2) those
    → ((c : ℕ) → is_in (s ∷ these) c ≡ is_in (t ∷ those) c) → s.first < t.first → ⊥
not-before s t these those span other apart same less =
    false≢true (sym (before-first t those s.first other apart less) ∙ sym (same s.first) ∙ in-first s these s.first (omega arith) span.0)

not-past : (s t : Span) (these those : List Span) → IsSpan s → IsSpan t → AreApartFrom (t.last + 2) those
    → ((c : ℕ) → is_in (s ∷ these) c ≡ is_in (t ∷ those) c) → s.first ≡ t.first → t.last < s.last → ⊥
not-past s t these those span other apart same first less =
    false≢true (sym (none-below those (t.last + 2) (t.last + 1) apart (omega arith))
    ∙ sym (past-first t those (t.last + 1) (omega arith))
    ∙ sym (same (t.last + 1))
    ∙ in-first s these (t.last + 1) (omega (arith, first, other.0)) (omega (arith, less)))

same-numbers : (a b : ℕ) → (a < b → ⊥) → (b < a → ⊥) → a ≡ b
same-numbers a b not_less not_more = elim (cases_order a b) [
  | inl e ↦ e
  | inr o ↦ elim o [ inl less ↦ absurd (not_less less) | inr more ↦ absurd (not_more more) ]
]

same-rests : (s t : Span) (these those : List Span) → AreApartFrom (s.last + 2) these → AreApartFrom (t.last + 2) those → s.last ≡ t.last
    → ((c : ℕ) → is_in (s ∷ these) c ≡ is_in (t ∷ those) c) → (c : ℕ) → is_in these c ≡ is_in those c
same-rests s t these those apart other last same c = elim (cases_lt s.last c) [
  | inl over ↦ sym (past-first s these c over) ∙ same c ∙ past-first t those c (omega (arith, over, last))
  | inr up_to ↦ none-below these (s.last + 2) c apart (omega (arith, up_to)) ∙ sym (none-below those (t.last + 2) c other (omega (arith, up_to, last)))
]

same-span : (s t : Span) → s.first ≡ t.first → s.last ≡ t.last → s ≡ t
same-span s t first last =
    let with_first : ℕ → Span = λ n. record { first = n; last = s.last } in
    let with_last : ℕ → Span = λ n. record { first = t.first; last = n } in
    ap with_first first ∙ ap with_last last

pub one-form : (these those : List Span) (m n : ℕ) → AreApartFrom m these → AreApartFrom n those
    → ((c : ℕ) → is_in these c ≡ is_in those c) → these ≡ those
one-form [] [] m n apart other same = refl
one-form [] (t ∷ those) m n apart other same =
    absurd (false≢true (same t.first ∙ in-first t those t.first (omega arith) other.1.0))
one-form (s ∷ these) [] m n apart other same =
    absurd (false≢true (sym (same s.first) ∙ in-first s these s.first (omega arith) apart.1.0))
one-form (s ∷ these) (t ∷ those) m n apart other same =
    let back : (c : ℕ) → is_in (t ∷ those) c ≡ is_in (s ∷ these) c = λ c. sym (same c) in
    let first : s.first ≡ t.first = same-numbers s.first t.first (not-before s t these those apart.1 other.1 other.2 same) (not-before t s those these other.1 apart.1 apart.2 back) in
    let last : s.last ≡ t.last = same-numbers s.last t.last (not-past t s those these other.1 apart.1 apart.2 back (sym first)) (not-past s t these those apart.1 other.1 other.2 same first) in
    ap (λ u. u ∷ these) (same-span s t first last)
    ∙ ap (λ rest. t ∷ rest) (one-form these those (s.last + 2) (t.last + 2) apart.2 other.2 (same-rests s t these those apart.2 other.2 last same))
