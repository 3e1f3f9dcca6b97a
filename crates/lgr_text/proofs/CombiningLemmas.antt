-- The code points of a combining class that are below a number.
use Rattle.std.proofs.Common.{◌≡◌, ℕ, zero, suc, ◌+◌, ◌<◌, ◌||◌, ◌&&◌, Bool, true, false, List, [], ◌∷◌, eqb, leb, ltb, ap, ◌∙◌, arith}
use Rattle.std.specs.List.{All}
use Rattle.std.proofs.lemmas.Bool.Decides.{nat_tests}
use Rattle.label_patterns.specs.declared.span.Span.{Span}
use Rattle.label_patterns.specs.Sets.{is_in, is_in_span}
use Rattle.lgr_text.specs.CodePoints.{AreApart, AreApartFrom, IsSpan}
use Rattle.lgr_text.specs.inner.Stretches.{BeginUpTo}
use Rattle.lgr_text.proofs.SpanLemmas.{begin-up-to}
use Rattle.ucd_normal.specs.CanonicalCombiningClass.{canonical_combining_class}

-- spans of the code points of a class below n
pub record HasClassBelow (class n : ℕ) (spans : List Span) : Type 0 where
  pub apart : AreApart spans
  pub begin : BeginUpTo n spans
  pub members : (c : ℕ) → is_in spans c ≡ (ltb c n && eqb (canonical_combining_class c) class)

none-below : (c : ℕ) (p : Bool) → false ≡ (ltb c 0 && p)
none-below c p = grind (arith, nat_tests)

pub has-none : (class : ℕ) → HasClassBelow class 0 []
has-none class = record { apart = tt; begin = tt; members = λ c. none-below c (eqb (canonical_combining_class c) class) }

with-next : (c n : ℕ) (p : Bool) → (c ≡ n → p ≡ true) → ((ltb c n && p) || (leb n c && leb c n)) ≡ (ltb c (n + 1) && p)
with-next c n true is = grind (arith, nat_tests)
with-next c n false is = let apart : c ≡ n → ⊥ = λ e. let no = is e in absurd (cc) in grind (arith, nat_tests, apart)

without-next : (c n : ℕ) (p : Bool) → (c ≡ n → p ≡ false) → (ltb c n && p) ≡ (ltb c (n + 1) && p)
without-next c n false is = grind (arith, nat_tests)
without-next c n true is = let apart : c ≡ n → ⊥ = λ e. let no = is e in absurd (cc) in grind (arith, nat_tests, apart)

-- n is of the class, and stands in the spans
pub has-more : (class n : ℕ) (old spans : List Span) → eqb (canonical_combining_class n) class ≡ true → HasClassBelow class n old
    → AreApart spans → BeginUpTo n spans
    → ((c : ℕ) → is_in spans c ≡ (is_in old c || is_in_span c (record { first = n; last = n })))
    → HasClassBelow class (n + 1) spans
has-more class n old spans is below apart begin members = record {
  apart = apart;
  begin = begin-up-to spans n (n + 1) (omega arith) begin;
  members = λ c.
      members c
      ∙ ap (λ b. b || (leb n c && leb c n)) (below.members c)
      ∙ with-next c n (eqb (canonical_combining_class c) class) (λ e. ap (λ m. eqb (canonical_combining_class m) class) e ∙ is);
}

-- n isn't
pub has-same : (class n : ℕ) (spans : List Span) → eqb (canonical_combining_class n) class ≡ false → HasClassBelow class n spans
    → HasClassBelow class (n + 1) spans
has-same class n spans is below = record {
  apart = below.apart;
  begin = begin-up-to spans n (n + 1) (omega arith) below.begin;
  members = λ c.
      below.members c
      ∙ without-next c n (eqb (canonical_combining_class c) class) (λ e. ap (λ m. eqb (canonical_combining_class m) class) e ∙ is);
}

pub apart-spans : (spans : List Span) (n : ℕ) → AreApartFrom n spans → All IsSpan spans
apart-spans [] n apart k d less = absurd (omega (arith, less))
apart-spans (s ∷ spans) n apart zero d less = apart.1
apart-spans (s ∷ spans) n apart (suc k) d less = apart-spans spans (s.last + 2) apart.2 k d (omega (arith, less))

-- all code points are below
pub is-below : (c n : ℕ) (p : Bool) → c < n → (ltb c n && p) ≡ p
is-below c n p less = grind (arith, nat_tests)
