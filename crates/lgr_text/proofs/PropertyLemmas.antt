-- Ranges of tables as spans.
use Rattle.std.proofs.Common.{◌≡◌, ℕ, zero, suc, true, false, ◌||◌, ◌&&◌, Bool, List, [], ◌∷◌, leb, map, refl, ap, arith}
use Rattle.std.specs.List.{All, list_all}
use Rattle.std.proofs.lemmas.Bool.{leb-true}
use Rattle.label_patterns.specs.declared.span.Span.{Span}
use Rattle.label_patterns.specs.Sets.{is_in}
use Rattle.lgr_text.specs.CodePoints.{IsSpan}
use Rattle.ucd_table.specs.Rows.{in_ranges, is_range, Range}

abbrev pub span_of : Range → Span
span_of r = record { first = r.0; last = r.1 }

pub ranges-in : (ranges : List Range) (c : ℕ) → is_in (map span_of ranges) c ≡ in_ranges ranges c
unfolding in_ranges
ranges-in [] c = refl
ranges-in (r ∷ ranges) c = ap (λ b. (leb r.0 c && leb c r.1) || b) (ranges-in ranges c)

both-left : (a b : Bool) → (a && b) ≡ true → a ≡ true
both-left true b e = refl
both-left false b e = absurd (cc)

both-right : (a b : Bool) → (a && b) ≡ true → b ≡ true
both-right true b e = e
both-right false b e = absurd (cc)

one-span : (r : Range) → is_range r ≡ true → IsSpan (span_of r)
one-span r e = (
  leb-true r.0 r.1 (both-left (leb r.0 r.1) (leb r.1 0x10FFFF) e),
  leb-true r.1 0x10FFFF (both-right (leb r.0 r.1) (leb r.1 0x10FFFF) e),
)

pub ranges-spans : (ranges : List Range) → list_all is_range ranges ≡ true → All IsSpan (map span_of ranges)
ranges-spans [] e k d less = absurd (omega (arith, less))
ranges-spans (r ∷ ranges) e zero d less = one-span r (both-left (is_range r) (list_all is_range ranges) e)
ranges-spans (r ∷ ranges) e (suc k) d less = ranges-spans ranges (both-right (is_range r) (list_all is_range ranges) e) k d (omega (arith, less))
