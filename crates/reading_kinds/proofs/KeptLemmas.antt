-- The substitutions of a label as they are stored.
use Rattle.std.proofs.Common.{◌≡◌, ℕ, ◌+◌, ◌-◌, ◌<◌, ◌≤◌, inl, inr, List, [], length, get_or, drop, sym, ap, ◌∙◌, arith, length-drop}
use Rattle.std.specs.Prelude.{Contains, Some, slice_get, map}
use Rattle.std.proofs.lemmas.Bool.{cases_lt}
use Rattle.std.proofs.lemmas.List.{length-map, length-take, length-take-le, get_or-map, get_or-take, get_or-drop, get_or_default}
use Rattle.std.proofs.Math.ListN.{get_or-eq_default}
use Rattle.std.proofs.lemmas.Option.{slice_get-get_or}
use Rattle.reading_kinds.specs.Readings.{Substitution, substitutions_at}
use Rattle.reading_kinds.specs.inner.Kept.{substitution_of, place_of, lists_of, IsPart, IsKept}
use Rattle.reading_kinds.specs.declared.label_substitutions.Part.{Part}
use Rattle.reading_kinds.specs.declared.label_substitutions.StoredSubstitution.{StoredSubstitution}
use Rattle.reading_kinds.proofs.TakenLemmas.{some_same, slice_get-Contains}

pub substitutions_at-lists : (all : List Substitution) (places : List Part) (place : ℕ) (part : Part) → place < length places → part ≡ get_or places place part → substitutions_at (lists_of all places) place ≡ place_of all part
substitutions_at-lists all places place part l e = get_or-map (place_of all) places place part [] l ∙ ap (place_of all) (sym e)

pub length-place_of : (all : List Substitution) (part : Part) → IsPart part.start part.end (length all) → length (place_of all part) ≡ part.end - part.start
length-place_of all part is = length-take-le (part.end - part.start) (drop part.start all) (omega (arith, is.in_order, is.within, length-drop part.start all))

-- what is known of a substitution that is asked for
pub record IsAt (substitutions : List StoredSubstitution) (places : List Part) (place number : ℕ) (part : Part) : Type 0 where
  pub inside : place < length places
  pub is_part : IsPart part.start part.end (length substitutions)
  pub below : number < part.end - part.start

module _ (points : List ℕ) (substitutions : List StoredSubstitution) (places : List Part) (longest : ℕ) (is : IsKept points substitutions places longest) where
  abbrev pub all : List Substitution
  all = map (substitution_of points) substitutions

  part_within : (part : Part) → IsPart part.start part.end (length substitutions) → IsPart part.start part.end (length all)
  part_within part at = record { in_order = at.in_order; within = omega (arith, at.within, length-map substitutions (substitution_of points)) }

  pub place_inside : (place : ℕ) → place < length (lists_of all places) → place < length places
  place_inside place l = omega (arith, l, length-map places (place_of all))

  pub IsPart-read : (place : ℕ) (part : Part) → place < length (lists_of all places) → part ≡ get_or places place part → IsPart part.start part.end (length substitutions)
  IsPart-read place part l e = is.of_substitutions part (place, place_inside place l, sym e)

  pub length-read : (place : ℕ) (part : Part) → place < length (lists_of all places) → part ≡ get_or places place part → length (substitutions_at (lists_of all places) place) ≡ part.end - part.start
  length-read place part l e =
      ap length (substitutions_at-lists all places place part (place_inside place l) e) ∙ length-place_of all part (part_within part (IsPart-read place part l e))

  pub IsAt-asked : (place number : ℕ) (part : Part) → place < length (lists_of all places) → number < length (substitutions_at (lists_of all places) place) → part ≡ get_or places place part → IsAt substitutions places place number part
  IsAt-asked place number part l n e = record {
    inside = place_inside place l;
    is_part = IsPart-read place part l e;
    below = omega (arith, n, length-read place part l e);
  }

  pub Contains-kept : (place number : ℕ) (part : Part) (kept : StoredSubstitution) → IsAt substitutions places place number part → kept ≡ get_or substitutions (part.start + number) kept → Contains substitutions kept
  Contains-kept place number part kept at e = (part.start + number, omega (arith, at.below, (at.is_part).within, (at.is_part).in_order), sym e)

  pub IsPart-kept : (place number : ℕ) (part : Part) (kept : StoredSubstitution) → IsAt substitutions places place number part → kept ≡ get_or substitutions (part.start + number) kept → IsPart kept.start kept.end (length points)
  IsPart-kept place number part kept at e = is.of_points kept (Contains-kept place number part kept at e)

  pub slice_get-asked : (place number : ℕ) (part : Part) (kept : StoredSubstitution) → part ≡ get_or places place part → IsAt substitutions places place number part → kept ≡ get_or substitutions (part.start + number) kept → slice_get (substitutions_at (lists_of all places) place) number ≡ Some (substitution_of points kept)
  slice_get-asked place number part kept e at k =
      let within : part.start + number < length substitutions = omega (arith, at.below, (at.is_part).within, (at.is_part).in_order) in
      ap (λ xs. slice_get xs number) (substitutions_at-lists all places place part at.inside e)
      ∙ slice_get-get_or (place_of all part) number (substitution_of points kept) (omega (arith, at.below, length-place_of all part (part_within part at.is_part)))
      ∙ ap Some (get_or-take (part.end - part.start) (drop part.start all) number (substitution_of points kept) at.below
      ∙ get_or-drop part.start all number (substitution_of points kept)
      ∙ get_or-map (substitution_of points) substitutions (part.start + number) kept (substitution_of points kept) within
      ∙ ap (substitution_of points) (sym k))

  -- no substitution has more code points than the longest
  pub length-longest : (place : ℕ) (u : Substitution) → Contains (substitutions_at (lists_of all places) place) u → length u.points ≤ longest
  length-longest place u h = elim (cases_lt place (length places)) [
    | inl inside ↦
        let part : Part = get_or places place (record { start = 0; end = 0 }) in
        let e : part ≡ get_or places place part = get_or_default places place _ part inside in
        let listed : place < length (lists_of all places) = omega (arith, inside, length-map places (place_of all)) in
        let at = IsAt-asked place h.0 part listed h.1 e in
        let kept : StoredSubstitution = get_or substitutions (part.start + h.0) (record { covers = 0; kinds = 0; start = 0; end = 0 }) in
        let within : part.start + h.0 < length substitutions = omega (arith, at.below, (at.is_part).within, (at.is_part).in_order) in
        let k : kept ≡ get_or substitutions (part.start + h.0) kept = get_or_default substitutions (part.start + h.0) _ kept within in
        let same : u ≡ substitution_of points kept = some_same u (substitution_of points kept) (sym (slice_get-Contains (substitutions_at (lists_of all places) place) u h) ∙ slice_get-asked place h.0 part kept e at k) in
        let short = is.short kept (Contains-kept place h.0 part kept at k) in
        omega (arith, ap (λ x. length x.points) same, length-take (kept.end - kept.start) (drop kept.start points), short)
    | inr past ↦ absurd (
        let empty : length (substitutions_at (lists_of all places) place) ≡ 0 = ap length (get_or-eq_default (lists_of all places) [] (omega (arith, past, length-map places (place_of all)))) in
        omega (arith, h.1, empty))
  ]
