-- The substitutions of a label as they are found.
use Rattle.std.proofs.Common.{◌≡◌, ℕ, ◌+◌, ◌-◌, ◌≤◌, inl, inr, List, [], ◌∷◌, ◌++◌, length, get_or, take, drop, sym, ap, ◌∙◌, subst, refl, arith, length-drop, length-append}
use Rattle.std.specs.Prelude.{Contains, map, suc, zero, max}
use Rattle.std.proofs.Math.Seq.{take-length, drop-append_seam}
use Rattle.std.proofs.lemmas.List.{length-map, map-append, drop-append-le, take-append-le}
use Rattle.std.proofs.lemmas.List.Elements.{Contains-append_cases}
use Rattle.reading_kinds.specs.Readings.{Substitution}
use Rattle.reading_kinds.specs.Drafts.{Draft}
use Rattle.reading_kinds.specs.inner.Kept.{substitution_of, place_of, lists_of, IsPart, IsKept}
use Rattle.reading_kinds.specs.declared.label_substitutions.Part.{Part}
use Rattle.reading_kinds.specs.declared.label_substitutions.StoredSubstitution.{StoredSubstitution}

map_same : {A B : Type 0} → (f g : A → B) (xs : List A) → ((x : A) → Contains xs x → f x ≡ g x) → map f xs ≡ map g xs
map_same f g [] same = refl
map_same f g (x ∷ xs) same =
    ap (λ y. y ∷ map f xs) (same x (zero, omega arith, refl))
    ∙ ap (λ ys. g x ∷ ys) (map_same f g xs (λ y h. same y (suc h.0, omega (arith, h.1), h.2)))

only_one : {A : Type 0} → (x y : A) → Contains (x ∷ []) y → y ≡ x
only_one x y h =
    let first : h.0 ≡ 0 = omega (arith, h.1) in
    sym h.2 ∙ ap (λ n. get_or (x ∷ []) n y) first

module _ (points : List ℕ) (substitutions : List StoredSubstitution) (places : List Part) (longest : ℕ) (is : IsKept points substitutions places longest) where
  pub IsKept-points : (more : List ℕ) → IsKept (points ++ more) substitutions places longest
  IsKept-points more = record {
    of_substitutions = is.of_substitutions;
    of_points = λ u h. let p = is.of_points u h in record { in_order = p.in_order; within = omega (arith, p.within, length-append points more) };
    short = is.short;
  }

  pub IsKept-substitution : (u : StoredSubstitution) (now_longest : ℕ) → IsPart u.start u.end (length points) → longest ≤ now_longest → u.end - u.start ≤ now_longest → IsKept points (substitutions ++ u ∷ []) places now_longest
  IsKept-substitution u now_longest part rises short = record {
    of_substitutions = λ p h. let q = is.of_substitutions p h in record { in_order = q.in_order; within = omega (arith, q.within, length-append substitutions (u ∷ [])) };
    of_points = λ v h. elim (Contains-append_cases substitutions (u ∷ []) v h) [
      | inl old ↦ is.of_points v old
      | inr new ↦ subst (λ x. IsPart x.start x.end (length points)) (sym (only_one u v new)) part
    ];
    short = λ v h. elim (Contains-append_cases substitutions (u ∷ []) v h) [
      | inl old ↦ let s = is.short v old in omega (arith, s, rises)
      | inr new ↦ subst (λ x. x.end - x.start ≤ now_longest) (sym (only_one u v new)) short
    ];
  }

  pub IsKept-place : (part : Part) → IsPart part.start part.end (length substitutions) → IsKept points substitutions (places ++ part ∷ []) longest
  IsKept-place part at = record {
    of_substitutions = λ p h. elim (Contains-append_cases places (part ∷ []) p h) [
      | inl old ↦ is.of_substitutions p old
      | inr new ↦ subst (λ x. IsPart x.start x.end (length substitutions)) (sym (only_one part p new)) at
    ];
    of_points = is.of_points;
    short = is.short;
  }

  -- more code points change no substitution
  pub substitutions-points : (more : List ℕ) → map (substitution_of (points ++ more)) substitutions ≡ map (substitution_of points) substitutions
  substitutions-points more = map_same (substitution_of (points ++ more)) (substitution_of points) substitutions (λ u h.
      let p = is.of_points u h in
      let room : u.end - u.start ≤ length (drop u.start points) = omega (arith, p.in_order, p.within, length-drop u.start points) in
      ap (λ xs. record { covers = u.covers; kinds = u.kinds; points = xs })
      (ap (take (u.end - u.start)) (drop-append-le u.start points more (omega (arith, p.in_order, p.within))) ∙ take-append-le (u.end - u.start) (drop u.start points) more room))

  -- more substitutions change no place
  pub lists-more : (more : List Substitution) → lists_of (map (substitution_of points) substitutions ++ more) places ≡ lists_of (map (substitution_of points) substitutions) places
  lists-more more = map_same (place_of (map (substitution_of points) substitutions ++ more)) (place_of (map (substitution_of points) substitutions)) places (λ part h.
      let p = is.of_substitutions part h in
      let all : List Substitution = map (substitution_of points) substitutions in
      let size : length all ≡ length substitutions = length-map substitutions (substitution_of points) in
      let room : part.end - part.start ≤ length (drop part.start all) = omega (arith, p.in_order, p.within, size, length-drop part.start all) in
      ap (take (part.end - part.start)) (drop-append-le part.start all more (omega (arith, p.in_order, p.within, size))) ∙ take-append-le (part.end - part.start) (drop part.start all) more room)

-- what contracts see of a draft
abbrev pub draft_of : List ℕ → List StoredSubstitution → List Part → ℕ → Draft
draft_of points substitutions places start = record { done = lists_of (map (substitution_of points) substitutions) places; begun = drop start (map (substitution_of points) substitutions) }

module _ (points : List ℕ) (substitutions : List StoredSubstitution) (places : List Part) (longest start : ℕ) (is : IsKept points substitutions places longest) (within : start ≤ length substitutions) where
  -- code points were added, and perhaps no substitution
  pub IsKept-begun : (more new_points : List ℕ) (new_substitutions : List StoredSubstitution) → new_points ≡ points ++ more → new_substitutions ≡ substitutions → IsKept new_points new_substitutions places longest × (start ≤ length new_substitutions)
  IsKept-begun more new_points new_substitutions p u =
      (subst (λ x. IsKept x new_substitutions places longest) (sym p) (subst (λ y. IsKept (points ++ more) y places longest) (sym u) (IsKept-points points substitutions places longest is more)), omega (arith, within, ap length u))

  module _ (covers kinds from to : ℕ) (more new_points : List ℕ) (new_substitutions : List StoredSubstitution) (is_points : new_points ≡ points ++ more) (is_substitutions : new_substitutions ≡ substitutions ++ record { covers = covers; kinds = kinds; start = from; end = to } ∷ []) (is_from : from ≡ length points) (is_to : to ≡ length new_points) where
    count_is : to ≡ from + length more
    count_is = omega (arith, is_to, is_from, ap length is_points, length-append points more)

    pub IsKept-added : (now_longest : ℕ) → now_longest ≡ max longest (length more) → IsKept new_points new_substitutions places now_longest × (start ≤ length new_substitutions)
    IsKept-added now_longest l =
        let part : IsPart from to (length new_points) = record { in_order = omega (arith, count_is); within = omega (arith, is_to) } in
        let kept : IsKept new_points substitutions places longest = subst (λ x. IsKept x substitutions places longest) (sym is_points) (IsKept-points points substitutions places longest is more) in (
          subst (λ y. IsKept new_points y places now_longest) (sym is_substitutions) (IsKept-substitution new_points substitutions places longest kept (record { covers = covers; kinds = kinds; start = from; end = to }) now_longest part (omega (arith, l)) (omega (arith, l, count_is))),
          omega (arith, within, ap length is_substitutions, length-append substitutions (record { covers = covers; kinds = kinds; start = from; end = to } ∷ [])),
        )

    substitution_is : substitution_of new_points (record { covers = covers; kinds = kinds; start = from; end = to }) ≡ record { covers = covers; kinds = kinds; points = more }
    substitution_is =
        let rest : drop from new_points ≡ more = ap (λ n. drop n new_points) is_from ∙ ap (drop (length points)) is_points ∙ drop-append_seam points more in
        let count : to - from ≡ length more = omega (arith, count_is) in
        ap (λ xs. record { covers = covers; kinds = kinds; points = xs }) (ap (take (to - from)) rest ∙ ap (λ n. take n more) count ∙ take-length more)

    all_is : map (substitution_of new_points) new_substitutions ≡ map (substitution_of points) substitutions ++ record { covers = covers; kinds = kinds; points = more } ∷ []
    all_is =
        ap (map (substitution_of new_points)) is_substitutions
        ∙ map-append (substitution_of new_points) substitutions (record { covers = covers; kinds = kinds; start = from; end = to } ∷ [])
        ∙ ap (λ x. map (substitution_of new_points) substitutions ++ x ∷ []) substitution_is
        ∙ ap (λ xs. xs ++ record { covers = covers; kinds = kinds; points = more } ∷ []) (ap (λ ps. map (substitution_of ps) substitutions) is_points ∙ substitutions-points points substitutions places longest is more)

    pub draft_of-added : draft_of new_points new_substitutions places start ≡ record { done = lists_of (map (substitution_of points) substitutions) places; begun = drop start (map (substitution_of points) substitutions) ++ record { covers = covers; kinds = kinds; points = more } ∷ [] }
    draft_of-added =
        let u : Substitution = record { covers = covers; kinds = kinds; points = more } in
        let all : List Substitution = map (substitution_of points) substitutions in
        let size : length all ≡ length substitutions = length-map substitutions (substitution_of points) in
        ap (λ xs. record { done = lists_of xs places; begun = drop start xs }) all_is
        ∙ ap (λ d. record { done = d; begun = drop start (all ++ u ∷ []) }) (lists-more points substitutions places longest is (u ∷ []))
        ∙ ap (λ b. record { done = lists_of all places; begun = b }) (drop-append-le start all (u ∷ []) (omega (arith, within, size)))

  -- the place was ended
  pub IsKept-ended : (new_places : List Part) (end : ℕ) → end ≡ length substitutions → new_places ≡ places ++ record { start = start; end = end } ∷ [] → IsKept points substitutions new_places longest × (end ≤ length substitutions)
  IsKept-ended new_places end e p =
      (subst (λ x. IsKept points substitutions x longest) (sym p) (IsKept-place points substitutions places longest is (record { start = start; end = end }) (record { in_order = omega (arith, e, within); within = omega (arith, e) })), omega (arith, e))
