-- The shortest dead prefix: the shortest that breaks the direction, or hyphens third and fourth before it.
use Rattle.std.proofs.Common.{◌≡◌, ℕ, zero, suc, ◌<◌, ◌≤◌, ◌+◌, Bool, true, false, List, [], ◌∷◌, ◌++◌, length, take, drop, Option, Some, None, MatchOption, unwrap_or, min, slice_index, refl, sym, ap, subst, ◌∙◌, inl, inr, arith}
use Rattle.std.specs.Option.{is_some}
use Rattle.std.proofs.lemmas.Bool.{cases_lt, cases_order}
use Rattle.std.proofs.lemmas.List.{take_all, take_more, take-append-drop}
use Rattle.idn_class.specs.declared.direction.Direction.{Direction}
use Rattle.idn_class.specs.DeadPrefixes.{has_hyphens_third_and_fourth, hopeless, IsDeadPrefix, IsShortestDeadPrefix, HasNoDeadPrefix}
use Rattle.idn_class.specs.Directions.{IsShortest, HasNone, breaks_at_first, breaks_after, lengthened}
use Rattle.idn_class.proofs.DeadPrefixSteps.{Tells, Tells-longer, Tells-itself, breaks_at-last, breaks_after-nil, hyphens-few, hyphens-many, hyphens-short, hopeless-none, hopeless-breaks, hopeless-hyphens, hopeless-more}
use Rattle.idn_class.proofs.DeadPrefixTests.{hopeless-gives, hopeless-from}
use Rattle.idn_class.specs.declared.properties.Properties.{Properties}

module _ (properties : Properties) where
  -- ---- one code point more

  -- a beginning with the code point that follows it
  take_longer : (w : List ℕ) (i : ℕ) → i < length w → take (i + 1) w ≡ take i w ++ slice_index w i ∷ []
  take_longer w i within = take_more w i 0 within

  -- after the start, the first i code points lead to this direction, and keep the Bidi rule
  pub record HasKept (start : Direction) (rest : List ℕ) (i : ℕ) (d : Direction) : Type 0 where
    pub told : Tells properties start (take i rest) d
    pub kept : (k : ℕ) → k ≤ i → breaks_after properties start (take k rest) ≡ false

  pub HasKept-none : (start : Direction) (rest : List ℕ) → HasKept start rest 0 start
  HasKept-none start rest = record {
    told = λ w. refl;
    kept = λ k none. let zero : k ≡ 0 = omega arith in ap (λ n. breaks_after properties start (take n rest)) zero ∙ breaks_after-nil properties start;
  }

  pub HasKept-next : (start : Direction) (rest : List ℕ) (i : ℕ) (d e : Direction) → HasKept start rest i d → i < length rest → lengthened properties d (slice_index rest i) ≡ Some e → HasKept start rest (i + 1) e
  HasKept-next start rest i d e h within is =
      let told : Tells properties start (take (i + 1) rest) e = subst (λ front. Tells properties start front e) (sym (take_longer rest i within)) (Tells-longer properties start (take i rest) d e (slice_index rest i) h.told is) in
      record {
        told = told;
        kept = λ k few. elim (cases_order k (i + 1)) [
          | inl last ↦ ap (λ n. breaks_after properties start (take n rest)) last ∙ Tells-itself properties start (take (i + 1) rest) e told
          | inr other ↦ elim other [ inl less ↦ h.kept k (omega arith) | inr more ↦ absurd (omega arith) ]
        ];
      }

  pub IsShortest-here : (start : Direction) (rest : List ℕ) (i : ℕ) (d : Direction) → HasKept start rest i d → i < length rest → lengthened properties d (slice_index rest i) ≡ None → IsShortest (breaks_after properties start) rest (i + 1)
  IsShortest-here start rest i d h within is = record {
    within = omega arith;
    holds = ap (breaks_after properties start) (take_longer rest i within) ∙ breaks_at-last properties start (take i rest) d (slice_index rest i) h.told is;
    first = λ k less. h.kept k (omega arith);
  }

  pub HasNone-all : (start : Direction) (rest : List ℕ) (d : Direction) → HasKept start rest (length rest) d → HasNone (breaks_after properties start) rest
  HasNone-all start rest d h k = elim (cases_lt k (length rest)) [
    | inl less ↦ h.kept k (omega arith)
    | inr whole ↦ ap (breaks_after properties start) (take_all k rest whole ∙ sym (take_all (length rest) rest (omega arith))) ∙ h.kept (length rest) (omega arith)
  ]

  -- ---- no code point

  nothing_breaks : (k : ℕ) → breaks_at_first properties (take {A = ℕ} k []) ≡ false
  nothing_breaks zero = refl
  nothing_breaks (suc k) = refl

  pub HasNone-nil : HasNone (breaks_at_first properties) []
  HasNone-nil = nothing_breaks

  -- ---- with the hyphens

  hopeless-not : (w : List ℕ) → hopeless properties w ≡ false → ¬ IsDeadPrefix properties w
  hopeless-not w h is = let clash : true ≡ false = sym (hopeless-from properties w is) ∙ h in cc

  no_hyphens : (w : List ℕ) (k : ℕ) → has_hyphens_third_and_fourth w ≡ false → has_hyphens_third_and_fourth (take k w) ≡ false
  no_hyphens w k none = elim (cases_lt k 4) [
    | inl few ↦ hyphens-few properties w k few
    | inr many ↦ hyphens-many properties w k many ∙ none
  ]

  HasNoDeadPrefix-none : (w : List ℕ) → HasNone (breaks_at_first properties) w → has_hyphens_third_and_fourth w ≡ false → HasNoDeadPrefix properties w
  HasNoDeadPrefix-none w keeps none k = hopeless-not (take k w) (hopeless-none properties (take k w) (keeps k) (no_hyphens w k none))

  -- it breaks the direction before the fourth code point, or has no such hyphens
  IsShortestDeadPrefix-breaks : (w : List ℕ) (n : ℕ) → IsShortest (breaks_at_first properties) w n → ((k : ℕ) → k < n → has_hyphens_third_and_fourth (take k w) ≡ false) → IsShortestDeadPrefix properties w n
  IsShortestDeadPrefix-breaks w n s clear = record {
    within = s.within;
    holds = hopeless-gives properties (take n w) (hopeless-breaks properties (take n w) s.holds);
    first = λ k less. hopeless-not (take k w) (hopeless-none properties (take k w) (s.first k less) (clear k less));
  }

  IsShortestDeadPrefix-hyphens : (w : List ℕ) → has_hyphens_third_and_fourth w ≡ true → ((k : ℕ) → k < 4 → breaks_at_first properties (take k w) ≡ false) → IsShortestDeadPrefix properties w 4
  IsShortestDeadPrefix-hyphens w hyphens keeps = record {
    within = elim (cases_lt (length w) 4) [
      | inl few ↦ let clash : true ≡ false = sym hyphens ∙ hyphens-short properties w few in cc
      | inr many ↦ many
    ];
    holds = hopeless-gives properties (take 4 w) (hopeless-hyphens properties (take 4 w) (hyphens-many properties w 4 (omega arith) ∙ hyphens));
    first = λ k less. hopeless-not (take k w) (hopeless-none properties (take k w) (keeps k less) (hyphens-few properties w k less));
  }

  -- ---- a label is dead where one of its beginnings is

  no_true : (b : Bool) → ¬ (b ≡ true) → b ≡ false
  no_true true h = absurd (h refl)
  no_true false h = refl

  pub is_some-hopeless : (w : List ℕ) (shortest : Option ℕ) → MatchOption shortest (HasNoDeadPrefix properties w) (IsShortestDeadPrefix properties w) → is_some shortest ≡ hopeless properties w
  is_some-hopeless w None alive =
      sym (no_true (hopeless properties w) (λ h. alive (length w) (subst (IsDeadPrefix properties) (sym (take_all (length w) w (omega arith))) (hopeless-gives properties w h))))
  is_some-hopeless w (Some n) s =
      sym (ap (hopeless properties) (sym (take-append-drop n w)) ∙ hopeless-more properties (take n w) (drop n w) (hopeless-from properties (take n w) s.holds))

  -- ---- the lesser of the two

  pub shortest-without : (w : List ℕ) (o : Option ℕ) → MatchOption o (HasNone (breaks_at_first properties) w) (IsShortest (breaks_at_first properties) w) → has_hyphens_third_and_fourth w ≡ false → MatchOption o (HasNoDeadPrefix properties w) (IsShortestDeadPrefix properties w)
  shortest-without w None keeps none = HasNoDeadPrefix-none w keeps none
  shortest-without w (Some n) s none = IsShortestDeadPrefix-breaks w n s (λ k less. no_hyphens w k none)

  pub shortest-with : (w : List ℕ) (o : Option ℕ) → MatchOption o (HasNone (breaks_at_first properties) w) (IsShortest (breaks_at_first properties) w) → has_hyphens_third_and_fourth w ≡ true → IsShortestDeadPrefix properties w (min (unwrap_or o 4) 4)
  shortest-with w None keeps hyphens =
      let same : 4 ≡ min 4 4 = omega arith in
      subst (IsShortestDeadPrefix properties w) same (IsShortestDeadPrefix-hyphens w hyphens (λ k less. keeps k))
  shortest-with w (Some n) s hyphens = elim (cases_lt n 4) [
    | inl few ↦
        let same : n ≡ min n 4 = omega (arith, few) in
        subst (IsShortestDeadPrefix properties w) same (IsShortestDeadPrefix-breaks w n s (λ k less. hyphens-few properties w k (omega arith)))
    | inr many ↦
        let same : 4 ≡ min n 4 = omega (arith, many) in
        subst (IsShortestDeadPrefix properties w) same (IsShortestDeadPrefix-hyphens w hyphens (λ k less. s.first k (omega arith)))
  ]
