-- The substitutions of a place, one after the other.
use Rattle.std.proofs.Common.{◌≡◌, ◌≢◌, ℕ, ◌+◌, ◌-◌, ◌<◌, ◌≤◌, ◌⊎◌, inl, inr, List, length, get_or, take, drop, sym, ap, ◌∙◌, subst, refl, arith}
use Rattle.std.specs.Prelude.{Contains, Some, slice_get, unwrap_or, bytes_eq, true, false, min}
use Rattle.std.proofs.lemmas.List.{length-take-le, length-drop}
use Rattle.std.proofs.lemmas.Slice.Eq.{bytes_eq-Decides}
use Rattle.std.proofs.lemmas.Option.{slice_get-get_or, slice_get_within}
use Rattle.std.specs.Int.{bit_at, bit_not, w64, trailing_zeros}
use Rattle.std.specs.Prelude.{bit_and}
use Rattle.std.proofs.Common.{◌^◌, ◌*◌, ◌%◌}
use Rattle.std.proofs.lemmas.Nat.{and_le_l}
use Rattle.std.proofs.lemmas.Nat.Bits.{bit_at-trailing_zeros, bit_at-zero, bit_at_clear_same, bit_at_clear_other}
use Rattle.reading_kinds.specs.Readings.{Substitution, substitutions_at}
use Rattle.reading_kinds.specs.inner.Cells.{Cells, Tells, LeadsTo, IsRightAt, IsRight}
use Rattle.reading_kinds.specs.inner.Cuts.{AllFit}
use Rattle.reading_kinds.specs.inner.Columns.{Clears, AddsAfter, EndsWith, HasTaken, Grows, IsSoundAt}
use Rattle.reading_kinds.specs.inner.Cells.Mark.{Reached}
use Rattle.reading_kinds.proofs.CellLemmas.{same_or_not}
use Rattle.reading_kinds.proofs.ColumnLemmas.{SomeLeads-after, IsRight-grows, TellsAfter-same, HasTaken-grows, Grows-refl, Grows-trans}

pub some_same : {X : Type 0} → (x y : X) → Some x ≡ Some y → x ≡ y
some_same x y e = ap (λ o. unwrap_or o x) e

pub Contains-slice_get : {X : Type 0} → (xs : List X) (k : ℕ) (x : X) → slice_get xs k ≡ Some x → Contains xs x
Contains-slice_get xs k x e =
    let l = slice_get_within xs k x e in
    (k, l, some_same (get_or xs k x) x (sym (slice_get-get_or xs k x l) ∙ e))

pub slice_get-Contains : {X : Type 0} → (xs : List X) (x : X) → (h : Contains xs x) → slice_get xs h.0 ≡ Some x
slice_get-Contains xs x h = slice_get-get_or xs h.0 x h.1 ∙ ap Some h.2

-- what a substitution adds is more
pub Grows-after : (old new : Cells) (from_column from_place kinds column place : ℕ) → AddsAfter old new from_column from_place kinds column place → new.size ≡ old.size → Grows old new column
Grows-after old new from_column from_place kinds column place adds size = record {
  others = λ c other p m. (
    λ h. elim ((adds c p m).0 h) [ inl o ↦ o | inr a ↦ absurd (other a.0) ],
    λ h. (adds c p m).1 (inl h),
  );
  more = λ p m h. (adds column p m).1 (inl h);
  size = size;
}

module _ (substitutions : List (List Substitution)) (w : List ℕ) (now new : Cells) (column place : ℕ) (u : Substitution) (there : Contains (substitutions_at substitutions place) u) (some : 1 ≤ length u.points) (ends : EndsWith w column u.points) (adds : AddsAfter now new (column - length u.points) place u.kinds column (place + u.covers)) (size : new.size ≡ now.size) where
  pub IsSoundAt-after : IsRight substitutions w now (column - 1) → Tells now (column - length u.points) place Reached → IsSoundAt substitutions w now column → IsSoundAt substitutions w new column
  IsSoundAt-after right at sound p m h = elim ((adds column p m).0 h) [
    | inl o ↦ sound p m o
    | inr a ↦
        let right_before : IsRightAt substitutions w now (column - length u.points) = right (column - length u.points) (omega (arith, some)) in
        let led = SomeLeads-after substitutions w now column place u there ends right_before at m a.2 in
        (led.0, subst (λ x. LeadsTo substitutions x (take column w) led.0) (sym a.1) led.1, led.2)
  ]

  pub HasTaken-after : HasTaken w new column place u
  HasTaken-after again at m after =
      let apart : column - length u.points ≢ column = λ e. omega (arith, some, ends.0, e) in
      let grows = Grows-after now new (column - length u.points) place u.kinds column (place + u.covers) adds size in
      (adds column (place + u.covers) m).1 (inr (refl, refl, TellsAfter-same new now (column - length u.points) place u.kinds (λ n h. (grows.others (column - length u.points) apart place n).0 h) m after))

-- the substitutions before this number at the place have been taken, as far as they have so many code points
pub record TakenUpTo (substitutions : List (List Substitution)) (w : List ℕ) (first now : Cells) (column count place upto : ℕ) : Type 0 where
  pub grows : Grows first now column
  pub sound : IsSoundAt substitutions w now column
  pub taken : (k : ℕ) (u : Substitution) → k < upto → slice_get (substitutions_at substitutions place) k ≡ Some u → length u.points ≡ count → HasTaken w now column place u

module _ (substitutions : List (List Substitution)) (w : List ℕ) (first : Cells) (column count place : ℕ) (some : 1 ≤ count) (enough : count ≤ column) (right : IsRight substitutions w first (column - 1)) (at : Tells first (column - count) place Reached) where
  pub TakenUpTo-start : IsSoundAt substitutions w first column → TakenUpTo substitutions w first first column count place 0
  TakenUpTo-start sound = record { grows = Grows-refl first column; sound = sound; taken = λ k u l. absurd (omega (arith, l)) }

  pub TakenUpTo-reached : (now : Cells) (upto : ℕ) → TakenUpTo substitutions w first now column count place upto → Tells now (column - count) place Reached
  TakenUpTo-reached now upto so_far =
      let apart : column - count ≢ column = λ e. omega (arith, some, enough, e) in
      ((so_far.grows).others (column - count) apart place Reached).1 at

  -- the next substitution is taken
  pub TakenUpTo-add : (now new : Cells) (number : ℕ) (u : Substitution) → slice_get (substitutions_at substitutions place) number ≡ Some u → length u.points ≡ count → EndsWith w column u.points → AddsAfter now new (column - count) place u.kinds column (place + u.covers) → new.size ≡ now.size → TakenUpTo substitutions w first now column count place number → TakenUpTo substitutions w first new column count place (number + 1)
  TakenUpTo-add now new number u is counted ends adds size so_far =
      let adds_same : AddsAfter now new (column - length u.points) place u.kinds column (place + u.covers) = subst (λ n. AddsAfter now new (column - n) place u.kinds column (place + u.covers)) (sym counted) adds in
      let reached : Tells now (column - length u.points) place Reached = subst (λ n. Tells now (column - n) place Reached) (sym counted) (TakenUpTo-reached now number so_far) in
      let filled : 1 ≤ length u.points = omega (arith, some, counted) in
      let there : Contains (substitutions_at substitutions place) u = Contains-slice_get (substitutions_at substitutions place) number u is in
      let grows : Grows now new column = Grows-after now new (column - length u.points) place u.kinds column (place + u.covers) adds_same size in
      record {
        grows = Grows-trans first now new column so_far.grows grows;
        sound = IsSoundAt-after substitutions w now new column place u there filled ends adds_same size (IsRight-grows substitutions w first now column (omega (arith, some, enough)) so_far.grows right) reached so_far.sound;
        taken = λ k v l is_v counted_v. elim (same_or_not k number) [
          | inl same ↦
              let one : v ≡ u = some_same v u (sym is_v ∙ ap (slice_get (substitutions_at substitutions place)) same ∙ is) in
              subst (λ x. HasTaken w new column place x) (sym one) (HasTaken-after substitutions w now new column place u there filled ends adds_same size)
          | inr other ↦ HasTaken-grows w now new column place v (omega (arith, some, counted_v)) grows (so_far.taken k v (omega (arith, l, other)) is_v counted_v)
        ];
      }

  -- the next substitution doesn't stand at the end
  pub TakenUpTo-skip : (now : Cells) (number : ℕ) (u : Substitution) → slice_get (substitutions_at substitutions place) number ≡ Some u → (length u.points ≡ count → EndsWith w column u.points → ⊥) → TakenUpTo substitutions w first now column count place number → TakenUpTo substitutions w first now column count place (number + 1)
  TakenUpTo-skip now number u is apart so_far = record {
    grows = so_far.grows;
    sound = so_far.sound;
    taken = λ k v l is_v counted_v. elim (same_or_not k number) [
      | inl same ↦
          let one : v ≡ u = some_same v u (sym is_v ∙ ap (slice_get (substitutions_at substitutions place)) same ∙ is) in
          (λ ends. absurd (apart (ap (λ x. length x.points) (sym one) ∙ counted_v) (subst (λ x. EndsWith w column x.points) one ends)))
      | inr other ↦ so_far.taken k v (omega (arith, l, other)) is_v counted_v
    ];
  }

  -- all have been taken
  pub TakenUpTo-all : (now : Cells) (u : Substitution) → TakenUpTo substitutions w first now column count place (length (substitutions_at substitutions place)) → Contains (substitutions_at substitutions place) u → length u.points ≡ count → HasTaken w now column place u
  TakenUpTo-all now u so_far there counted = so_far.taken there.0 u there.1 (slice_get-Contains (substitutions_at substitutions place) u there) counted

-- the test of the code points that stand at the end
module _ (w points : List ℕ) (column count : ℕ) (enough : count ≤ column) (within : column ≤ length w) where
  as_many : column - (column - count) ≡ count
  as_many = omega (arith, enough)

  pub EndsWith-equal : bytes_eq points (take (column - (column - count)) (drop (column - count) w)) ≡ true → (length points ≡ count) × EndsWith w column points
  EndsWith-equal test =
      let same : points ≡ take count (drop (column - count) w) = (bytes_eq-Decides _ _).0 test ∙ ap (λ n. take n (drop (column - count) w)) as_many in
      let counted : length points ≡ count = ap length same ∙ length-take-le count (drop (column - count) w) (omega (arith, length-drop (column - count) w, enough, within)) in
      (counted, (omega (arith, counted, enough), ap (λ n. take n (drop (column - n) w)) counted ∙ sym same))

  pub EndsWith-unequal : bytes_eq points (take (column - (column - count)) (drop (column - count) w)) ≡ false → length points ≡ count → EndsWith w column points → ⊥
  EndsWith-unequal test counted ends =
      let same : points ≡ take (column - (column - count)) (drop (column - count) w) =
      sym ends.1 ∙ ap (λ n. take n (drop (column - n) w)) counted ∙ ap (λ n. take n (drop (column - count) w)) (sym as_many) in
      let clash : true ≡ false = sym ((bytes_eq-Decides _ _).1 same) ∙ test in cc

-- the substitutions of so many code points have been taken, but for those at places of which the bit is left
pub record PlacesTaken (substitutions : List (List Substitution)) (w : List ℕ) (first now : Cells) (column count left : ℕ) : Type 0 where
  pub grows : Grows first now column
  pub sound : IsSoundAt substitutions w now column
  pub ahead : (p : ℕ) → p < 64 → bit_at left p ≡ 1 → Tells now (column - count) p Reached
  pub taken : (p : ℕ) (u : Substitution) → Contains (substitutions_at substitutions p) u → length u.points ≡ count → (bit_at left p ≡ 1) ⊎ HasTaken w now column p u

module _ (substitutions : List (List Substitution)) (w : List ℕ) (first : Cells) (column count : ℕ) (some : 1 ≤ count) (enough : count ≤ column) (small : column < first.size.columns) (are : AllFit substitutions) (wide : length substitutions ≤ 63) where
  pub PlacesTaken-start : (left : ℕ) → left ≡ get_or first.reached (column - count) 0 → IsSoundAt substitutions w first column → PlacesTaken substitutions w first first column count left
  PlacesTaken-start left read sound = record {
    grows = Grows-refl first column;
    sound = sound;
    ahead = λ p l b. record { column_in_range = omega (arith, small); place_in_range = l; reached = ap (λ x. bit_at x p) (sym read) ∙ b; words = tt };
    taken = λ p u there counted. elim (same_or_not (bit_at left p) 1) [
      | inl one ↦ inl one
      | inr other ↦ inr (λ ends at. absurd (other (ap (λ x. bit_at x p) read ∙ (subst (λ n. Tells first (column - n) p Reached) counted at).reached)))
    ];
  }

  module _ (left : ℕ) (nonzero : 0 < left) (fits : left < 2 ^ 64) where
    abbrev pub lowest : ℕ
    lowest = trailing_zeros w64 left

    abbrev pub rest : ℕ
    rest = bit_and left (bit_not w64 (1 * 2 ^ lowest % 2 ^ 64))

    pub lowest_is : (lowest < 64) × (bit_at left lowest ≡ 1)
    lowest_is = let z = bit_at-trailing_zeros w64 left nonzero fits in (z.0, z.1)

    pub rest_less : rest < left
    rest_less =
        let at : bit_at rest lowest ≡ 0 = bit_at_clear_same w64 left lowest lowest_is.0 in
        let differs : rest ≢ left = λ e. (let o = ap (λ x. bit_at x lowest) e ∙ lowest_is.1 in omega (arith, at, o)) in
        omega (arith, and_le_l left (bit_not w64 (1 * 2 ^ lowest % 2 ^ 64)), differs)

    rest_bit : (p : ℕ) → p < 64 → bit_at rest p ≡ 1 → bit_at left p ≡ 1
    rest_bit p l b = elim (same_or_not p lowest) [
      | inl same ↦ absurd (let z = ap (bit_at rest) same ∙ bit_at_clear_same w64 left lowest lowest_is.0 in omega (arith, z, b))
      | inr other ↦ sym (bit_at_clear_other w64 left lowest lowest_is.0 p l other) ∙ b
    ]

    below : (p : ℕ) (u : Substitution) → Contains (substitutions_at substitutions p) u → p < length substitutions
    below p u there = let is = are p u there in omega (arith, is.within, is.covers)

    pub PlacesTaken-place : (now new : Cells) → Grows now new column → IsSoundAt substitutions w new column → ((u : Substitution) → Contains (substitutions_at substitutions lowest) u → length u.points ≡ count → HasTaken w new column lowest u) → PlacesTaken substitutions w first now column count left → PlacesTaken substitutions w first new column count rest
    PlacesTaken-place now new grows sound here so_far = record {
      grows = Grows-trans first now new column so_far.grows grows;
      sound = sound;
      ahead = λ p l b. (grows.others (column - count) (λ e. omega (arith, some, enough, e)) p Reached).1 (so_far.ahead p l (rest_bit p l b));
      taken = λ p u there counted. elim (same_or_not p lowest) [
        | inl same ↦ inr (subst (λ x. HasTaken w new column x u) (sym same) (here u (subst (λ x. Contains (substitutions_at substitutions x) u) same there) counted))
        | inr other ↦ elim (so_far.taken p u there counted) [
          | inl one ↦ let inside = below p u there in inl (bit_at_clear_other w64 left lowest lowest_is.0 p (omega (arith, inside, wide)) other ∙ one)
          | inr done ↦ inr (HasTaken-grows w now new column p u (omega (arith, some, counted)) grows done)
        ]
      ];
    }

    pub PlacesTaken-skip : (now : Cells) → (lowest < length substitutions → ⊥) → PlacesTaken substitutions w first now column count left → PlacesTaken substitutions w first now column count rest
    PlacesTaken-skip now past so_far =
        PlacesTaken-place now now (Grows-refl now column) so_far.sound (λ u there counted. absurd (past (below lowest u there))) so_far

  pub PlacesTaken-all : (now : Cells) (left p : ℕ) (u : Substitution) → left ≡ 0 → PlacesTaken substitutions w first now column count left → Contains (substitutions_at substitutions p) u → length u.points ≡ count → HasTaken w now column p u
  PlacesTaken-all now left p u none so_far there counted = elim (so_far.taken p u there counted) [
    | inl one ↦ absurd (let z = ap (λ x. bit_at x p) none ∙ bit_at-zero p in omega (arith, z, one))
    | inr done ↦ done
  ]

-- the substitutions of fewer code points than this have been taken
pub record CountsTaken (substitutions : List (List Substitution)) (w : List ℕ) (first now : Cells) (column upto : ℕ) : Type 0 where
  pub grows : Grows first now column
  pub sound : IsSoundAt substitutions w now column
  pub taken : (p : ℕ) (u : Substitution) → Contains (substitutions_at substitutions p) u → length u.points < upto → HasTaken w now column p u

module _ (substitutions : List (List Substitution)) (w : List ℕ) (first : Cells) (column : ℕ) (are : AllFit substitutions) where
  pub CountsTaken-start : IsSoundAt substitutions w first column → CountsTaken substitutions w first first column 1
  CountsTaken-start sound = record { grows = Grows-refl first column; sound = sound; taken = λ p u there l. absurd (let some = (are p u there).some in omega (arith, l, some)) }

  pub CountsTaken-count : (now new : Cells) (count : ℕ) → Grows now new column → IsSoundAt substitutions w new column → ((p : ℕ) (u : Substitution) → Contains (substitutions_at substitutions p) u → length u.points ≡ count → HasTaken w new column p u) → CountsTaken substitutions w first now column count → CountsTaken substitutions w first new column (count + 1)
  CountsTaken-count now new count grows sound here so_far = record {
    grows = Grows-trans first now new column so_far.grows grows;
    sound = sound;
    taken = λ p u there l. elim (same_or_not (length u.points) count) [
      | inl same ↦ here p u there same
      | inr other ↦ HasTaken-grows w now new column p u (are p u there).some grows (so_far.taken p u there (omega (arith, l, other)))
    ];
  }

  -- all have been taken
  pub CountsTaken-all : (now : Cells) (longest upto : ℕ) → upto ≡ min longest column + 1 → ((p : ℕ) (u : Substitution) → Contains (substitutions_at substitutions p) u → length u.points ≤ longest) → CountsTaken substitutions w first now column upto → (p : ℕ) (u : Substitution) → Contains (substitutions_at substitutions p) u → HasTaken w now column p u
  CountsTaken-all now longest upto is long so_far p u there ends =
      so_far.taken p u there (omega (arith, is, ends.0, long p u there)) ends

-- a column that was cleared
module _ (substitutions : List (List Substitution)) (w : List ℕ) (old new : Cells) (column : ℕ) (clears : Clears old new column) where
  pub IsSoundAt-cleared : IsSoundAt substitutions w new column
  IsSoundAt-cleared p m h = absurd (((clears column p m).0 h).0 refl)

  pub IsRight-cleared : 1 ≤ column → IsRight substitutions w old (column - 1) → IsRight substitutions w new (column - 1)
  IsRight-cleared some right c l p m = (
    λ h. (right c l p m).0 ((clears c p m).0 h).1,
    λ h. (clears c p m).1 ((λ e. omega (arith, some, l, e)), (right c l p m).1 h),
  )
