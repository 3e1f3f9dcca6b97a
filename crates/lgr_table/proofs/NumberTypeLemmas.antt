-- The numbers of types after the predefined ones.
use Rattle.std.proofs.Common.{◌≡◌, ℕ, zero, suc, ◌+◌, ◌<◌, ◌≤◌, inl, inr, Bool, true, false, cond, ltb, Option, Some, None, List, [], length, get_or, refl, sym, ap, subst, ◌∙◌, arith}
use Rattle.std.specs.Prelude.{slice_index_or}
use Rattle.std.specs.List.{position, position_or_len}
use Rattle.std.proofs.lemmas.Bool.{cases_lt, lt-ltb, le-ltb}
use Rattle.std.proofs.lemmas.List.Sums.{position_or_len_is}
use Rattle.ruleset_text.specs.Names.{predefined_types}
use Rattle.lgr_table.specs.Numbers.{is_same, number_among, types_with}

-- ---- places

pub position-found : {X : Type 0} (p : X → Bool) (xs : List X) (n : ℕ) (d : X) → n < length xs → ((k : ℕ) → k < n → p (get_or xs k d) ≡ false)
    → p (get_or xs n d) ≡ true → position p xs ≡ Some n
position-found p xs n d less before here =
    let is : position_or_len p xs ≡ n = position_or_len_is p xs n d (omega (arith, less)) before (λ _. here) in
    ap (λ k. cond (ltb k (length xs)) (Some k) None) is ∙ ap (λ b. cond b (Some n) None) (lt-ltb n (length xs) less)

pub position-none : {X : Type 0} (p : X → Bool) (xs : List X) (d : X) → ((k : ℕ) → k < length xs → p (get_or xs k d) ≡ false) → position p xs ≡ None
position-none p xs d none =
    let is : position_or_len p xs ≡ length xs = position_or_len_is p xs (length xs) d (omega arith) none (λ less. absurd (omega (arith, less))) in
    ap (λ k. cond (ltb k (length xs)) (Some k) None) is ∙ ap (λ b. cond b (Some (length xs)) None) (le-ltb (length xs) (length xs) (omega arith))

-- ---- types

-- the type of this number is none of those before
abbrev pub NoneBelow : List (Option (List ℕ)) → Option (List ℕ) → ℕ → Type 0
NoneBelow types t n = (k : ℕ) → k < n → is_same t (get_or (types_with types) k None) ≡ false

pub predefined_there : (types : List (Option (List ℕ))) (k : ℕ) → k < 5 → get_or (types_with types) k None ≡ Some (slice_index_or predefined_types k [])
predefined_there types zero less = refl
predefined_there types (suc zero) less = refl
predefined_there types (suc (suc zero)) less = refl
predefined_there types (suc (suc (suc zero))) less = refl
predefined_there types (suc (suc (suc (suc zero)))) less = refl
predefined_there types (suc (suc (suc (suc (suc k))))) less = absurd (omega (arith, less))

pub type_there : (types : List (Option (List ℕ))) (k n : ℕ) → n ≡ 5 + k → get_or (types_with types) n None ≡ get_or types k None
type_there types k n e =
    let more : n ≡ suc (suc (suc (suc (suc k)))) = omega (arith, e) in
    ap (λ i. get_or (types_with types) i None) more

pub none-below : (types : List (Option (List ℕ))) (t : Option (List ℕ)) (n : ℕ) → NoneBelow types t n → is_same t (get_or (types_with types) n None) ≡ false
    → NoneBelow types t (n + 1)
none-below types t n before here = λ k less. elim (cases_lt k n) [
  | inl below ↦ before k below
  | inr from ↦ subst (λ i. is_same t (get_or (types_with types) i None) ≡ false) (omega (arith, less, from)) here
]

pub number-found : (types : List (Option (List ℕ))) (t : Option (List ℕ)) (n : ℕ) → n < 5 + length types → NoneBelow types t n
    → is_same t (get_or (types_with types) n None) ≡ true → Some n ≡ number_among types t
number-found types t n less before here = sym (position-found (is_same t) (types_with types) n None (omega (arith, less)) before here)

pub number-none : (types : List (Option (List ℕ))) (t : Option (List ℕ)) (n : ℕ) → 5 + length types ≤ n → NoneBelow types t n → None ≡ number_among types t
number-none types t n all before =
    sym (position-none (is_same t) (types_with types) None (λ k less. before k (omega (arith, less, all))))

-- no predefined type is that of having none
pub untyped-below : (types : List (Option (List ℕ))) → NoneBelow types None 5
untyped-below types = λ k less. ap (is_same None) (predefined_there types k less)
