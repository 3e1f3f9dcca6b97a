-- The numbers of names among names.
use Rattle.std.proofs.Common.{◌≡◌, ◌≢◌, ℕ, zero, suc, ◌+◌, ◌<◌, Bool, true, false, not, cond, List, [], ◌∷◌, ◌++◌, length, get_or, refl, ap, arith}
use Rattle.std.specs.Prelude.{bytes_eq}
use Rattle.std.specs.List.{AllPairs}
use Rattle.std.proofs.lemmas.Bool.{false_from_ne_true}
use Rattle.std.proofs.lemmas.List.Sums.{passes_at_first, position_or_len_is}
use Rattle.std.proofs.lemmas.Slice.Eq.{bytes_eq-Decides}
use Rattle.ruleset_text.specs.Names.{number_of}

-- the name at the number
pub name-there : (names : List (List ℕ)) (name : List ℕ) → number_of names name < length names → get_or names (number_of names name) [] ≡ name
unfolding number_of
name-there names name less =
    (bytes_eq-Decides (get_or names (number_of names name) []) name).0 (passes_at_first (λ other. bytes_eq other name) names [] less)

-- further names change no number of a name that is there
pub number-stays : (names more : List (List ℕ)) (name : List ℕ) → number_of names name < length names
    → number_of (names ++ more) name ≡ number_of names name
unfolding number_of
number-stays [] more name less = absurd (omega (arith, less))
number-stays (x ∷ names) more name less = by (bytes_eq x name) less (number-stays names more name)
  where
    by : (b : Bool) → cond (not b) (1 + number_of names name) 0 < length (x ∷ names)
        → (number_of names name < length names → number_of (names ++ more) name ≡ number_of names name)
        → cond (not b) (1 + number_of (names ++ more) name) 0 ≡ cond (not b) (1 + number_of names name) 0
    by true less rest = refl
    by false less rest = ap (λ n. 1 + n) (rest (omega (arith, less)))

-- a name that none of them is follows them
pub number-new : (names : List (List ℕ)) (name : List ℕ) → ((k : ℕ) → k < length names → get_or names k [] ≢ name)
    → number_of (names ++ name ∷ []) name ≡ length names
unfolding number_of
number-new [] name new = by (bytes_eq name name) ((bytes_eq-Decides name name).1 refl)
  where
    by : (b : Bool) → b ≡ true → cond (not b) (1 + number_of [] name) 0 ≡ 0
    by true e = refl
    by false e = absurd (cc)
number-new (x ∷ names) name new =
    by (bytes_eq x name) refl (number-new names name (λ k less. new (suc k) (omega (arith, less))))
  where
    by : (b : Bool) → bytes_eq x name ≡ b → number_of (names ++ name ∷ []) name ≡ length names
        → cond (not b) (1 + number_of (names ++ name ∷ []) name) 0 ≡ length (x ∷ names)
    by true e rest = absurd (new 0 (omega arith) ((bytes_eq-Decides x name).0 e))
    by false e rest = omega (arith, rest)

-- where no name stands twice, each is at its number
pub number-at : (names : List (List ℕ)) (k : ℕ) → AllPairs (λ a b. a ≢ b) names → k < length names → number_of names (get_or names k []) ≡ k
unfolding number_of
number-at names k apart less =
    let name = get_or names k [] in
    position_or_len_is (λ other. bytes_eq other name) names k [] (omega (arith, less))
    (λ j before. false_from_ne_true (bytes_eq (get_or names j []) name)
    (λ same. apart j k [] before less ((bytes_eq-Decides (get_or names j []) name).0 same)))
    (λ within. (bytes_eq-Decides name name).1 refl)

-- a name that stands at a place has a number
pub number-found : (names : List (List ℕ)) (k : ℕ) (name : List ℕ) → k < length names → get_or names k [] ≡ name → number_of names name < length names
unfolding number_of
number-found [] k name less is = absurd (omega (arith, less))
number-found (x ∷ names) zero name less is = by (bytes_eq x name) ((bytes_eq-Decides x name).1 is)
  where
    by : (b : Bool) → b ≡ true → cond (not b) (1 + number_of names name) 0 < length (x ∷ names)
    by true e = omega arith
    by false e = absurd (cc)
number-found (x ∷ names) (suc k) name less is = by (bytes_eq x name) (number-found names k name (omega (arith, less)) is)
  where
    by : (b : Bool) → number_of names name < length names → cond (not b) (1 + number_of names name) 0 < length (x ∷ names)
    by true rest = omega arith
    by false rest = omega (arith, rest)
