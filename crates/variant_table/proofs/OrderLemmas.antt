-- The order of a table's sources.
use Rattle.std.proofs.Common.{◌≡◌, inl, inr, ℕ, zero, suc, ◌+◌, ◌-◌, ◌<◌, ◌≤◌, Bool, true, false, ◌||◌, ◌&&◌, cond, List, [], ◌∷◌, ◌++◌, length, take, drop, get_or, Option, Some, None, refl, sym, ap, subst, ◌∙◌, arith, add-one, length-append}
use Rattle.std.specs.Prelude.{bytes_eq, nat_eq, nat_lt, slice_get, find, is_some, IsPermutation}
use Rattle.std.specs.Ordering.{nat_cmp, ordering_reverse, ordering_then}
use Rattle.std.specs.declared.cmp.Ordering.{Ordering}
use Rattle.std.specs.declared.cmp.Ordering.TheVariants.{Less, Equal, Greater}
use Rattle.std.specs.Cmp.Lexicographic.{slice_cmp, pointwise}
use Rattle.std.specs.List.{AllByRecursion, AllPairs, Contains, insert, list_any, range_with_len, starts_with}
use Rattle.std.proofs.lemmas.Bool.{cases_lt, cases_order, lt-ltb, ltb-true}
use Rattle.std.proofs.lemmas.Bool.Decides.{nat_tests}
use Rattle.std.proofs.Math.Seq.{take-append_seam}
use Rattle.std.proofs.lemmas.Cmp.{nat_cmp_total, nat_list_cmp_total, nat_list_eq_equiv, tied_itself}
use Rattle.std.proofs.lemmas.List.{append-nil, get_or_default, get_or-append_right, get_or_append_left, take-append-drop}
use Rattle.std.proofs.lemmas.List.Edits.{length-insert, get_or-insert_at, get_or-insert_below, get_or-insert_above}
use Rattle.std.proofs.lemmas.List.Elements.{All-get_or, All-from_recursion}
use Rattle.std.proofs.lemmas.List.FromFn.{length-range_with_len, get_or-range_with_len}
use Rattle.std.proofs.lemmas.Slice.Eq.{bytes_eq-Decides}
use Rattle.std.proofs.lemmas.List.Sorted.{All-permutation, Contains-permutation, length_permutation, IsPermutation-insert, IsPermutation-push_more}
use Rattle.variant_table.specs.Entries.{Entry, entry_from}
use Rattle.variant_table.specs.Conditions.{has_source_in}
use Rattle.variant_table.specs.inner.Order.{source_at, IsOrderOf, IsGapFor, begins_at, HasNoLonger}
use Rattle.variant_table.specs.Places.{entry_with}
use Rattle.variant_table.proofs.BeginningLemmas.{entry_with-found, entry_with-of}

abbrev source_cmp : List ℕ → List ℕ → Ordering
source_cmp r s = slice_cmp nat_cmp r s

same_source : (r s : List ℕ) → r ≡ s → source_cmp r s ≡ Equal
same_source r s e = ap (source_cmp r) (sym e) ∙ tied_itself nat_list_cmp_total r

not_less : (r s : List ℕ) → r ≡ s → source_cmp r s ≡ Less → ⊥
not_less r s e l = let q : source_cmp r s ≡ Equal = same_source r s e in let z : Less ≡ Equal = sym l ∙ q in cc

not_greater : (r s : List ℕ) → r ≡ s → source_cmp r s ≡ Greater → ⊥
not_greater r s e l = let q : source_cmp r s ≡ Equal = same_source r s e in let z : Greater ≡ Equal = sym l ∙ q in cc

flipped : (r s : List ℕ) → source_cmp r s ≡ Greater → source_cmp s r ≡ Less
flipped r s g = nat_list_cmp_total.antisymm s r ∙ ap ordering_reverse g

less_both : (r s t : List ℕ) → source_cmp r s ≡ Less → source_cmp s t ≡ Less → source_cmp r t ≡ Less
less_both r s t a b = nat_list_cmp_total.trans r s t a b

both_less : (r s : List ℕ) → source_cmp r s ≡ Less → source_cmp s r ≡ Less → ⊥
both_less r s a b = not_less r r refl (less_both r s r a b)

-- the element that is read
read : (xs : List Entry) (i : ℕ) (x d : Entry) → slice_get xs i ≡ Some x → get_or xs i d ≡ x
read [] i x d e = absurd cc
read (y ∷ xs) zero x d e = cc
read (y ∷ xs) (suc i) x d e = read xs i x d e

pub source-read : (table : List Entry) (order : List ℕ) (place : ℕ) (e : Entry) → slice_get table (get_or order place 0) ≡ Some e → source_at table order place ≡ e.source
source-read table order place e is = ap (λ x. x.source) (read table (get_or order place 0) e (entry_from []) is)

-- ---- numbers

range_below : (a n limit : ℕ) → a + n ≤ limit → AllByRecursion (λ m. m < limit) (range_with_len a n)
range_below a zero limit l = tt
range_below a (suc n) limit l = (omega (arith, l), range_below (a + 1) n limit (omega (arith, l)))

range_more : (a n : ℕ) → range_with_len a (suc n) ≡ range_with_len a n ++ (a + n) ∷ []
range_more a zero = ap (λ m. m ∷ []) (let z : a ≡ a + 0 = omega arith in z)
range_more a (suc n) = ap (λ l. a ∷ l) (range_more (a + 1) n) ∙ ap (λ m. a ∷ (range_with_len (a + 1) n ++ m ∷ [])) (let z : a + 1 + n ≡ a + suc n = omega arith in z)

module _ (table : List Entry) (order : List ℕ) (h : IsOrderOf table order) where
  pub number_below : (i : ℕ) → i < length order → get_or order i 0 < length table
  number_below i l =
      All-get_or (λ m. m < length table) order i 0 l
      (All-permutation (λ m. m < length table) (range_with_len 0 (length table)) order h.numbers (All-from_recursion (λ m. m < length table) (range_with_len 0 (length table)) (range_below 0 (length table) (length table) (omega arith))))

  pub length-order : length order ≡ length table
  length-order = length_permutation (range_with_len 0 (length table)) order h.numbers ∙ length-range_with_len 0 (length table)

  -- each entry has a place
  place_of : (n : ℕ) → n < length table → (p : ℕ) × (p < length order) × (get_or order p 0 ≡ n)
  place_of n l =
      let at : Contains (range_with_len 0 (length table)) n = (n, omega (arith, l, length-range_with_len 0 (length table)), get_or-range_with_len 0 (length table) n n l ∙ omega arith) in
      let found = Contains-permutation (range_with_len 0 (length table)) order n h.numbers at in
      (found.0, found.1, get_or_default order found.0 0 n found.1 ∙ found.2)

  source-placed : (n p : ℕ) (d : Entry) → n < length table → get_or order p 0 ≡ n → source_at table order p ≡ (get_or table n d).source
  source-placed n p d l is = ap (λ m. (get_or table m (entry_from [])).source) is ∙ ap (λ e. e.source) (get_or_default table n (entry_from []) d l)

  -- the entries have different sources
  pub apart : AllPairs (λ e f. e.source ≡ f.source → ⊥) table
  apart i j d l m same =
      let p = place_of i (omega (arith, l, m)) in
      let q = place_of j m in
      let alike : source_at table order p.0 ≡ source_at table order q.0 = source-placed i p.0 d (omega (arith, l, m)) p.2 ∙ same ∙ sym (source-placed j q.0 d m q.2) in
      elim (cases_order p.0 q.0) [
        | inl eq ↦ omega (arith, l, p.2, q.2, ap (λ k. get_or order k 0) eq)
        | inr (inl below) ↦ not_less _ _ alike (h.rising p.0 q.0 below q.1)
        | inr (inr above) ↦ not_less _ _ (sym alike) (h.rising q.0 p.0 above p.1)
      ]

  -- the entry that is found
  pub entry_with-at : (place : ℕ) (s : List ℕ) (e : Entry) → place < length order → source_at table order place ≡ s → slice_get table (get_or order place 0) ≡ Some e → entry_with table s ≡ Some e
  entry_with-at place s e l is at = entry_with-of table s e apart (get_or order place 0, number_below place l, read table (get_or order place 0) e e at) (sym (source-read table order place e at) ∙ is)

  -- the sources before a lesser one are less, and those after a greater one are greater
  pub less_before : (place : ℕ) (s : List ℕ) → place < length order → source_cmp (source_at table order place) s ≡ Less → (i : ℕ) → i < place + 1 → source_cmp (source_at table order i) s ≡ Less
  less_before place s l here i m = elim (cases_order i place) [
    | inl same ↦ ap (λ k. source_cmp (source_at table order k) s) same ∙ here
    | inr (inl below) ↦ less_both (source_at table order i) (source_at table order place) s (h.rising i place below l) here
    | inr (inr above) ↦ absurd (omega (arith, m, above))
  ]

  pub greater_after : (place : ℕ) (s : List ℕ) → source_cmp (source_at table order place) s ≡ Greater → (i : ℕ) → place ≤ i → i < length order → source_cmp (source_at table order i) s ≡ Greater
  greater_after place s here i m l = elim (cases_order i place) [
    | inl same ↦ ap (λ k. source_cmp (source_at table order k) s) same ∙ here
    | inr (inl below) ↦ absurd (omega (arith, m, below))
    | inr (inr above) ↦
        nat_list_cmp_total.antisymm (source_at table order i) s
        ∙ ap ordering_reverse (less_both s (source_at table order place) (source_at table order i) (flipped (source_at table order place) s here) (h.rising place i above l))
  ]

  -- a source that has a gap is no entry's
  pub entry_with-gap : (place : ℕ) (s : List ℕ) → IsGapFor table order s place → entry_with table s ≡ None
  entry_with-gap place s gap = by_cases (entry_with table s) refl
    where
      none : (e : Entry) → Contains table e → e.source ≡ s → ⊥
      none e (n, l, at) is =
          let p = place_of n l in
          let own : source_at table order p.0 ≡ s = source-placed n p.0 e l p.2 ∙ ap (λ x. x.source) at ∙ is in
          elim (cases_lt p.0 place) [ inl below ↦ not_less _ _ own (gap.before p.0 below) | inr above ↦ not_greater _ _ own (gap.after p.0 above p.1) ]

      by_cases : (o : Option Entry) → entry_with table s ≡ o → entry_with table s ≡ None
      by_cases None e = e
      by_cases (Some x) e = let r = entry_with-found table s x e in absurd (none x r.0 r.1)

-- ---- sources that begin with a sequence

-- a list followed by others is less than with them
less_longer : (s : List ℕ) (c : ℕ) (rest : List ℕ) → source_cmp s (s ++ c ∷ rest) ≡ Less
less_longer [] c rest = refl
less_longer (x ∷ s) c rest = ap (λ o. ordering_then o (source_cmp s (s ++ c ∷ rest))) (tied_itself nat_cmp_total x) ∙ less_longer s c rest

-- what stands between a list and a longer one that begins with it begins with it too
between : (s x rest : List ℕ) → source_cmp s x ≡ Less → source_cmp x (s ++ rest) ≡ Less → (r : List ℕ) × (x ≡ s ++ r)
between [] x rest a b = (x, refl)
between (c ∷ s) [] rest a b = absurd (let z : Greater ≡ Less = a in cc)
between (c ∷ s) (d ∷ x) rest a b = elim (cases_order c d) [
  | inl same ↦
      let tied : nat_cmp c d ≡ Equal = ap (nat_cmp c) (sym same) ∙ tied_itself nat_cmp_total c in
      let tied' : nat_cmp d c ≡ Equal = ap (nat_cmp d) same ∙ tied_itself nat_cmp_total d in
      let more = between s x rest (sym (ap (λ o. ordering_then o (source_cmp s x)) tied) ∙ a) (sym (ap (λ o. ordering_then o (source_cmp x (s ++ rest))) tied') ∙ b) in
      (more.0, ap (λ h. h ∷ x) (sym same) ∙ ap (λ t. c ∷ t) more.1)
  | inr (inl below) ↦ absurd (let z : Greater ≡ Less = sym (ap (λ o. ordering_then o (source_cmp x (s ++ rest))) (greater c d below)) ∙ b in cc)
  | inr (inr above) ↦ absurd (let z : Greater ≡ Less = sym (ap (λ o. ordering_then o (source_cmp s x)) (greater d c above)) ∙ a in cc)
]
  where
    greater : (m n : ℕ) → m < n → nat_cmp n m ≡ Greater
    greater m n l = grind (arith, nat_tests)

begins : (s r : List ℕ) → starts_with nat_eq (s ++ r) s ≡ true
begins s r = ap (pointwise nat_eq s) (take-append_seam s r) ∙ nat_list_eq_equiv.refl s

module _ (table : List Entry) (order : List ℕ) (h : IsOrderOf table order) (s : List ℕ) (p : ℕ)
    (before : (i : ℕ) → i < p → source_cmp s (source_at table order i) ≡ Less → ⊥)
    (here : p < length order → source_cmp s (source_at table order p) ≡ Less)
    (none : begins_at table order p s ≡ false) where
  not_at : p < length order → (r : List ℕ) → source_at table order p ≡ s ++ r → ⊥
  not_at l r is = contradicts (ap (λ x. starts_with nat_eq x s) is ∙ begins s r) (second_false (nat_lt p (length order)) (starts_with nat_eq (source_at table order p) s) (lt-ltb p (length order) l) none)
    where
      second_false : (a b : Bool) → a ≡ true → (a && b) ≡ false → b ≡ false
      second_false true b e f = f
      second_false false b e f = absurd cc

      contradicts : {b : Bool} → b ≡ true → b ≡ false → ⊥
      contradicts e f = let z : true ≡ false = sym e ∙ f in cc

  pub no_longer : HasNoLonger table s
  no_longer e c rest (n, l, at) is =
      let q = place_of table order h n l in
      let own : source_at table order q.0 ≡ s ++ c ∷ rest = source-placed table order h n q.0 e l q.2 ∙ ap (λ x. x.source) at ∙ is in
      elim (cases_order p q.0) [
        | inl same ↦ not_at (omega (arith, same, q.1)) (c ∷ rest) (ap (source_at table order) same ∙ own)
        | inr (inl below) ↦
            let within : p < length order = omega (arith, below, q.1) in
            let part = between s (source_at table order p) (c ∷ rest) (here within) (ap (source_cmp (source_at table order p)) (sym own) ∙ h.rising p q.0 below q.1) in
            not_at within part.0 part.1
        | inr (inr above) ↦ before q.0 above (ap (source_cmp s) own ∙ less_longer s c rest)
      ]

-- after the place where the sequence stands
pub no_longer-found : (table : List Entry) (order : List ℕ) (place : ℕ) (s : List ℕ) → IsOrderOf table order → place < length order → source_at table order place ≡ s → begins_at table order (place + 1) s ≡ false → HasNoLonger table s
no_longer-found table order place s h l is = no_longer table order h s (place + 1) before (λ m. ap (λ r. source_cmp r (source_at table order (place + 1))) (sym is) ∙ h.rising place (place + 1) (omega arith) m)
  where
    before : (i : ℕ) → i < place + 1 → source_cmp s (source_at table order i) ≡ Less → ⊥
    before i m less = elim (cases_order i place) [
      | inl same ↦ not_less s (source_at table order i) (sym is ∙ ap (source_at table order) (sym same)) less
      | inr (inl below) ↦ both_less (source_at table order i) s (ap (source_cmp (source_at table order i)) (sym is) ∙ h.rising i place below l) less
      | inr (inr above) ↦ omega (arith, m, above)
    ]

-- at the place where it would stand
pub no_longer-gap : (table : List Entry) (order : List ℕ) (place : ℕ) (s : List ℕ) → IsOrderOf table order → IsGapFor table order s place → begins_at table order place s ≡ false → HasNoLonger table s
no_longer-gap table order place s h gap = no_longer table order h s place (λ i l less. both_less (source_at table order i) s (gap.before i l) less) (λ l. flipped (source_at table order place) s (gap.after place (omega arith) l))

-- a source that begins with the sequence and is another one is longer
pub longer-there : (table : List Entry) (order : List ℕ) (place : ℕ) (s : List ℕ) → IsOrderOf table order → begins_at table order place s ≡ true → (source_at table order place ≡ s → ⊥) → HasNoLonger table s → ⊥
longer-there table order place s h begun other none =
    let parts = both_true (nat_lt place (length order)) (starts_with nat_eq (source_at table order place) s) begun in
    let within : place < length order = ltb-true place (length order) parts.0 in
    let n : ℕ = get_or order place 0 in
    let l = number_below table order h place within in
    let e : Entry = get_or table n (entry_from []) in
    let rest : List ℕ = drop (length s) e.source in
    by_rest e (n, l, get_or_default table n e (entry_from []) l) other rest (sym (take-append-drop (length s) e.source) ∙ ap (λ t. t ++ rest) (sym ((bytes_eq-Decides s (take (length s) e.source)).0 parts.1)))
  where
    both_true : (a b : Bool) → (a && b) ≡ true → (a ≡ true) × (b ≡ true)
    both_true true b e = (refl, e)
    both_true false b e = absurd (let clash : false ≡ true = e in cc)

    by_rest : (e : Entry) → Contains table e → (e.source ≡ s → ⊥) → (r : List ℕ) → e.source ≡ s ++ r → ⊥
    by_rest e in_table differs [] is = differs (is ∙ append-nil s)
    by_rest e in_table differs (c ∷ r) is = none e c r in_table is

-- after the place where the sequence stands
pub longer-found : (table : List Entry) (order : List ℕ) (place : ℕ) (s : List ℕ) → IsOrderOf table order → source_at table order place ≡ s → begins_at table order (place + 1) s ≡ true → HasNoLonger table s → ⊥
longer-found table order place s h is begun = longer-there table order (place + 1) s h begun (λ same. not_less (source_at table order place) (source_at table order (place + 1)) (is ∙ sym same) (h.rising place (place + 1) (omega arith) (within (nat_lt (place + 1) (length order)) (starts_with nat_eq (source_at table order (place + 1)) s) refl begun)))
  where
    within : (a b : Bool) → nat_lt (place + 1) (length order) ≡ a → (a && b) ≡ true → place + 1 < length order
    within true b e both = ltb-true (place + 1) (length order) e
    within false b e both = absurd (let clash : false ≡ true = both in cc)

-- at the place where it would stand
pub longer-gap : (table : List Entry) (order : List ℕ) (place : ℕ) (s : List ℕ) → IsOrderOf table order → IsGapFor table order s place → begins_at table order place s ≡ true → HasNoLonger table s → ⊥
longer-gap table order place s h gap begun = longer-there table order place s h begun (λ same. not_greater (source_at table order place) s same (gap.after place (omega arith) (within (nat_lt place (length order)) (starts_with nat_eq (source_at table order place) s) refl begun)))
  where
    within : (a b : Bool) → nat_lt place (length order) ≡ a → (a && b) ≡ true → place < length order
    within true b e both = ltb-true place (length order) e
    within false b e both = absurd (let clash : false ≡ true = both in cc)

-- ---- whether a source is known

any_find : (p : Entry → Bool) (table : List Entry) → list_any p table ≡ is_some (find p table)
any_find p [] = refl
any_find p (x ∷ table) = step (p x) (any_find p table)
  where
    step : (b : Bool) → list_any p table ≡ is_some (find p table) → (b || list_any p table) ≡ is_some (cond b (Some x) (find p table))
    step true e = refl
    step false e = e

there : (xs : List Entry) (i : ℕ) (d : Entry) → i < length xs → slice_get xs i ≡ Some (get_or xs i d)
there [] i d l = absurd (omega (arith, l))
there (x ∷ xs) zero d l = refl
there (x ∷ xs) (suc i) d l = there xs i d (omega (arith, l))

pub known-at : (table : List Entry) (order : List ℕ) (place : ℕ) (e : Entry) → IsOrderOf table order → place < length order → source_at table order place ≡ e.source → has_source_in table e ≡ true
known-at table order place e h l is =
    any_find (λ f. bytes_eq f.source e.source) table
    ∙ ap is_some (entry_with-at table order h place e.source (get_or table (get_or order place 0) e) l is (there table (get_or order place 0) e (number_below table order h place l)))

pub new-gap : (table : List Entry) (order : List ℕ) (place : ℕ) (e : Entry) → IsOrderOf table order → IsGapFor table order e.source place → has_source_in table e ≡ false
new-gap table order place e h gap = any_find (λ f. bytes_eq f.source e.source) table ∙ ap is_some (entry_with-gap table order h place e.source gap)

-- ---- one more entry

module _ (table : List Entry) (order : List ℕ) (e : Entry) (place : ℕ) (h : IsOrderOf table order) (gap : IsGapFor table order e.source place) where
  more : List Entry
  more = table ++ e ∷ []

  order' : List ℕ
  order' = insert order place (length table)

  at_place : source_at more order' place ≡ e.source
  unfolding more order'
  at_place =
      ap (λ n. (get_or (table ++ e ∷ []) n (entry_from [])).source) (get_or-insert_at order place (length table) 0 gap.within)
      ∙ ap (λ x. x.source) (get_or-append_right table (e ∷ []) (length table) (length table) (entry_from []) refl (omega arith) ∙ ap (λ n. get_or (e ∷ []) n (entry_from [])) (let z : length table - length table ≡ 0 = omega arith in z))

  old : (i : ℕ) → i < length order → (get_or (table ++ e ∷ []) (get_or order i 0) (entry_from [])).source ≡ source_at table order i
  old i l = ap (λ x. x.source) (get_or_append_left table (e ∷ []) (entry_from []) (get_or order i 0) (number_below table order h i l))

  before_place : (i : ℕ) → i < place → source_at more order' i ≡ source_at table order i
  unfolding more order'
  before_place i l = ap (λ n. (get_or (table ++ e ∷ []) n (entry_from [])).source) (get_or-insert_below order place (length table) 0 i l gap.within) ∙ old i (omega (arith, l, gap.within))

  after_place : (i : ℕ) → place ≤ i → i < length order → source_at more order' (i + 1) ≡ source_at table order i
  unfolding more order'
  after_place i l m = ap (λ n. (get_or (table ++ e ∷ []) n (entry_from [])).source) (get_or-insert_above order place (length table) 0 i l gap.within) ∙ old i m

  abbrev IsLess : List ℕ → List ℕ → Type 0
  IsLess r s = source_cmp r s ≡ Less

  less : (r s r' s' : List ℕ) → r' ≡ r → s' ≡ s → IsLess r s → IsLess r' s'
  less r s r' s' a b l = ap (λ x. source_cmp x s') a ∙ ap (source_cmp r) b ∙ l

  length-order' : length order' ≡ length order + 1
  unfolding order'
  length-order' = length-insert order place (length table) gap.within

  -- a place after the new one, as the one before it was
  after : (j : ℕ) → place < j → j < length order + 1 → source_at more order' j ≡ source_at table order (j - 1)
  after j l m = ap (source_at more order') (let z : j ≡ j - 1 + 1 = omega (arith, l) in z) ∙ after_place (j - 1) (omega (arith, l)) (omega (arith, l, m))

  rising : (i j : ℕ) → i < j → j < length order' → IsLess (source_at more order' i) (source_at more order' j)
  rising i j l m = elim (cases_order i place) [
    | inl here ↦
        less e.source (source_at table order (j - 1)) _ _ (ap (source_at more order') here ∙ at_place) (after j (omega (arith, l, here)) last)
        (flipped (source_at table order (j - 1)) e.source (gap.after (j - 1) (omega (arith, l, here)) (omega (arith, last, l))))
    | inr (inl below) ↦ elim (cases_order j place) [
      | inl here ↦ less (source_at table order i) e.source _ _ (before_place i below) (ap (source_at more order') here ∙ at_place) (gap.before i below)
      | inr (inl under) ↦ less (source_at table order i) (source_at table order j) _ _ (before_place i below) (before_place j under) (h.rising i j l (omega (arith, under, gap.within)))
      | inr (inr over) ↦
          less (source_at table order i) (source_at table order (j - 1)) _ _ (before_place i below) (after j over last)
          (h.rising i (j - 1) (omega (arith, below, over)) (omega (arith, last, over)))
    ]
    | inr (inr above) ↦
        less (source_at table order (i - 1)) (source_at table order (j - 1)) _ _ (after i above (omega (arith, l, last))) (after j (omega (arith, above, l)) last)
        (h.rising (i - 1) (j - 1) (omega (arith, above, l)) (omega (arith, last, l)))
  ]
    where
      last : j < length order + 1
      last = omega (arith, m, length-order')

  numbers : IsPermutation (range_with_len 0 (length more)) order'
  unfolding more order'
  numbers =
      let count : length (table ++ e ∷ []) ≡ suc (length table) = length-append table (e ∷ []) ∙ add-one (length table) in
      subst (λ r. IsPermutation r (insert order place (length table))) (sym (ap (range_with_len 0) count ∙ range_more 0 (length table) ∙ ap (λ n. range_with_len 0 (length table) ++ n ∷ []) (let z : 0 + length table ≡ length table = omega arith in z)))
      (IsPermutation-push_more (range_with_len 0 (length table)) order (insert order place (length table)) (length table) h.numbers (IsPermutation-insert order place (length table)))

  pub order-pushed : IsOrderOf (table ++ e ∷ []) (insert order place (length table))
  unfolding more order'
  order-pushed = record { numbers = numbers; rising = rising }
