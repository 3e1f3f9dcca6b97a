-- The shortest dead prefix, and labels that begin alike.
use Rattle.std.proofs.Common.{◌≡◌, ◌==◌, ℕ, zero, suc, ◌<◌, ◌≤◌, Bool, true, false, cond, List, [], ◌∷◌, length, take, Option, Some, None, option_map, refl, sym, ap, ◌∙◌, subst, inl, inr, arith}
use Rattle.std.proofs.lemmas.Bool.{and_parts, and_from, eqb-true, eq-eqb}
use Rattle.variant_list.specs.Labels.{IsBelow}
use Rattle.variant_list.specs.Beginnings.{shortest_hopeless, shares, has_no_dead_prefix, IsShortest, HasNoDeadPrefix}
use Rattle.std.specs.Option.{is_none}

-- ---- labels that begin alike

pub shares-sym : (n : ℕ) (v w : List ℕ) → shares n v w ≡ true → shares n w v ≡ true
shares-sym zero v w h = refl
shares-sym (suc n) [] w h = let clash : false ≡ true = h in cc
shares-sym (suc n) (c ∷ v) [] h = let clash : false ≡ true = h in cc
shares-sym (suc n) (c ∷ v) (d ∷ w) h =
    let both = and_parts (c == d) (shares n v w) h in
    and_from _ _ (eq-eqb d c (sym (eqb-true c d both.0))) (shares-sym n v w both.1)

pub shares-through : (n : ℕ) (u v w : List ℕ) → shares n u v ≡ true → shares n v w ≡ true → shares n u w ≡ true
shares-through zero u v w h g = refl
shares-through (suc n) [] v w h g = h
shares-through (suc n) (b ∷ u) [] w h g = let clash : false ≡ true = h in cc
shares-through (suc n) (b ∷ u) (c ∷ v) [] h g = g
shares-through (suc n) (b ∷ u) (c ∷ v) (d ∷ w) h g =
    let first = and_parts (b == c) (shares n u v) h in
    let second = and_parts (c == d) (shares n v w) g in
    and_from _ _ (eq-eqb b d (eqb-true b c first.0 ∙ eqb-true c d second.0)) (shares-through n u v w first.1 second.1)

-- both have that many code points
pub shares-within : (n : ℕ) (v w : List ℕ) → shares n v w ≡ true → n ≤ length v
shares-within zero v w h = omega arith
shares-within (suc n) [] w h = let clash : false ≡ true = h in cc
shares-within (suc n) (c ∷ v) [] h = let clash : false ≡ true = h in cc
shares-within (suc n) (c ∷ v) (d ∷ w) h = let rest : n ≤ length v = shares-within n v w (and_parts (c == d) (shares n v w) h).1 in omega arith

-- what stands between labels that begin alike begins so too
pub shares-between : (n : ℕ) (u w z : List ℕ) → IsBelow u w → IsBelow w z → shares n u z ≡ true → shares n u w ≡ true
shares-between zero u w z below above h = refl
shares-between (suc n) [] w z below above h = h
shares-between (suc n) (c ∷ u) w [] below above h = let clash : false ≡ true = h in cc
shares-between (suc n) (c ∷ u) [] (e ∷ z) below above h = absurd below
shares-between (suc n) (c ∷ u) (d ∷ w) (e ∷ z) below above h =
    let both = and_parts (c == e) (shares n u z) h in
    let same : c ≡ e = eqb-true c e both.0 in
    elim below [
      | inl less ↦ absurd (elim above [ inl more ↦ omega arith | inr equal ↦ omega (arith, equal.0) ])
      | inr first ↦ elim above [
        | inl more ↦ absurd (omega (arith, first.0))
        | inr second ↦ and_from _ _ (eq-eqb c d first.0) (shares-between n u w z first.1 second.1 both.1)
      ]
    ]

-- ---- the shortest dead prefix

longer_of : (o : Option ℕ) (n : ℕ) → option_map suc o ≡ Some (suc n) → o ≡ Some n
longer_of None n h = cc
longer_of (Some m) n h = cc

no_zero : (b : Bool) (o : Option ℕ) → cond b (Some 1) (option_map suc o) ≡ Some 0 → ⊥
no_zero true o h = cc
no_zero false None h = cc
no_zero false (Some m) h = cc

-- a label that begins with the shortest dead prefix of another has the same
pub shortest_hopeless-shares : (hopeless : List ℕ → Bool) (n : ℕ) (v w : List ℕ) → shares n v w ≡ true → shortest_hopeless hopeless v ≡ Some n → shortest_hopeless hopeless w ≡ Some n
shortest_hopeless-shares hopeless n [] w h is = cc
shortest_hopeless-shares hopeless zero (c ∷ v) w h is = absurd (no_zero (hopeless (c ∷ [])) (shortest_hopeless (λ z. hopeless (c ∷ z)) v) is)
shortest_hopeless-shares hopeless (suc n) (c ∷ v) [] h is = let clash : false ≡ true = h in cc
shortest_hopeless-shares hopeless (suc n) (c ∷ v) (d ∷ w) h is =
    let both = and_parts (c == d) (shares n v w) h in
    let same : c ≡ d = eqb-true c d both.0 in
    let rest = shortest_hopeless-shares (λ z. hopeless (c ∷ z)) n v w both.1 in
    subst (λ x. shortest_hopeless hopeless (x ∷ w) ≡ Some (suc n)) same (by_first (hopeless (c ∷ [])) (shortest_hopeless (λ z. hopeless (c ∷ z)) v) (shortest_hopeless (λ z. hopeless (c ∷ z)) w) rest is)
  where
    by_first : (b : Bool) (o p : Option ℕ) → (o ≡ Some n → p ≡ Some n) → cond b (Some 1) (option_map suc o) ≡ Some (suc n) → cond b (Some 1) (option_map suc p) ≡ Some (suc n)
    by_first true o p rest e = e
    by_first false o p rest e = ap (option_map suc) (rest (longer_of o n e))

pub shortest_hopeless-some : (hopeless : List ℕ → Bool) (v : List ℕ) (n : ℕ) → shortest_hopeless hopeless v ≡ Some n → (1 ≤ n) × (n ≤ length v)
shortest_hopeless-some hopeless [] n is = cc
shortest_hopeless-some hopeless (c ∷ v) n is =
    by_first (hopeless (c ∷ [])) (shortest_hopeless (λ z. hopeless (c ∷ z)) v) (λ m e. shortest_hopeless-some (λ z. hopeless (c ∷ z)) v m e) is
  where
    by_first : (b : Bool) (o : Option ℕ) → ((m : ℕ) → o ≡ Some m → (1 ≤ m) × (m ≤ length v)) → cond b (Some 1) (option_map suc o) ≡ Some n → (1 ≤ n) × (n ≤ suc (length v))
    by_first true o rest is = let one : n ≡ 1 = cc in (omega arith, omega arith)
    by_first false None rest is = cc
    by_first false (Some m) rest is = let more : n ≡ suc m = cc in let both = rest m refl in (omega (arith, both.0), omega (arith, both.1))

-- ---- by its beginnings

pub shortest_hopeless-at : (hopeless : List ℕ → Bool) (v : List ℕ) (n : ℕ) → 1 ≤ n → n ≤ length v → hopeless (take n v) ≡ true → ((k : ℕ) → 1 ≤ k → k < n → hopeless (take k v) ≡ false) → shortest_hopeless hopeless v ≡ Some n
shortest_hopeless-at hopeless v zero some within holds first = absurd (omega arith)
shortest_hopeless-at hopeless [] (suc n) some within holds first = absurd (omega arith)
shortest_hopeless-at hopeless (c ∷ v) (suc zero) some within holds first = ap (λ b. cond b (Some 1) (option_map suc (shortest_hopeless (λ w. hopeless (c ∷ w)) v))) holds
shortest_hopeless-at hopeless (c ∷ v) (suc (suc n)) some within holds first =
    ap (λ b. cond b (Some 1) (option_map suc (shortest_hopeless (λ w. hopeless (c ∷ w)) v))) (first 1 (omega arith) (omega arith))
    ∙ ap (option_map suc) (shortest_hopeless-at (λ w. hopeless (c ∷ w)) v (suc n) (omega arith) (omega arith) holds (λ k low high. first (suc k) (omega arith) (omega arith)))

pub shortest_hopeless-none : (hopeless : List ℕ → Bool) (v : List ℕ) → ((k : ℕ) → 1 ≤ k → k ≤ length v → hopeless (take k v) ≡ false) → shortest_hopeless hopeless v ≡ None
shortest_hopeless-none hopeless [] each = refl
shortest_hopeless-none hopeless (c ∷ v) each =
    ap (λ b. cond b (Some 1) (option_map suc (shortest_hopeless (λ w. hopeless (c ∷ w)) v))) (each 1 (omega arith) (omega arith))
    ∙ ap (option_map suc) (shortest_hopeless-none (λ w. hopeless (c ∷ w)) v (λ k low high. each (suc k) (omega arith) (omega arith)))

by_parts : (hopeless : List ℕ → Bool) (c : ℕ) (v : List ℕ) (b : Bool) (o : Option ℕ) (n : ℕ) → hopeless (c ∷ []) ≡ b → cond b (Some 1) (option_map suc o) ≡ Some n → ((m : ℕ) → o ≡ Some m → IsShortest (λ w. hopeless (c ∷ w)) v m) → IsShortest hopeless (c ∷ v) n
by_parts hopeless c v true o n first is rest =
    let one : 1 ≡ n = cc in
    subst (IsShortest hopeless (c ∷ v)) one (record { some = omega arith; within = omega arith; holds = first; first = λ k low high. absurd (omega arith) })
by_parts hopeless c v false None n first is rest = cc
by_parts hopeless c v false (Some m) n first is rest =
    let more : suc m ≡ n = cc in
    let r = rest m refl in
    subst (IsShortest hopeless (c ∷ v)) more (record {
      some = omega arith;
      within = omega (arith, r.within);
      holds = r.holds;
      first = elim [ zero ↦ λ low high. absurd (omega arith) | suc k ↦ λ low high. by_first k (omega arith) r.first ];
    })
  where
    by_first : (k : ℕ) → k < m → ((j : ℕ) → 1 ≤ j → j < m → hopeless (c ∷ take j v) ≡ false) → hopeless (c ∷ take k v) ≡ false
    by_first zero high each = first
    by_first (suc k) high each = each (suc k) (omega arith) high

pub shortest_hopeless-gives : (hopeless : List ℕ → Bool) (v : List ℕ) (n : ℕ) → shortest_hopeless hopeless v ≡ Some n → IsShortest hopeless v n
shortest_hopeless-gives hopeless [] n is = cc
shortest_hopeless-gives hopeless (c ∷ v) n is =
    by_parts hopeless c v (hopeless (c ∷ [])) (shortest_hopeless (λ w. hopeless (c ∷ w)) v) n refl is (λ m e. shortest_hopeless-gives (λ w. hopeless (c ∷ w)) v m e)

pub alive-gives : (hopeless : List ℕ → Bool) (v : List ℕ) → has_no_dead_prefix hopeless v ≡ true → HasNoDeadPrefix hopeless v
alive-gives hopeless [] alive k low high = absurd (omega arith)
alive-gives hopeless (c ∷ v) alive k low high =
    by_first (hopeless (c ∷ [])) (shortest_hopeless (λ w. hopeless (c ∷ w)) v) refl alive (λ e. alive-gives (λ w. hopeless (c ∷ w)) v (ap is_none e)) k low high
  where
    by_first : (b : Bool) (o : Option ℕ) → hopeless (c ∷ []) ≡ b → is_none (cond b (Some 1) (option_map suc o)) ≡ true → (o ≡ None → HasNoDeadPrefix (λ w. hopeless (c ∷ w)) v) → (k : ℕ) → 1 ≤ k → k ≤ suc (length v) → hopeless (take k (c ∷ v)) ≡ false
    by_first true o first h rest k low high = let clash : false ≡ true = h in cc
    by_first false (Some m) first h rest k low high = let clash : false ≡ true = h in cc
    by_first false None first h rest zero low high = absurd (omega arith)
    by_first false None first h rest (suc zero) low high = first
    by_first false None first h rest (suc (suc k)) low high = rest refl (suc k) (omega arith) (omega arith)
