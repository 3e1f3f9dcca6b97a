-- The dead prefixes of lists of labels: one for all that share a dead prefix.
use Rattle.std.proofs.Common.{◌≡◌, ◌≤◌, ℕ, zero, suc, length, arith, Bool, true, false, not, cond, List, [], ◌∷◌, ◌++◌, Option, Some, None, refl, sym, ap, ◌∙◌, subst}
use Rattle.std.specs.List.{AllByRecursion}
use Rattle.std.proofs.lemmas.Bool.{false_from_ne_true, and_from, eq-eqb}
use Rattle.variant_list.specs.Beginnings.{shortest_hopeless, shares, is_new, dead_prefixes}
use Rattle.variant_list.proofs.BeginningLemmas.{shares-sym, shares-through, shortest_hopeless-shares, shortest_hopeless-some}

-- all the labels begin with the first n code points of u, or the first of them doesn't
abbrev pub AllShare : ℕ → List ℕ → List (List ℕ) → Type 0
AllShare n u = AllByRecursion (λ v. shares n u v ≡ true)

abbrev pub BeginsApart : ℕ → List ℕ → List (List ℕ) → Type 0
BeginsApart n u [] = Unit {0}
BeginsApart n u (v ∷ vs) = shares n u v ≡ false

module _ (hopeless : List ℕ → Bool) where
  -- a label apart from those that share the dead prefix shares none with the last of them
  apart : (n : ℕ) (u before v : List ℕ) (m : ℕ) → shortest_hopeless hopeless u ≡ Some n → shares n u before ≡ true → shares n u v ≡ false → shortest_hopeless hopeless v ≡ Some m → shares m before v ≡ false
  apart n u before v m is alike other new = false_from_ne_true _ (λ h.
      let first : shortest_hopeless hopeless before ≡ Some m = shortest_hopeless-shares hopeless m v before (shares-sym m before v h) new in
      let second : shortest_hopeless hopeless before ≡ Some n = shortest_hopeless-shares hopeless n u before alike is in
      let same : m ≡ n = cc in
      let reached = shares-through n u before v alike (subst (λ k. shares k before v ≡ true) same h) in
      let clash : true ≡ false = sym reached ∙ other in cc)

  new_apart : (n : ℕ) (u before v : List ℕ) (o : Option ℕ) → shortest_hopeless hopeless v ≡ o → shortest_hopeless hopeless u ≡ Some n → shares n u before ≡ true → shares n u v ≡ false → is_new (Some before) v o ≡ is_new None v o
  new_apart n u before v None e is alike other = refl
  new_apart n u before v (Some m) e is alike other = ap not (apart n u before v m is alike other e)

  -- the labels that share the dead prefix are passed over
  pub dead_prefixes-passed : (n : ℕ) (u before : List ℕ) (vs ws : List (List ℕ)) → shortest_hopeless hopeless u ≡ Some n → shares n u before ≡ true → AllShare n u vs → BeginsApart n u ws → dead_prefixes hopeless (Some before) (vs ++ ws) ≡ dead_prefixes hopeless None ws
  dead_prefixes-passed n u before [] [] is alike share other = refl
  dead_prefixes-passed n u before [] (w ∷ ws) is alike share other =
      ap (λ b. cond b (w ∷ dead_prefixes hopeless (Some w) ws) (dead_prefixes hopeless (Some w) ws)) (new_apart n u before w (shortest_hopeless hopeless w) refl is alike other)
  dead_prefixes-passed n u before (v ∷ vs) ws is alike share other =
      let same : shortest_hopeless hopeless v ≡ Some n = shortest_hopeless-shares hopeless n u v share.0 is in
      let alike' : shares n before v ≡ true = shares-through n before u v (shares-sym n u before alike) share.0 in
      let old : is_new (Some before) v (shortest_hopeless hopeless v) ≡ false = ap (is_new (Some before) v) same ∙ ap not alike' in
      ap (λ b. cond b (v ∷ dead_prefixes hopeless (Some v) (vs ++ ws)) (dead_prefixes hopeless (Some v) (vs ++ ws))) old ∙ dead_prefixes-passed n u v vs ws is share.0 share.1 other

  shares-itself : (n : ℕ) (u : List ℕ) → shortest_hopeless hopeless u ≡ Some n → shares n u u ≡ true
  shares-itself n u is = itself n u (shortest_hopeless-some hopeless u n is).1
    where
      itself : (n : ℕ) (u : List ℕ) → n ≤ length u → shares n u u ≡ true
      itself zero u h = refl
      itself (suc n) [] h = absurd (omega (arith, h))
      itself (suc n) (c ∷ u) h = and_from _ _ (eq-eqb c c refl) (itself n u (omega (arith, h)))

  -- a dead prefix, those passed over with it, and others
  pub dead_prefixes-one : (n : ℕ) (u : List ℕ) (vs ws : List (List ℕ)) → shortest_hopeless hopeless u ≡ Some n → AllShare n u vs → BeginsApart n u ws → dead_prefixes hopeless None (u ∷ vs ++ ws) ≡ u ∷ dead_prefixes hopeless None ws
  dead_prefixes-one n u vs ws is share other =
      ap (λ o. cond (is_new None u o) (u ∷ dead_prefixes hopeless (Some u) (vs ++ ws)) (dead_prefixes hopeless (Some u) (vs ++ ws))) is
      ∙ ap (λ hs. u ∷ hs) (dead_prefixes-passed n u u vs ws is (shares-itself n u is) share other)

  -- after a label without a dead prefix the dead prefixes are those of what follows
  pub alive_apart : (v w : List ℕ) (o : Option ℕ) → shortest_hopeless hopeless w ≡ o → shortest_hopeless hopeless v ≡ None → is_new (Some v) w o ≡ is_new None w o
  alive_apart v w None e alive = refl
  alive_apart v w (Some m) e alive = ap not (false_from_ne_true _ (λ h.
      let first : shortest_hopeless hopeless v ≡ Some m = shortest_hopeless-shares hopeless m w v (shares-sym m v w h) e in cc))

  pub dead_prefixes-alive : (v : List ℕ) (ws : List (List ℕ)) → shortest_hopeless hopeless v ≡ None → dead_prefixes hopeless (Some v) ws ≡ dead_prefixes hopeless None ws
  dead_prefixes-alive v [] alive = refl
  dead_prefixes-alive v (w ∷ ws) alive =
      ap (λ b. cond b (w ∷ dead_prefixes hopeless (Some w) ws) (dead_prefixes hopeless (Some w) ws)) (alive_apart v w (shortest_hopeless hopeless w) refl alive)

  pub dead_prefixes-joined : (before : Option (List ℕ)) (vs : List (List ℕ)) (v : List ℕ) (ws : List (List ℕ)) → shortest_hopeless hopeless v ≡ None → dead_prefixes hopeless before (vs ++ v ∷ ws) ≡ dead_prefixes hopeless before vs ++ dead_prefixes hopeless None ws
  dead_prefixes-joined before [] v ws alive =
      ap (λ o. cond (is_new before v o) (v ∷ dead_prefixes hopeless (Some v) ws) (dead_prefixes hopeless (Some v) ws)) alive ∙ dead_prefixes-alive v ws alive
  dead_prefixes-joined before (u ∷ vs) v ws alive = by_new (is_new before u (shortest_hopeless hopeless u)) (dead_prefixes-joined (Some u) vs v ws alive)
    where
      by_new : (b : Bool) → dead_prefixes hopeless (Some u) (vs ++ v ∷ ws) ≡ dead_prefixes hopeless (Some u) vs ++ dead_prefixes hopeless None ws → cond b (u ∷ dead_prefixes hopeless (Some u) (vs ++ v ∷ ws)) (dead_prefixes hopeless (Some u) (vs ++ v ∷ ws)) ≡ cond b (u ∷ dead_prefixes hopeless (Some u) vs) (dead_prefixes hopeless (Some u) vs) ++ dead_prefixes hopeless None ws
      by_new true e = ap (λ hs. u ∷ hs) e
      by_new false e = e
