-- The labels that a search comes to: of lists joined, of lists with a dead prefix, and how many there are.
use Rattle.std.proofs.Common.{◌≡◌, ℕ, ◌+◌, Bool, true, false, cond, ◌||◌, List, [], ◌∷◌, ◌++◌, length, Option, Some, None, refl, sym, ap, ◌∙◌, arith, append_assoc, append-nil}
use Rattle.std.specs.List.{AllByRecursion, filter}
use Rattle.std.specs.Option.{is_none}
use Rattle.variant_list.specs.Beginnings.{shortest_hopeless, has_no_dead_prefix, is_new, dead_prefixes}
use Rattle.variant_list.specs.Visited.{visited}
use Rattle.variant_list.proofs.DeadPrefixLemmas.{alive_apart}
use Rattle.variant_list.proofs.ListLemmas.{AllByRecursion-append}

-- the last of the labels, if there is one, else what was before
abbrev last_or : Option (List ℕ) → List (List ℕ) → Option (List ℕ)
last_or before [] = before
last_or before (v ∷ vs) = last_or (Some v) vs

module _ (hopeless : List ℕ → Bool) where
  -- whether the search comes to v
  abbrev comes : Option (List ℕ) → List ℕ → Bool
  comes before v = has_no_dead_prefix hopeless v || is_new before v (shortest_hopeless hopeless v)

  -- ---- lists joined

  visited-append : (before : Option (List ℕ)) (vs ws : List (List ℕ)) → visited hopeless before (vs ++ ws) ≡ visited hopeless before vs ++ visited hopeless (last_or before vs) ws
  visited-append before [] ws = refl
  visited-append before (v ∷ vs) ws = by_test (comes before v) (visited-append (Some v) vs ws)
    where
      by_test : (b : Bool) → visited hopeless (Some v) (vs ++ ws) ≡ visited hopeless (Some v) vs ++ visited hopeless (last_or (Some v) vs) ws
          → cond b (v ∷ visited hopeless (Some v) (vs ++ ws)) (visited hopeless (Some v) (vs ++ ws)) ≡ cond b (v ∷ visited hopeless (Some v) vs) (visited hopeless (Some v) vs) ++ visited hopeless (last_or (Some v) vs) ws
      by_test true e = ap (λ us. v ∷ us) e
      by_test false e = e

  -- after a label without a dead prefix it is as if none were before
  visited-alive : (v : List ℕ) (ws : List (List ℕ)) → shortest_hopeless hopeless v ≡ None → visited hopeless (Some v) ws ≡ visited hopeless None ws
  visited-alive v [] alive = refl
  visited-alive v (w ∷ ws) alive =
      ap (λ b. cond (has_no_dead_prefix hopeless w || b) (w ∷ visited hopeless (Some w) ws) (visited hopeless (Some w) ws)) (alive_apart hopeless v w (shortest_hopeless hopeless w) refl alive)

  visited-here : (before : Option (List ℕ)) (v : List ℕ) (ws : List (List ℕ)) → shortest_hopeless hopeless v ≡ None → visited hopeless before (v ∷ ws) ≡ v ∷ visited hopeless None ws
  visited-here before v ws alive =
      ap (λ o. cond (is_none o || is_new before v o) (v ∷ visited hopeless (Some v) ws) (visited hopeless (Some v) ws)) alive ∙ ap (λ us. v ∷ us) (visited-alive v ws alive)

  -- up to a label without a dead prefix, and after it
  pub visited-joined : (vs : List (List ℕ)) (v : List ℕ) (ws : List (List ℕ)) → shortest_hopeless hopeless v ≡ None → visited hopeless None (vs ++ v ∷ ws) ≡ (visited hopeless None vs ++ v ∷ []) ++ visited hopeless None ws
  visited-joined vs v ws alive =
      visited-append None vs (v ∷ ws) ∙ ap (λ us. visited hopeless None vs ++ us) (visited-here (last_or None vs) v ws alive) ∙ sym (append_assoc (visited hopeless None vs) (v ∷ []) (visited hopeless None ws))

  -- ---- labels with a dead prefix

  pub visited-dead : (before : Option (List ℕ)) (vs : List (List ℕ)) → AllByRecursion (λ v. has_no_dead_prefix hopeless v ≡ false) vs → visited hopeless before vs ≡ dead_prefixes hopeless before vs
  visited-dead before [] dead = refl
  visited-dead before (v ∷ vs) dead =
      ap (λ h. cond (h || is_new before v (shortest_hopeless hopeless v)) (v ∷ visited hopeless (Some v) vs) (visited hopeless (Some v) vs)) dead.0
      ∙ ap (λ us. cond (is_new before v (shortest_hopeless hopeless v)) (v ∷ us) us) (visited-dead (Some v) vs dead.1)

  -- a label that is one dead prefix more is the next one visited
  pub visited-dead_prefix : (vs : List (List ℕ)) (v : List ℕ) (ws : List (List ℕ)) → AllByRecursion (λ w. has_no_dead_prefix hopeless w ≡ false) vs → has_no_dead_prefix hopeless v ≡ false
      → length (dead_prefixes hopeless None (vs ++ v ∷ [])) ≡ length (dead_prefixes hopeless None vs) + 1 → visited hopeless None (vs ++ v ∷ ws) ≡ (dead_prefixes hopeless None vs ++ v ∷ []) ++ visited hopeless (Some v) ws
  visited-dead_prefix vs v ws dead none more =
      visited-append None vs (v ∷ ws) ∙ ap (λ us. us ++ visited hopeless (last_or None vs) (v ∷ ws)) (visited-dead None vs dead)
      ∙ ap (λ us. dead_prefixes hopeless None vs ++ us) (by_test (comes (last_or None vs) v) refl)
      ∙ sym (append_assoc (dead_prefixes hopeless None vs) (v ∷ []) (visited hopeless (Some v) ws))
    where
      by_test : (b : Bool) → comes (last_or None vs) v ≡ b → visited hopeless (last_or None vs) (v ∷ ws) ≡ v ∷ visited hopeless (Some v) ws
      by_test true is = ap (λ b. cond b (v ∷ visited hopeless (Some v) ws) (visited hopeless (Some v) ws)) is
      by_test false is =
          let one : visited hopeless (last_or None vs) (v ∷ []) ≡ [] = ap (λ b. cond b (v ∷ []) []) is in
          let whole = visited-append None vs (v ∷ []) ∙ ap (λ us. visited hopeless None vs ++ us) one ∙ append-nil (visited hopeless None vs) in
          let all = visited-dead None (vs ++ v ∷ []) (AllByRecursion-append (λ w. has_no_dead_prefix hopeless w ≡ false) vs (v ∷ []) dead (none, tt)) in
          absurd (omega (arith, more, ap length whole, ap length all, ap length (visited-dead None vs dead)))

  -- ---- their number

  -- each tested label, and each dead prefix
  pub visited-count : (before : Option (List ℕ)) (vs : List (List ℕ)) → length (visited hopeless before vs) ≡ length (dead_prefixes hopeless before vs) + length (filter (has_no_dead_prefix hopeless) vs)
  visited-count before [] = refl
  visited-count before (v ∷ vs) = by_shortest (shortest_hopeless hopeless v) (visited hopeless (Some v) vs) (dead_prefixes hopeless (Some v) vs) (filter (has_no_dead_prefix hopeless) vs) (visited-count (Some v) vs)
    where
      by_new : (b : Bool) (us ends living : List (List ℕ)) → length us ≡ length ends + length living → length (cond b (v ∷ us) us) ≡ length (cond b (v ∷ ends) ends) + length living
      by_new true us ends living e = omega (arith, e)
      by_new false us ends living e = e

      by_shortest : (o : Option ℕ) (us ends living : List (List ℕ)) → length us ≡ length ends + length living
          → length (cond (is_none o || is_new before v o) (v ∷ us) us) ≡ length (cond (is_new before v o) (v ∷ ends) ends) + length (cond (is_none o) (v ∷ living) living)
      by_shortest None us ends living e = omega (arith, e)
      by_shortest (Some n) us ends living e = by_new (is_new before v (Some n)) us ends living e
