-- A call of `seek`, as far as it has come, and what it answers where it ends.
use Rattle.std.proofs.Common.{◌≡◌, ℕ, ◌+◌, ◌-◌, ◌*◌, ◌<◌, ◌≤◌, ◌⊎◌, inl, inr, Bool, true, false, cond, List, [], ◌∷◌, ◌++◌, length, Option, Some, None, refl, sym, ap, ◌∙◌, subst, arith, append_assoc, append-nil, length-append}
use Rattle.std.specs.List.{AllByRecursion, filter}
use Rattle.std.specs.Option.{is_none}
use Rattle.std.proofs.lemmas.List.Elements.{All-nil, filter-append}
use Rattle.variant_list.specs.Positions.{Position, candidates_ahead}
use Rattle.variant_list.specs.Steps.{NoneAccepted}
use Rattle.variant_list.specs.Beginnings.{shortest_hopeless, has_no_dead_prefix, dead_prefixes}
use Rattle.variant_list.specs.inner.Skips.{edges_of_net, FindsTested}
use Rattle.variant_list.proofs.ListLemmas.{looks-sum, filter-none}
use Rattle.variant_list.proofs.DeadPrefixLemmas.{dead_prefixes-joined}
use Rattle.variant_list.proofs.DeadPrefixSearches.{edges-same}

-- the last label ends the candidates gone over, and has no dead prefix
pub record EndsIn (hopeless : List ℕ → Bool) (front : List (List ℕ)) (last : List ℕ) : Type 0 where
  pub others : List (List ℕ)
  pub is : front ≡ others ++ last ∷ []
  pub alive : shortest_hopeless hopeless last ≡ None

-- a call began at `old` with `tries`, with no edge looked at, and is at `now` with `left`
pub record HasGone (hopeless : List ℕ → Bool) (old : Position) (tries : ℕ) (now : Position) (left : ℕ) : Type 0 where
  pub net : now.net ≡ old.net
  pub front : List (List ℕ)
  pub shape : ((front ≡ []) × (now.last ≡ old.last)) ⊎ EndsIn hopeless front now.last
  pub whole : candidates_ahead old ≡ front ++ candidates_ahead now
  pub counted : left + length (filter (has_no_dead_prefix hopeless) front) ≡ tries
  pub looks : now.edge_tests ≤ 126 * (edges_of_net old * (length (dead_prefixes hopeless None front) + length (filter (has_no_dead_prefix hopeless) front)))

-- and no label that it decided is accepted
pub record HasPassed (accepts hopeless : List ℕ → Bool) (old : Position) (tries : ℕ) (now : Position) (left : ℕ) : Type 0 where
  pub gone : HasGone hopeless old tries now left
  pub none_accepted : NoneAccepted accepts (filter (has_no_dead_prefix hopeless) gone.front)

pub HasPassed-none : (accepts hopeless : List ℕ → Bool) (old now : Position) (tries : ℕ) → now ≡ record old { edge_tests = 0 } → HasPassed accepts hopeless old tries now tries
HasPassed-none accepts hopeless old now tries h = record {
  gone = record {
    net = ap (λ (p : Position). p.net) h;
    front = [];
    shape = inl (refl, ap (λ (p : Position). p.last) h);
    whole = sym (ap candidates_ahead h);
    counted = omega arith;
    looks = omega (arith, ap (λ (p : Position). p.edge_tests) h);
  };
  none_accepted = All-nil (λ v. accepts v ≡ false);
}

-- the dead prefixes of what was gone over, and of what follows
pub joined : (hopeless : List ℕ → Bool) (front : List (List ℕ)) (last start : List ℕ) (ws : List (List ℕ)) → ((front ≡ []) × (last ≡ start)) ⊎ EndsIn hopeless front last → dead_prefixes hopeless None (front ++ ws) ≡ dead_prefixes hopeless None front ++ dead_prefixes hopeless None ws
joined hopeless front last start ws (inl none) = ap (λ f. dead_prefixes hopeless None (f ++ ws)) none.0 ∙ sym (ap (λ f. dead_prefixes hopeless None f ++ dead_prefixes hopeless None ws) none.0)
joined hopeless front last start ws (inr ends) =
    let all = dead_prefixes-joined hopeless None ends.others last ws ends.alive in
    let once = dead_prefixes-joined hopeless None ends.others last [] ends.alive in
    ap (λ f. dead_prefixes hopeless None (f ++ ws)) ends.is ∙ ap (dead_prefixes hopeless None) (append_assoc ends.others (last ∷ []) ws) ∙ all
    ∙ ap (λ hs. hs ++ dead_prefixes hopeless None ws) (sym (append-nil (dead_prefixes hopeless None ends.others)) ∙ sym once ∙ ap (dead_prefixes hopeless None) (sym ends.is))

pub no_shortest : (o : Option ℕ) → is_none o ≡ true → o ≡ None
no_shortest None h = refl
no_shortest (Some n) h = let clash : false ≡ true = h in cc

-- the tested labels of what a search for a tested label went over
pub one_tested : (hopeless : List ℕ → Bool) (passed : List (List ℕ)) (v : List ℕ) → AllByRecursion (λ w. has_no_dead_prefix hopeless w ≡ false) passed → has_no_dead_prefix hopeless v ≡ true → filter (has_no_dead_prefix hopeless) (passed ++ v ∷ []) ≡ v ∷ []
one_tested hopeless passed v dead alive =
    filter-append (has_no_dead_prefix hopeless) passed (v ∷ []) ∙ ap (λ vs. vs ++ filter (has_no_dead_prefix hopeless) (v ∷ [])) (filter-none (has_no_dead_prefix hopeless) passed dead)
    ∙ ap (λ b. cond b (v ∷ []) []) alive

-- over one more tested label
unfoldable pub HasGone-next : (hopeless : List ℕ → Bool) (old : Position) (tries : ℕ) (now new : Position) (left : ℕ) → HasGone hopeless old tries now left → FindsTested hopeless now new → 0 < left → HasGone hopeless old tries new (left - 1)
HasGone-next hopeless old tries now new left h found some =
    let piece = found.passed ++ new.last ∷ [] in
    let one = one_tested hopeless found.passed new.last found.dead found.alive in
    let alive = no_shortest (shortest_hopeless hopeless new.last) found.alive in
    let tested_more : filter (has_no_dead_prefix hopeless) (h.front ++ piece) ≡ filter (has_no_dead_prefix hopeless) h.front ++ new.last ∷ [] = filter-append (has_no_dead_prefix hopeless) h.front piece ∙ ap (λ vs. filter (has_no_dead_prefix hopeless) h.front ++ vs) one in
    let more : length (filter (has_no_dead_prefix hopeless) (h.front ++ piece)) ≡ length (filter (has_no_dead_prefix hopeless) h.front) + 1 = ap length tested_more ∙ length-append (filter (has_no_dead_prefix hopeless) h.front) (new.last ∷ []) in
    let piece_ends : dead_prefixes hopeless None piece ≡ dead_prefixes hopeless None found.passed = dead_prefixes-joined hopeless None found.passed new.last [] alive ∙ append-nil (dead_prefixes hopeless None found.passed) in
    let all_ends : length (dead_prefixes hopeless None (h.front ++ piece)) ≡ length (dead_prefixes hopeless None h.front) + length (dead_prefixes hopeless None found.passed) =
    ap length (joined hopeless h.front now.last old.last piece h.shape ∙ ap (λ hs. dead_prefixes hopeless None h.front ++ hs) piece_ends) ∙ length-append (dead_prefixes hopeless None h.front) (dead_prefixes hopeless None found.passed) in
    record {
      net = found.net ∙ h.net;
      front = h.front ++ piece;
      shape = inr (record { others = h.front ++ found.passed; is = sym (append_assoc h.front found.passed (new.last ∷ [])); alive = alive });
      whole = h.whole ∙ ap (λ vs. h.front ++ vs) (found.whole ∙ sym (append_assoc found.passed (new.last ∷ []) (candidates_ahead new))) ∙ sym (append_assoc h.front piece (candidates_ahead new));
      counted = omega (arith, h.counted, some, more);
      looks = looks-sum now.edge_tests new.edge_tests (edges_of_net old) (length (dead_prefixes hopeless None h.front) + length (filter (has_no_dead_prefix hopeless) h.front)) (length (dead_prefixes hopeless None found.passed) + 1)
          (length (dead_prefixes hopeless None (h.front ++ piece)) + length (filter (has_no_dead_prefix hopeless) (h.front ++ piece))) h.looks
          (subst (λ e. new.edge_tests ≤ now.edge_tests + 126 * (e * (length (dead_prefixes hopeless None found.passed) + 1))) (edges-same now old h.net) found.looks)
          (omega (arith, more, all_ends));
    }
