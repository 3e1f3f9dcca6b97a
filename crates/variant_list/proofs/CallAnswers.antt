-- What a call answers where it ends, and that it pays for no more dead prefixes than it met.
use Rattle.std.proofs.Common.{◌≡◌, ℕ, ◌+◌, ◌-◌, ◌*◌, ◌<◌, ◌≤◌, ◌⊎◌, inl, inr, Bool, true, false, cond, List, [], ◌∷◌, ◌++◌, length, take, drop, None, slice_get, All, Result, Err, IsOk, refl, sym, ap, ◌∙◌, subst, arith, append_assoc, append-nil, length-append}
use Rattle.std.specs.List.{filter, AllByRecursion}
use Rattle.std.specs.Ordering.{is_lt}
use Rattle.std.specs.Option.{is_none}
use Rattle.std.proofs.lemmas.List.{take_at, drop_at}
use Rattle.std.proofs.lemmas.List.Elements.{All-push, filter-append, recursion_from_All}
use Rattle.variant_list.specs.Labels.{IsRising, label_cmp}
use Rattle.variant_list.specs.Positions.{Position, candidates_ahead, tested_ahead}
use Rattle.variant_list.specs.Steps.{NoneAccepted, last_of, moved_over, IsFound, IsOutOfTries, IsEnded, IsOutOfSteps, IsInterrupted, HasMovedOver, HasGoneBeyond}
use Rattle.variant_list.specs.Beginnings.{shortest_hopeless, has_no_dead_prefix, dead_prefixes}
use Rattle.variant_list.specs.Tested.{dead_prefixes_after, dead_prefixes_between}
use Rattle.variant_list.specs.inner.Skips.{edges_of_net, GoesBack, FindsTested, FindsNone}
use Rattle.variant_list.proofs.ListLemmas.{looks-sum, product-le, last_of-push, filter-none, slice_get-after}
use Rattle.variant_list.proofs.DeadPrefixSearches.{IsRising-ahead, edges-same}
use Rattle.variant_list.proofs.DeadPrefixLemmas.{dead_prefixes-joined}
use Rattle.variant_list.proofs.TestedLemmas.{tested-filter, below-front}
use Rattle.variant_list.proofs.SeekSteps.{EndsIn, HasGone, HasPassed, HasGone-next, joined, no_shortest, one_tested}

-- an error is no answer
pub not_ok : {A E : Type 0} {r : Result A E} {e : E} → r ≡ Err e → ¬ IsOk r
not_ok is ok = let bad : false ≡ true = subst IsOk is ok in cc

middle : (P : List ℕ → Type 0) (before : List (List ℕ)) (v : List ℕ) (after : List (List ℕ)) → AllByRecursion P (before ++ v ∷ after) → P v
middle P [] v after all = all.0
middle P (u ∷ before) v after all = middle P before v after all.1

module _ (hopeless : List ℕ → Bool) where
  -- the tested labels ahead of a call: those that it decided, and those ahead of where it is
  parts : (old : Position) (tries : ℕ) (now : Position) (left : ℕ) (h : HasGone hopeless old tries now left) → tested_ahead hopeless old ≡ filter (has_no_dead_prefix hopeless) h.front ++ filter (has_no_dead_prefix hopeless) (candidates_ahead now)
  parts old tries now left h =
      tested-filter hopeless old.net.spelled old.last ∙ ap (filter (has_no_dead_prefix hopeless)) h.whole ∙ filter-append (has_no_dead_prefix hopeless) h.front (candidates_ahead now)

  -- the first of those ahead
  first_tested : (now new : Position) → FindsTested hopeless now new → filter (has_no_dead_prefix hopeless) (candidates_ahead now) ≡ new.last ∷ filter (has_no_dead_prefix hopeless) (candidates_ahead new)
  first_tested now new found =
      ap (filter (has_no_dead_prefix hopeless)) found.whole ∙ filter-append (has_no_dead_prefix hopeless) found.passed (new.last ∷ candidates_ahead new)
      ∙ ap (λ vs. vs ++ filter (has_no_dead_prefix hopeless) (new.last ∷ candidates_ahead new)) (filter-none (has_no_dead_prefix hopeless) found.passed found.dead)
      ∙ ap (λ b. cond b (new.last ∷ filter (has_no_dead_prefix hopeless) (candidates_ahead new)) (filter (has_no_dead_prefix hopeless) (candidates_ahead new))) found.alive

  -- what holds of all tested labels holds of the one at which a call is
  pub undecided-tested : (P : List ℕ → Type 0) (old : Position) (tries : ℕ) (now new : Position) (left : ℕ) → HasGone hopeless old tries now left → FindsTested hopeless now new → All P (tested_ahead hopeless old) → P new.last
  undecided-tested P old tries now new left h found all =
      let decided = filter (has_no_dead_prefix hopeless) h.front in
      let rest = filter (has_no_dead_prefix hopeless) (candidates_ahead new) in
      middle P decided new.last rest (recursion_from_All P (decided ++ new.last ∷ rest) (subst (All P) (parts old tries now left h ∙ ap (λ vs. decided ++ vs) (first_tested now new found)) all))

  -- the last label is the last that was decided
  last_decided : (old : Position) (front : List (List ℕ)) (last : List ℕ) → ((front ≡ []) × (last ≡ old.last)) ⊎ EndsIn hopeless front last → last ≡ last_of old.last (filter (has_no_dead_prefix hopeless) front)
  last_decided old front last (inl none) = none.1 ∙ ap (λ f. last_of old.last (filter (has_no_dead_prefix hopeless) f)) (sym none.0)
  last_decided old front last (inr ends) =
      let keeps : filter (has_no_dead_prefix hopeless) (last ∷ []) ≡ last ∷ [] = ap (λ o. cond (is_none o) (last ∷ []) []) ends.alive in
      sym (ap (λ f. last_of old.last (filter (has_no_dead_prefix hopeless) f)) ends.is
      ∙ ap (last_of old.last) (filter-append (has_no_dead_prefix hopeless) ends.others (last ∷ []) ∙ ap (λ vs. filter (has_no_dead_prefix hopeless) ends.others ++ vs) keeps)
      ∙ last_of-push old.last (filter (has_no_dead_prefix hopeless) ends.others) last)

  -- the labels decided are the first tested ones
  first_decided : (old : Position) (tries : ℕ) (now : Position) (left : ℕ) (h : HasGone hopeless old tries now left) → take (tries - left) (tested_ahead hopeless old) ≡ filter (has_no_dead_prefix hopeless) h.front
  first_decided old tries now left h =
      ap (take (tries - left)) (parts old tries now left h) ∙ take_at (filter (has_no_dead_prefix hopeless) h.front) (filter (has_no_dead_prefix hopeless) (candidates_ahead now)) (tries - left) (omega (arith, h.counted))

  last-gone : (old : Position) (tries : ℕ) (now : Position) (left : ℕ) → HasGone hopeless old tries now left → now.last ≡ (moved_over hopeless (tries - left) old).last
  last-gone old tries now left h = last_decided old h.front now.last h.shape ∙ ap (last_of old.last) (sym (first_decided old tries now left h))

  module _ (accepts : List ℕ → Bool) (old : Position) (tries : ℕ) (now : Position) (left : ℕ) where
    pub HasPassed-next : (new : Position) → HasPassed accepts hopeless old tries now left → FindsTested hopeless now new → accepts new.last ≡ false → 0 < left → HasPassed accepts hopeless old tries new (left - 1)
    unfolding HasGone-next
    HasPassed-next new h found refused some = record {
      gone = HasGone-next hopeless old tries now new left h.gone found some;
      none_accepted = subst (NoneAccepted accepts)
          (sym (filter-append (has_no_dead_prefix hopeless) h.gone.front (found.passed ++ new.last ∷ []) ∙ ap (λ vs. filter (has_no_dead_prefix hopeless) h.gone.front ++ vs) (one_tested hopeless found.passed new.last found.dead found.alive)))
          (All-push (λ w. accepts w ≡ false) (filter (has_no_dead_prefix hopeless) h.gone.front) new.last h.none_accepted refused);
    }

    pub IsFound-next : (new : Position) → HasPassed accepts hopeless old tries now left → FindsTested hopeless now new → accepts new.last ≡ true → 0 < left → IsFound accepts hopeless old tries (moved_over hopeless (tries - (left - 1)) old).last (moved_over hopeless (tries - (left - 1)) old) (left - 1)
    IsFound-next new h found accepted some =
        let decided = filter (has_no_dead_prefix hopeless) h.gone.front in
        let to = moved_over hopeless (tries - (left - 1)) old in
        let here : new.last ≡ to.last = last-gone old tries new (left - 1) (HasGone-next hopeless old tries now new left h.gone found some) in
        let all : tested_ahead hopeless old ≡ decided ++ new.last ∷ filter (has_no_dead_prefix hopeless) (candidates_ahead new) = parts old tries now left h.gone ∙ ap (λ vs. decided ++ vs) (first_tested now new found) in
        subst (λ v. IsFound accepts hopeless old tries v to (left - 1)) here (record {
          before = length decided;
          at = ap (λ vs. slice_get vs (length decided)) all ∙ slice_get-after decided new.last (filter (has_no_dead_prefix hopeless) (candidates_ahead new));
          accepted = accepted;
          first = subst (NoneAccepted accepts) (sym (ap (take (length decided)) all ∙ take_at decided (new.last ∷ filter (has_no_dead_prefix hopeless) (candidates_ahead new)) (length decided) refl)) h.none_accepted;
          within = omega (arith, h.gone.counted, some);
          last = sym here;
          tries_left = omega (arith, h.gone.counted, some);
        })

    pub IsOutOfTries-passed : HasPassed accepts hopeless old tries now left → left ≡ 0 → IsOutOfTries accepts hopeless old tries (moved_over hopeless (tries - left) old) left
    IsOutOfTries-passed h none =
        let all : tries - left ≡ tries = omega (arith, none) in
        let first_ones : take tries (tested_ahead hopeless old) ≡ filter (has_no_dead_prefix hopeless) h.gone.front = ap (λ n. take n (tested_ahead hopeless old)) (sym all) ∙ first_decided old tries now left h.gone in
        record {
          there = omega (arith, none, h.gone.counted, ap length (parts old tries now left h.gone), length-append (filter (has_no_dead_prefix hopeless) h.gone.front) (filter (has_no_dead_prefix hopeless) (candidates_ahead now)));
          none_accepted = subst (NoneAccepted accepts) (sym first_ones) h.none_accepted;
          last = ap (λ n. last_of old.last (take n (tested_ahead hopeless old))) all;
          tries_left = none;
        }

    pub IsEnded-passed : (mid : Position) → HasPassed accepts hopeless old tries now left → FindsNone hopeless now mid → 0 < left → IsEnded accepts hopeless old tries (moved_over hopeless (tries - left) old) left
    IsEnded-passed mid h found some =
        let decided = filter (has_no_dead_prefix hopeless) h.gone.front in
        let all : tested_ahead hopeless old ≡ decided = parts old tries now left h.gone ∙ ap (λ vs. decided ++ vs) (filter-none (has_no_dead_prefix hopeless) (candidates_ahead now) found.dead) ∙ append-nil decided in
        record {
          fewer = omega (arith, h.gone.counted, some, ap length all);
          none_accepted = subst (NoneAccepted accepts) (sym all) h.none_accepted;
          last = ap (last_of old.last) (first_decided old tries now left h.gone ∙ sym all);
          tries_left = omega (arith, h.gone.counted, some, ap length all);
        }

    -- the search for a tested label came to no tested label
    pub IsOutOfSteps-passed : HasPassed accepts hopeless old tries now left → 0 < left → IsOutOfSteps accepts hopeless old tries left
    IsOutOfSteps-passed h some =
        let decided = filter (has_no_dead_prefix hopeless) h.gone.front in
        let all : tested_ahead hopeless old ≡ decided ++ filter (has_no_dead_prefix hopeless) (candidates_ahead now) = parts old tries now left h.gone in
        record {
          decided = length decided;
          within = omega (arith, h.gone.counted, some);
          there = omega (arith, ap length all, length-append decided (filter (has_no_dead_prefix hopeless) (candidates_ahead now)));
          none_accepted = subst (NoneAccepted accepts) (sym (ap (take (length decided)) all ∙ take_at decided (filter (has_no_dead_prefix hopeless) (candidates_ahead now)) (length decided) refl)) h.none_accepted;
          tries_left = omega (arith, h.gone.counted, some);
        }

    pub HasGoneBeyond-passed : (new : Position) → HasPassed accepts hopeless old tries now left → new.net ≡ now.net → tested_ahead hopeless new ≡ tested_ahead hopeless now → HasGoneBeyond hopeless (tries - left) old new
    HasGoneBeyond-passed new h net ahead =
        let decided = filter (has_no_dead_prefix hopeless) h.gone.front in
        let more = filter (has_no_dead_prefix hopeless) (candidates_ahead now) in
        record {
          net = net ∙ h.gone.net;
          ahead = ahead ∙ tested-filter hopeless now.net.spelled now.last
              ∙ sym (ap (drop (tries - left)) (parts old tries now left h.gone) ∙ drop_at decided more (tries - left) (omega (arith, h.gone.counted)));
        }

    pub IsInterrupted-passed : (mid : Position) → HasPassed accepts hopeless old tries now left → FindsTested hopeless now mid → 0 < left → IsInterrupted accepts hopeless old tries (moved_over hopeless (tries - left) old) left
    IsInterrupted-passed mid h found some =
        let decided = filter (has_no_dead_prefix hopeless) h.gone.front in
        let more = filter (has_no_dead_prefix hopeless) (candidates_ahead mid) in
        let all : tested_ahead hopeless old ≡ decided ++ mid.last ∷ more = parts old tries now left h.gone ∙ ap (λ vs. decided ++ vs) (first_tested now mid found) in
        let first_ones : take (length decided) (tested_ahead hopeless old) ≡ decided = ap (take (length decided)) all ∙ take_at decided (mid.last ∷ more) (length decided) refl in
        record {
          decided = length decided;
          within = omega (arith, h.gone.counted, some);
          more = omega (arith, ap length all, length-append decided (mid.last ∷ more));
          none_accepted = subst (NoneAccepted accepts) (sym first_ones) h.none_accepted;
          last = ap (last_of old.last) (first_decided old tries now left h.gone ∙ sym first_ones);
          tries_left = omega (arith, h.gone.counted, some);
        }

  -- ---- what it costs

  module _ (old : Position) (tries : ℕ) (now : Position) (left : ℕ) where
    looks-below : HasGone hopeless old tries now left → now.edge_tests ≤ 256 * (edges_of_net old * ((tries - left) + length (dead_prefixes_between hopeless old.net.spelled old.last now.last) + 1))
    looks-below h =
        let met = length (dead_prefixes hopeless None h.front) in
        let count = length (filter (has_no_dead_prefix hopeless) h.front) in
        let paid = (tries - left) + length (dead_prefixes_between hopeless old.net.spelled old.last now.last) + 1 in
        let few : met + count ≤ paid = omega (arith, h.counted, no_more h.front now.last h.shape h.whole) in
        omega (arith, h.looks, product-le (edges_of_net old) (met + count) paid few)
      where
        no_more : (front : List (List ℕ)) (last : List ℕ) → ((front ≡ []) × (last ≡ old.last)) ⊎ EndsIn hopeless front last → candidates_ahead old ≡ front ++ candidates_ahead now → length (dead_prefixes hopeless None front) ≤ length (dead_prefixes_between hopeless old.net.spelled old.last last)
        no_more front last (inl none) whole = omega (arith, ap (λ f. length (dead_prefixes hopeless None f)) none.0)
        no_more front last (inr ends) whole =
            let all : candidates_ahead old ≡ ends.others ++ last ∷ candidates_ahead now = whole ∙ ap (λ f. f ++ candidates_ahead now) ends.is ∙ append_assoc ends.others (last ∷ []) (candidates_ahead now) in
            let below : filter (λ u. is_lt (label_cmp u last)) (candidates_ahead old) ≡ ends.others =
            ap (filter (λ u. is_lt (label_cmp u last))) all ∙ below-front ends.others last (candidates_ahead now) (subst IsRising all (IsRising-ahead old)) in
            let once = dead_prefixes-joined hopeless None ends.others last [] ends.alive in
            omega (arith, ap (λ vs. length (dead_prefixes hopeless None vs)) below, ap (λ vs. length (dead_prefixes hopeless None vs)) ends.is, ap length once, ap length (append-nil (dead_prefixes hopeless None ends.others)))

    -- a search for a tested label that was undone
    looks-back : (mid new : Position) (met : ℕ) (label : List ℕ) → HasGone hopeless old tries now left → mid.net ≡ now.net → mid.edge_tests ≤ now.edge_tests + 126 * (edges_of_net now * (met + 1)) → met ≤ length (dead_prefixes hopeless None (candidates_ahead now)) → GoesBack mid label new → new.edge_tests ≤ 256 * (edges_of_net old * ((tries - left) + length (dead_prefixes_after hopeless old.net.spelled old.last) + 1))
    looks-back mid new met label h net more few back =
        let before = length (dead_prefixes hopeless None h.front) in
        let count = length (filter (has_no_dead_prefix hopeless) h.front) in
        let searches = before + count + (met + 1) in
        let paid = (tries - left) + length (dead_prefixes_after hopeless old.net.spelled old.last) + 1 in
        let there : mid.edge_tests ≤ 126 * (edges_of_net old * searches) = looks-sum now.edge_tests mid.edge_tests (edges_of_net old) (before + count) (met + 1) searches h.looks (subst (λ e. mid.edge_tests ≤ now.edge_tests + 126 * (e * (met + 1))) (edges-same now old h.net) more) refl in
        let all : length (dead_prefixes_after hopeless old.net.spelled old.last) ≡ before + length (dead_prefixes hopeless None (candidates_ahead now)) =
        ap (λ vs. length (dead_prefixes hopeless None vs)) h.whole ∙ ap length (joined hopeless h.front now.last old.last (candidates_ahead now) h.shape) ∙ length-append (dead_prefixes hopeless None h.front) (dead_prefixes hopeless None (candidates_ahead now)) in
        let enough : searches ≤ paid = omega (arith, h.counted, all, few) in
        let edges : (edges_of_net mid) ≡ (edges_of_net old) = edges-same mid now net ∙ edges-same now old h.net in
        let once : edges_of_net old * 1 ≤ edges_of_net old * paid = product-le (edges_of_net old) 1 paid (omega arith) in
        omega (arith, there, back.looks, edges, product-le (edges_of_net old) searches paid enough, once)

    pub HasMovedOver-below : HasGone hopeless old tries now left → HasMovedOver hopeless (tries - left) (length (dead_prefixes_between hopeless old.net.spelled old.last (moved_over hopeless (tries - left) old).last)) old now
    HasMovedOver-below h =
        let last : now.last ≡ (moved_over hopeless (tries - left) old).last = last-gone old tries now left h in
        record {
          net = h.net;
          last = last;
          edge_tests = subst (λ l. now.edge_tests ≤ 256 * (edges_of_net old * ((tries - left) + length (dead_prefixes_between hopeless old.net.spelled old.last l) + 1))) last (looks-below h);
        }

    HasMovedOver-back : (mid new : Position) (met : ℕ) → HasGone hopeless old tries now left → mid.net ≡ now.net → mid.edge_tests ≤ now.edge_tests + 126 * (edges_of_net now * (met + 1)) → met ≤ length (dead_prefixes hopeless None (candidates_ahead now)) → GoesBack mid now.last new
        → HasMovedOver hopeless (tries - left) (length (dead_prefixes_after hopeless old.net.spelled old.last)) old new
    HasMovedOver-back mid new met h net more few back = record {
      net = back.net ∙ net ∙ h.net;
      last = back.last ∙ last-gone old tries now left h;
      edge_tests = looks-back mid new met now.last h net more few back;
    }

    pub HasMovedOver-ended : (mid new : Position) → HasGone hopeless old tries now left → FindsNone hopeless now mid → GoesBack mid now.last new → HasMovedOver hopeless (tries - left) (length (dead_prefixes_after hopeless old.net.spelled old.last)) old new
    HasMovedOver-ended mid new h found back =
        HasMovedOver-back mid new (length (dead_prefixes hopeless None (candidates_ahead now))) h found.net found.looks (omega arith) back

    pub HasMovedOver-undone : (mid new : Position) → HasGone hopeless old tries now left → FindsTested hopeless now mid → GoesBack mid now.last new → HasMovedOver hopeless (tries - left) (length (dead_prefixes_after hopeless old.net.spelled old.last)) old new
    HasMovedOver-undone mid new h found back =
        let all = ap (dead_prefixes hopeless None) found.whole ∙ dead_prefixes-joined hopeless None found.passed mid.last (candidates_ahead mid) (no_shortest (shortest_hopeless hopeless mid.last) found.alive) in
        let few : length (dead_prefixes hopeless None found.passed) ≤ length (dead_prefixes hopeless None (candidates_ahead now)) = omega (arith, ap length all, length-append (dead_prefixes hopeless None found.passed) (dead_prefixes hopeless None (candidates_ahead mid))) in
        HasMovedOver-back mid new (length (dead_prefixes hopeless None found.passed)) h found.net found.looks few back
