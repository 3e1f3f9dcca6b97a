-- The steps of several searches for a tested label, one after another: the label visited with the last of them.
use Rattle.std.proofs.Common.{◌≡◌, ℕ, ◌+◌, ◌-◌, ◌*◌, ◌<◌, ◌≤◌, ◌⊎◌, inl, inr, Bool, true, false, List, [], ◌∷◌, ◌++◌, length, take, drop, Option, Some, None, refl, sym, ap, ◌∙◌, subst, arith, append_assoc, append-nil, length-append}
use Rattle.std.specs.Prelude.{IfSome}
use Rattle.std.specs.List.{filter}
use Rattle.std.proofs.Math.Seq.{take-append-add, drop-append_seam}
use Rattle.std.proofs.lemmas.Bool.Decides.{nat_tests}
use Rattle.std.proofs.lemmas.List.{take_at}
use Rattle.variant_list.specs.Positions.{Position, candidates_ahead}
use Rattle.variant_list.specs.Beginnings.{shortest_hopeless, has_no_dead_prefix, dead_prefixes}
use Rattle.variant_list.specs.Steps.{last_of}
use Rattle.variant_list.specs.Visited.{visited, visited_ahead, has_step, TakesSteps}
use Rattle.variant_list.specs.Stepping.{Visits, VisitsAll, UsesAllSteps}
use Rattle.variant_list.specs.inner.Skips.{edges_of_net}
use Rattle.variant_list.specs.inner.CountedSearches.{FindsTestedIn, FindsNoneIn, UsesAllStepsIn}
use Rattle.variant_list.proofs.ListLemmas.{last_of-push, looks-sum}
use Rattle.variant_list.proofs.DeadPrefixSearches.{edges-same}
use Rattle.variant_list.proofs.SeekSteps.{EndsIn, HasGone, HasGone-next, no_shortest}
use Rattle.variant_list.proofs.VisitedLemmas.{visited-joined, visited-dead, visited-count}
use Rattle.variant_list.proofs.StepCounts.{TakesSteps-none, TakesSteps-more}

-- ---- lists

last_of-append : (start : List ℕ) (front ws : List (List ℕ)) → last_of start (front ++ ws) ≡ last_of (last_of start front) ws
last_of-append start [] ws = refl
last_of-append start (v ∷ front) ws = last_of-append v front ws

module _ (hopeless : List ℕ → Bool) where
  -- ---- what was gone over, and what is ahead

  module _ (last start : List ℕ) where
    -- after a label without a dead prefix the visited labels are those of what follows
    visited-front : (front ws : List (List ℕ)) → ((front ≡ []) × (last ≡ start)) ⊎ EndsIn hopeless front last → visited hopeless None (front ++ ws) ≡ visited hopeless None front ++ visited hopeless None ws
    visited-front front ws (inl none) = ap (λ f. visited hopeless None (f ++ ws)) none.0 ∙ sym (ap (λ f. visited hopeless None f ++ visited hopeless None ws) none.0)
    visited-front front ws (inr ends) =
        ap (λ f. visited hopeless None (f ++ ws)) ends.is ∙ ap (visited hopeless None) (append_assoc ends.others (last ∷ []) ws)
        ∙ visited-joined hopeless ends.others last ws ends.alive
        ∙ ap (λ us. us ++ visited hopeless None ws) (sym (ap (visited hopeless None) ends.is ∙ visited-joined hopeless ends.others last [] ends.alive ∙ append-nil (visited hopeless None ends.others ++ last ∷ [])))

    -- the last label is the last one visited
    visited-last : (front : List (List ℕ)) → ((front ≡ []) × (last ≡ start)) ⊎ EndsIn hopeless front last → last ≡ last_of start (visited hopeless None front)
    visited-last front (inl none) = none.1 ∙ ap (λ f. last_of start (visited hopeless None f)) (sym none.0)
    visited-last front (inr ends) =
        sym (ap (λ f. last_of start (visited hopeless None f)) ends.is
        ∙ ap (last_of start) (visited-joined hopeless ends.others last [] ends.alive ∙ append-nil (visited hopeless None ends.others ++ last ∷ []))
        ∙ last_of-push start (visited hopeless None ends.others) last)

  -- a call began at `old` with `steps`, and `rest` are left
  pub record HasStepped (old : Position) (tries : ℕ) (steps : Option ℕ) (now : Position) (left : ℕ) (rest : Option ℕ) : Type 0 where
    pub gone : HasGone hopeless old tries now left
    pub takes : TakesSteps steps (length (visited hopeless None gone.front)) rest

  -- ---- one search more

  size : (vs : List (List ℕ)) (v : List ℕ) → length (vs ++ v ∷ []) ≡ length vs + 1
  size vs v = omega (arith, length-append vs (v ∷ []))

  -- over one more tested label
  pub HasStepped-next : (old : Position) (tries : ℕ) (steps : Option ℕ) (now new : Position) (left : ℕ) (rest rest' : Option ℕ) → HasStepped old tries steps now left rest → FindsTestedIn hopeless now rest new rest' → 0 < left → HasStepped old tries steps new (left - 1) rest'
  unfolding HasGone-next
  HasStepped-next old tries steps now new left rest rest' h found some =
      let f = found.finds in
      let alive = no_shortest (shortest_hopeless hopeless new.last) f.alive in
      let front = visited hopeless None h.gone.front in
      let ends = dead_prefixes hopeless None f.passed in
      let piece : visited hopeless None (f.passed ++ new.last ∷ []) ≡ ends ++ new.last ∷ [] =
      visited-joined hopeless f.passed new.last [] alive ∙ append-nil (visited hopeless None f.passed ++ new.last ∷ []) ∙ ap (λ us. us ++ new.last ∷ []) (visited-dead hopeless None f.passed f.dead) in
      let all : length (visited hopeless None (h.gone.front ++ (f.passed ++ new.last ∷ []))) ≡ length front + (length ends + 1) =
      ap length (visited-front now.last old.last h.gone.front (f.passed ++ new.last ∷ []) h.gone.shape ∙ ap (λ us. front ++ us) piece)
      ∙ length-append front (ends ++ new.last ∷ []) ∙ ap (λ n. length front + n) (size ends new.last) in
      record {
        gone = HasGone-next hopeless old tries now new left h.gone f some;
        takes = subst (λ n. TakesSteps steps n rest') (sym all) (TakesSteps-more steps (length front) rest (length ends + 1) rest' h.takes found.takes);
      }

  pub HasStepped-none : (old now : Position) (tries : ℕ) (steps : Option ℕ) → now ≡ record old { edge_tests = 0 } → HasStepped old tries steps now tries steps
  HasStepped-none old now tries steps h = record {
    gone = record {
      net = ap (λ (p : Position). p.net) h;
      front = [];
      shape = inl (refl, ap (λ (p : Position). p.last) h);
      whole = sym (ap candidates_ahead h);
      counted = omega arith;
      looks = omega (arith, ap (λ (p : Position). p.edge_tests) h);
    };
    takes = TakesSteps-none steps;
  }

  -- ---- where the call ends

  module _ (old : Position) (tries : ℕ) (steps : Option ℕ) (now : Position) (left : ℕ) (rest : Option ℕ) (h : HasStepped old tries steps now left rest) where
    abbrev front : List (List ℕ)
    front = visited hopeless None h.gone.front

    whole : visited_ahead hopeless old ≡ front ++ visited_ahead hopeless now
    whole = ap (visited hopeless None) h.gone.whole ∙ visited-front now.last old.last h.gone.front (candidates_ahead now) h.gone.shape

    -- after so many steps the cursor stands at the label visited with the last of them
    pub Visits-stepped : Visits hopeless old steps now rest
    Visits-stepped = record {
      taken = length front;
      takes = h.takes;
      there = omega (arith, ap length whole, length-append front (visited_ahead hopeless now));
      last = visited-last now.last old.last h.gone.front h.gone.shape
          ∙ ap (last_of old.last) (sym (ap (take (length front)) whole ∙ take_at front (visited_ahead hopeless now) (length front) refl));
      ahead = sym (ap (drop (length front)) whole ∙ drop-append_seam front (visited_ahead hopeless now));
    }

    -- where no label is left, all were visited, and another step could be taken
    pub all_visited : (mid : Position) (rest' : Option ℕ) → FindsNoneIn hopeless now rest mid rest' → VisitsAll hopeless old steps rest'
    all_visited mid rest' found =
        let ahead = ap length (visited-dead hopeless None (candidates_ahead now) found.finds.dead) in
        let all : length (visited_ahead hopeless old) ≡ length front + length (dead_prefixes hopeless None (candidates_ahead now)) = omega (arith, ap length whole, length-append front (visited_ahead hopeless now), ahead) in
        let takes : TakesSteps steps (length (visited_ahead hopeless old)) rest' =
        subst (λ n. TakesSteps steps n rest') (sym all) (TakesSteps-more steps (length front) rest (length (dead_prefixes hopeless None (candidates_ahead now))) rest' h.takes found.takes) in
        record { fewer = more steps (length (visited_ahead hopeless old)) rest' takes found.more; counted = takes.fewer }
      where
        more : (steps : Option ℕ) (n : ℕ) (left : Option ℕ) → TakesSteps steps n left → has_step left ≡ true → IfSome steps (λ m. n < m)
        more None n left t some = tt
        more (Some m) n left t some = positive (subst (λ (o : Option ℕ). has_step o ≡ true) t.fewer some)
          where
            positive : has_step (let o : Option ℕ = Some (m - n) in o) ≡ true → n < m
            positive h = grind (arith, nat_tests)

    -- where the steps are used up, the cursor stands at the label visited with the last of them
    pub UsesAllSteps-stepped : (mid : Position) (rest' : Option ℕ) → UsesAllStepsIn hopeless now rest mid rest' → UsesAllSteps hopeless old steps mid rest'
    UsesAllSteps-stepped mid rest' halt =
        let taken = length front + halt.taken in
        let all = TakesSteps-more steps (length front) rest halt.taken rest' h.takes halt.takes in
        let ends : (steps ≡ Some taken) × (rest' ≡ Some 0) = used steps taken rest' all halt.none in
        let size = ap length whole ∙ length-append front (visited_ahead hopeless now) in
        record {
          count = taken;
          all = ends.0;
          none = ends.1;
          there = omega (arith, size, halt.stands.there);
          last = halt.stands.last ∙ ap (λ l. last_of l (take halt.taken (visited_ahead hopeless now))) (visited-last now.last old.last h.gone.front h.gone.shape)
              ∙ sym (last_of-append old.last front (take halt.taken (visited_ahead hopeless now)))
              ∙ ap (last_of old.last) (sym (ap (take taken) whole ∙ take-append-add front (visited_ahead hopeless now) halt.taken));
          edge_tests =
              let before = length (dead_prefixes hopeless None h.gone.front) + length (filter (has_no_dead_prefix hopeless) h.gone.front) in
              let same : before ≡ length front = sym (visited-count hopeless None h.gone.front) in
              let looks = subst (λ e. mid.edge_tests ≤ now.edge_tests + 126 * (e * halt.taken)) (edges-same now old h.gone.net) halt.stands.looks in
              let few : mid.edge_tests ≤ 126 * (edges_of_net old * taken) = looks-sum now.edge_tests mid.edge_tests (edges_of_net old) before halt.taken taken h.gone.looks looks (omega (arith, same)) in
              omega (arith, few);
        }
      where
        used : (steps : Option ℕ) (n : ℕ) (left : Option ℕ) → TakesSteps steps n left → has_step left ≡ false → (steps ≡ Some n) × (left ≡ Some 0)
        used None n left t none = let clash : true ≡ false = sym (ap has_step t.fewer) ∙ none in cc
        used (Some m) n left t none =
            let least : m - n ≡ 0 = zero_left (subst (λ (o : Option ℕ). has_step o ≡ false) t.fewer none) in
            let within : n ≤ m = t.within in
            (ap (λ (k : ℕ). let o : Option ℕ = Some k in o) (omega arith), t.fewer ∙ ap (λ (k : ℕ). let o : Option ℕ = Some k in o) least)
          where
            zero_left : has_step (let o : Option ℕ = Some (m - n) in o) ≡ false → m - n ≡ 0
            zero_left h = grind (arith, nat_tests)
