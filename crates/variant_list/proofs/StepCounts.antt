-- How many steps a search for a tested label takes, and where it stands when they are used up.
use Rattle.std.proofs.Common.{◌≡◌, ℕ, ◌+◌, ◌-◌, ◌<◌, ◌≤◌, Bool, true, false, List, [], ◌∷◌, ◌++◌, length, take, Option, Some, None, refl, sym, ap, ◌∙◌, subst, arith, append_assoc, append-nil, length-append}
use Rattle.std.specs.Prelude.{IfSome}
use Rattle.std.specs.List.{AllByRecursion, filter}
use Rattle.std.proofs.lemmas.List.{take_at}
use Rattle.std.proofs.lemmas.List.Elements.{filter-append}
use Rattle.variant_list.specs.Positions.{Position, candidates_ahead, tested_ahead}
use Rattle.variant_list.specs.Beginnings.{shortest_hopeless, has_no_dead_prefix, shares, dead_prefixes}
use Rattle.variant_list.specs.Steps.{last_of}
use Rattle.variant_list.specs.Visited.{visited, visited_ahead, has_step, fewer_steps, TakesSteps}
use Rattle.variant_list.specs.inner.Skips.{outside, Searches}
use Rattle.variant_list.specs.inner.CountedSearches.{StandsAfter, FindsTestedIn, FindsNoneIn, UsesAllStepsIn}
use Rattle.variant_list.proofs.ListLemmas.{slice_get-none, filter-none, last_of-push, AllByRecursion-append}
use Rattle.variant_list.proofs.VisitedLemmas.{visited-dead_prefix}
use Rattle.variant_list.proofs.LabelsAfter.{inside, inside-shares, outside-apart}
use Rattle.variant_list.proofs.DeadPrefixLemmas.{BeginsApart, dead_prefixes-one}
use Rattle.variant_list.proofs.DeadPrefixSearches.{dead-some, Skips, Skips-none, Skips-more, reached, FindsTested-found, FindsNone-unfound}
use Rattle.variant_list.proofs.TestedLemmas.{tested-filter}

-- ---- steps taken

pub TakesSteps-none : (steps : Option ℕ) → TakesSteps steps 0 steps
TakesSteps-none None = record { within = tt; fewer = refl }
TakesSteps-none (Some n) = record { within = omega arith; fewer = ap (λ (m : ℕ). let o : Option ℕ = Some m in o) (omega arith) }

-- some, and then others
pub TakesSteps-more : (steps : Option ℕ) (first : ℕ) (between : Option ℕ) (second : ℕ) (left : Option ℕ) → TakesSteps steps first between → TakesSteps between second left → TakesSteps steps (first + second) left
TakesSteps-more None first between second left a b = record { within = tt; fewer = b.fewer ∙ ap (λ (o : Option ℕ). fewer_steps o second) a.fewer }
TakesSteps-more (Some n) first between second left a b = record {
  within =
      let rest : second ≤ n - first = subst (λ (o : Option ℕ). IfSome o (λ m. second ≤ m)) a.fewer b.within in
      let first_ones : first ≤ n = a.within in omega arith;
  fewer = b.fewer ∙ ap (λ (o : Option ℕ). fewer_steps o second) a.fewer ∙ ap (λ (m : ℕ). let o : Option ℕ = Some m in o) (omega arith);
}

-- ---- a search for a tested label under way

-- it began at `old`, came to dead prefixes alone, one with each step, and stands at the last of them, if it came to one
pub record SkipsIn (hopeless : List ℕ → Bool) (old : Position) (steps : Option ℕ) (top : ℕ) (now : Position) (left : Option ℕ) : Type 0 where
  pub skips : Skips hopeless old top now
  pub takes : TakesSteps steps (length (dead_prefixes hopeless None skips.passed)) left
  pub stands : StandsAfter hopeless old (length (dead_prefixes hopeless None skips.passed)) now

pub SkipsIn-none : (hopeless : List ℕ → Bool) (p : Position) (steps : Option ℕ) (top : ℕ) → length p.last < top → SkipsIn hopeless p steps top p steps
unfolding Skips-none
SkipsIn-none hopeless p steps top long = record {
  skips = Skips-none hopeless p top long;
  takes = TakesSteps-none steps;
  stands = record { net = refl; there = omega arith; last = refl; ahead = refl; looks = omega arith };
}

-- the dead prefixes before the next one, it, and those after the labels that share its dead prefix
ends-one : (hopeless : List ℕ → Bool) (old : Position) (top : ℕ) (now new : Position) (n : ℕ) (h : Skips hopeless old top now) → Searches now top true new → shortest_hopeless hopeless new.last ≡ Some n
    → (vs : List (List ℕ)) → AllByRecursion (λ v. shares n new.last v ≡ true) vs → dead_prefixes hopeless None (h.passed ++ new.last ∷ vs) ≡ dead_prefixes hopeless None h.passed ++ new.last ∷ []
ends-one hopeless old top now new n h found is vs share =
    let r = reached hopeless old top now new h found in
    let apart : BeginsApart top now.last (new.last ∷ vs) = subst (BeginsApart top now.last) r.rest (outside-apart top now.last (candidates_ahead now)) in
    ap (λ ws. dead_prefixes hopeless None (h.passed ++ new.last ∷ ws)) (sym (append-nil vs))
    ∙ h.joins (new.last ∷ vs ++ []) apart
    ∙ ap (λ hs. dead_prefixes hopeless None h.passed ++ hs) (dead_prefixes-one hopeless n new.last vs [] is share tt)

-- the tested labels after labels with a dead prefix
tested-after : (hopeless : List ℕ → Bool) (old new : Position) (passed : List (List ℕ)) → candidates_ahead old ≡ passed ++ new.last ∷ candidates_ahead new → AllByRecursion (λ v. has_no_dead_prefix hopeless v ≡ false) (passed ++ new.last ∷ []) → tested_ahead hopeless new ≡ tested_ahead hopeless old
tested-after hopeless old new passed whole dead =
    let front = passed ++ new.last ∷ [] in
    let rest = candidates_ahead new in
    let all : candidates_ahead old ≡ front ++ rest = whole ∙ sym (append_assoc passed (new.last ∷ []) rest) in
    tested-filter hopeless new.net.spelled new.last
    ∙ sym (tested-filter hopeless old.net.spelled old.last ∙ ap (filter (has_no_dead_prefix hopeless)) all ∙ filter-append (has_no_dead_prefix hopeless) front rest
    ∙ ap (λ vs. vs ++ filter (has_no_dead_prefix hopeless) rest) (filter-none (has_no_dead_prefix hopeless) front dead))

pub SkipsIn-more : (hopeless : List ℕ → Bool) (old : Position) (steps : Option ℕ) (top : ℕ) (now new : Position) (n : ℕ) (before left : Option ℕ) → SkipsIn hopeless old steps top now before → Searches now top true new
    → shortest_hopeless hopeless new.last ≡ Some n → TakesSteps before 1 left → SkipsIn hopeless old steps n new left
unfolding Skips-more
SkipsIn-more hopeless old steps top now new n before left h found is one =
    let r = reached hopeless old top now new h.skips found in
    let ends = dead_prefixes hopeless None h.skips.passed in
    let more = inside n new.last (candidates_ahead new) in
    let next = Skips-more hopeless old top now new n h.skips found is in
    let once = ends-one hopeless old top now new n h.skips found is more (inside-shares n new.last (candidates_ahead new)) in
    let counted : length ends + 1 ≡ length (dead_prefixes hopeless None (h.skips.passed ++ new.last ∷ more)) = omega (arith, ap length once, length-append ends (new.last ∷ [])) in
    let dead = dead-some hopeless new.last n is in
    let alone : length (dead_prefixes hopeless None (h.skips.passed ++ new.last ∷ [])) ≡ length ends + 1 = omega (arith, ap length (ends-one hopeless old top now new n h.skips found is [] tt), length-append ends (new.last ∷ [])) in
    let here : visited_ahead hopeless old ≡ (ends ++ new.last ∷ []) ++ visited hopeless (Some new.last) (candidates_ahead new) =
    ap (visited hopeless None) r.whole ∙ visited-dead_prefix hopeless h.skips.passed new.last (candidates_ahead new) h.skips.dead dead alone in
    let size : length (ends ++ new.last ∷ []) ≡ length ends + 1 = omega (arith, length-append ends (new.last ∷ [])) in
    record {
      skips = next;
      takes = subst (λ k. TakesSteps steps k left) counted (TakesSteps-more steps (length ends) before 1 left h.takes one);
      stands = record {
        net = r.net;
        there = omega (arith, counted, size, ap length here, length-append (ends ++ new.last ∷ []) (visited hopeless (Some new.last) (candidates_ahead new)));
        last = sym (
            ap (λ k. last_of old.last (take k (visited_ahead hopeless old))) (sym counted)
            ∙ ap (λ vs. last_of old.last (take (length ends + 1) vs)) here
            ∙ ap (last_of old.last) (take_at (ends ++ new.last ∷ []) (visited hopeless (Some new.last) (candidates_ahead new)) (length ends + 1) size)
            ∙ last_of-push old.last ends new.last);
        ahead = tested-after hopeless old new h.skips.passed r.whole (AllByRecursion-append (λ v. has_no_dead_prefix hopeless v ≡ false) h.skips.passed (new.last ∷ []) h.skips.dead (dead, tt));
        looks = next.looks;
      };
    }

pub FindsTestedIn-found : (hopeless : List ℕ → Bool) (old : Position) (steps : Option ℕ) (top : ℕ) (now new : Position) (before left : Option ℕ) → SkipsIn hopeless old steps top now before → Searches now top true new
    → shortest_hopeless hopeless new.last ≡ None → TakesSteps before 1 left → FindsTestedIn hopeless old steps new left
unfolding FindsTested-found
FindsTestedIn-found hopeless old steps top now new before left h found is one = record {
  finds = FindsTested-found hopeless old top now new h.skips found is;
  takes = TakesSteps-more steps (length (dead_prefixes hopeless None h.skips.passed)) before 1 left h.takes one;
}

pub FindsNoneIn-unfound : (hopeless : List ℕ → Bool) (old : Position) (steps : Option ℕ) (top : ℕ) (now new : Position) (left : Option ℕ) → SkipsIn hopeless old steps top now left → Searches now top false new → has_step left ≡ true
    → FindsNoneIn hopeless old steps new left
FindsNoneIn-unfound hopeless old steps top now new left h found more =
    let p = h.skips in
    let all : candidates_ahead old ≡ p.passed = p.whole ∙ ap (λ vs. p.passed ++ vs) (slice_get-none (outside top now.last (candidates_ahead now)) (sym found.first)) ∙ append-nil p.passed in
    record {
      finds = FindsNone-unfound hopeless old top now new p found;
      takes = subst (λ vs. TakesSteps steps (length (dead_prefixes hopeless None vs)) left) (sym all) h.takes;
      more = more;
    }

pub UsesAllStepsIn-skipped : (hopeless : List ℕ → Bool) (old : Position) (steps : Option ℕ) (top : ℕ) (now : Position) (left : Option ℕ) → SkipsIn hopeless old steps top now left → has_step left ≡ false → UsesAllStepsIn hopeless old steps now left
UsesAllStepsIn-skipped hopeless old steps top now left h none = record {
  taken = length (dead_prefixes hopeless None h.skips.passed);
  takes = h.takes;
  none = none;
  stands = h.stands;
}
