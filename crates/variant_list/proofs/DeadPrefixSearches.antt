-- The search for a candidate without a dead prefix: one search for each dead prefix.
use Rattle.std.proofs.Common.{◌≡◌, ℕ, ◌+◌, ◌*◌, ◌<◌, ◌≤◌, Bool, true, false, not, List, [], ◌∷◌, ◌++◌, length, Some, None, refl, sym, ap, ◌∙◌, subst, arith, append_assoc, append-nil, length-append}
use Rattle.std.specs.List.{AllByRecursion}
use Rattle.std.specs.Option.{is_none}
use Rattle.variant_list.specs.Labels.{IsRising}
use Rattle.variant_list.specs.Positions.{Built, Position, candidates_ahead}
use Rattle.variant_list.specs.Variants.{fits_label, candidates_among}
use Rattle.variant_list.proofs.ListedLemmas.{variants-IsListed, variants-after}
use Rattle.variant_list.specs.Beginnings.{shortest_hopeless, has_no_dead_prefix, shares, dead_prefixes}
use Rattle.variant_list.specs.inner.Skips.{edges_of_net, outside, Searches, FindsTested, FindsNone}
use Rattle.variant_list.proofs.ListLemmas.{slice_get-none, slice_get-some, looks-more, last_of-push, AllByRecursion-append, AllByRecursion-map, filter-shorter, IsRising-after}
use Rattle.variant_list.proofs.LabelsAfter.{inside, split-shared, outside-all, inside-shares, outside-apart}
use Rattle.variant_list.proofs.BeginningLemmas.{shortest_hopeless-shares}
use Rattle.variant_list.proofs.DeadPrefixLemmas.{BeginsApart, dead_prefixes-one}

pub edges-same : (new old : Position) → new.net ≡ old.net → edges_of_net new ≡ edges_of_net old
edges-same new old net = ap (λ (b : Built). b.edges) net

-- after a candidate come the others
pub ahead-after : (old new : Position) (passed more : List (List ℕ)) → new.net ≡ old.net → candidates_ahead old ≡ passed ++ new.last ∷ more → candidates_ahead new ≡ more
ahead-after old new passed more net whole =
    let here : candidates_ahead new ≡ candidates_among old.net.spelled new.last = ap (λ (b : Built). candidates_among b.spelled new.last) net in
    here ∙ ap (candidates_among old.net.spelled) (sym (last_of-push old.last passed new.last))
    ∙ variants-after fits_label old.net.spelled old.last (passed ++ new.last ∷ []) more (whole ∙ sym (append_assoc passed (new.last ∷ []) more))

pub IsRising-ahead : (p : Position) → IsRising (candidates_ahead p)
IsRising-ahead p = (variants-IsListed fits_label p.net.spelled p.last).rising

pub dead-some : (hopeless : List ℕ → Bool) (v : List ℕ) (n : ℕ) → shortest_hopeless hopeless v ≡ Some n → has_no_dead_prefix hopeless v ≡ false
dead-some hopeless v n is = ap is_none is

-- a search for a tested label began at `old`; it passed over candidates with a dead prefix, and goes on with those that
-- do not begin with the first `top` code points of the last one
pub record Skips (hopeless : List ℕ → Bool) (old : Position) (top : ℕ) (now : Position) : Type 0 where
  pub net : now.net ≡ old.net
  pub passed : List (List ℕ)
  pub whole : candidates_ahead old ≡ passed ++ outside top now.last (candidates_ahead now)
  pub dead : AllByRecursion (λ v. has_no_dead_prefix hopeless v ≡ false) passed
  pub joins : (ws : List (List ℕ)) → BeginsApart top now.last ws → dead_prefixes hopeless None (passed ++ ws) ≡ dead_prefixes hopeless None passed ++ dead_prefixes hopeless None ws
  pub looks : now.edge_tests ≤ old.edge_tests + 126 * (edges_of_net old * length (dead_prefixes hopeless None passed))

unfoldable pub Skips-none : (hopeless : List ℕ → Bool) (p : Position) (top : ℕ) → length p.last < top → Skips hopeless p top p
Skips-none hopeless p top long = record {
  net = refl;
  passed = [];
  whole = sym (outside-all top p.last (candidates_ahead p) long);
  dead = tt;
  joins = λ ws _. refl;
  looks = omega arith;
}

-- what a search that finds a candidate tells
pub record HasReached (old : Position) (passed : List (List ℕ)) (top : ℕ) (now new : Position) : Type 0 where
  pub net : new.net ≡ old.net
  pub whole : candidates_ahead old ≡ passed ++ new.last ∷ candidates_ahead new
  pub rest : outside top now.last (candidates_ahead now) ≡ new.last ∷ candidates_ahead new

pub reached : (hopeless : List ℕ → Bool) (old : Position) (top : ℕ) (now new : Position) (h : Skips hopeless old top now) → Searches now top true new → HasReached old h.passed top now new
reached hopeless old top now new h found =
    let next : (more : List (List ℕ)) × (outside top now.last (candidates_ahead now) ≡ new.last ∷ more) = slice_get-some (outside top now.last (candidates_ahead now)) new.last (sym found.first) in
    let whole : candidates_ahead old ≡ h.passed ++ new.last ∷ next.0 = h.whole ∙ ap (λ vs. h.passed ++ vs) next.1 in
    let net : new.net ≡ old.net = found.net ∙ h.net in
    let after : candidates_ahead new ≡ next.0 = ahead-after old new h.passed next.0 net whole in
    record {
      net = net;
      whole = whole ∙ ap (λ vs. h.passed ++ new.last ∷ vs) (sym after);
      rest = next.1 ∙ ap (λ vs. new.last ∷ vs) (sym after);
    }

-- the search gets shorter
pub fewer_ahead : (hopeless : List ℕ → Bool) (old : Position) (top : ℕ) (now new : Position) → Skips hopeless old top now → Searches now top true new → length (candidates_ahead new) < length (candidates_ahead now)
fewer_ahead hopeless old top now new h found =
    let r = reached hopeless old top now new h found in
    let short = filter-shorter (λ w. not (shares top now.last w)) (candidates_ahead now) in
    omega (arith, short, ap length r.rest)

-- one dead prefix more
unfoldable pub Skips-more : (hopeless : List ℕ → Bool) (old : Position) (top : ℕ) (now new : Position) (n : ℕ) → Skips hopeless old top now → Searches now top true new → shortest_hopeless hopeless new.last ≡ Some n → Skips hopeless old n new
Skips-more hopeless old top now new n h found is =
    let r = reached hopeless old top now new h found in
    let u = new.last in
    let more = candidates_ahead new in
    let rises : IsRising (u ∷ more) = IsRising-after h.passed (u ∷ more) (subst IsRising r.whole (IsRising-ahead old)) in
    let split : more ≡ inside n u more ++ outside n u more = split-shared n u more rises.0 rises.1 in
    let share = inside-shares n u more in
    let apart : (ws : List (List ℕ)) → BeginsApart top now.last (u ∷ inside n u more ++ ws) = λ ws. subst (BeginsApart top now.last) r.rest (outside-apart top now.last (candidates_ahead now)) in
    let one : (ws : List (List ℕ)) → BeginsApart n u ws → dead_prefixes hopeless None (h.passed ++ (u ∷ inside n u more ++ ws)) ≡ dead_prefixes hopeless None h.passed ++ u ∷ dead_prefixes hopeless None ws =
    λ ws other. h.joins (u ∷ inside n u more ++ ws) (apart ws) ∙ ap (λ hs. dead_prefixes hopeless None h.passed ++ hs) (dead_prefixes-one hopeless n u (inside n u more) ws is share other) in
    let once : dead_prefixes hopeless None (h.passed ++ u ∷ inside n u more) ≡ dead_prefixes hopeless None h.passed ++ u ∷ [] =
    ap (λ vs. dead_prefixes hopeless None (h.passed ++ u ∷ vs)) (sym (append-nil (inside n u more))) ∙ one [] tt in
    record {
      net = r.net;
      passed = h.passed ++ u ∷ inside n u more;
      whole = r.whole ∙ ap (λ vs. h.passed ++ u ∷ vs) split ∙ sym (append_assoc h.passed (u ∷ inside n u more) (outside n u more));
      dead = AllByRecursion-append (λ v. has_no_dead_prefix hopeless v ≡ false) h.passed (u ∷ inside n u more) h.dead
          (dead-some hopeless u n is, AllByRecursion-map (λ v. shares n u v ≡ true) (λ v. has_no_dead_prefix hopeless v ≡ false) (inside n u more) (λ v s. dead-some hopeless v n (shortest_hopeless-shares hopeless n u v s is)) share);
      joins = λ ws other.
          ap (dead_prefixes hopeless None) (append_assoc h.passed (u ∷ inside n u more) ws) ∙ one ws other
          ∙ sym (append_assoc (dead_prefixes hopeless None h.passed) (u ∷ []) (dead_prefixes hopeless None ws))
          ∙ ap (λ hs. hs ++ dead_prefixes hopeless None ws) (sym once);
      looks = looks-more now.edge_tests new.edge_tests old.edge_tests (edges_of_net old) (length (dead_prefixes hopeless None h.passed)) (length (dead_prefixes hopeless None (h.passed ++ u ∷ inside n u more)))
          (subst (λ e. new.edge_tests ≤ now.edge_tests + 126 * e) (edges-same now old h.net) found.looks) h.looks
          (ap length once ∙ length-append (dead_prefixes hopeless None h.passed) (u ∷ []));
    }

-- a candidate without a dead prefix
unfoldable pub FindsTested-found : (hopeless : List ℕ → Bool) (old : Position) (top : ℕ) (now new : Position) → Skips hopeless old top now → Searches now top true new → shortest_hopeless hopeless new.last ≡ None → FindsTested hopeless old new
FindsTested-found hopeless old top now new h found is =
    let r = reached hopeless old top now new h found in
    record {
      net = r.net;
      passed = h.passed;
      whole = r.whole;
      dead = h.dead;
      alive = ap is_none is;
      looks = looks-more now.edge_tests new.edge_tests old.edge_tests (edges_of_net old) (length (dead_prefixes hopeless None h.passed)) (length (dead_prefixes hopeless None h.passed) + 1)
          (subst (λ e. new.edge_tests ≤ now.edge_tests + 126 * e) (edges-same now old h.net) found.looks) h.looks refl;
    }

-- no candidate is left
pub FindsNone-unfound : (hopeless : List ℕ → Bool) (old : Position) (top : ℕ) (now new : Position) → Skips hopeless old top now → Searches now top false new → FindsNone hopeless old new
FindsNone-unfound hopeless old top now new h found =
    let all : candidates_ahead old ≡ h.passed = h.whole ∙ ap (λ vs. h.passed ++ vs) (slice_get-none (outside top now.last (candidates_ahead now)) (sym found.first)) ∙ append-nil h.passed in
    record {
      net = found.net ∙ h.net;
      dead = subst (AllByRecursion (λ v. has_no_dead_prefix hopeless v ≡ false)) (sym all) h.dead;
      looks = looks-more now.edge_tests new.edge_tests old.edge_tests (edges_of_net old) (length (dead_prefixes hopeless None h.passed)) (length (dead_prefixes hopeless None (candidates_ahead old)) + 1)
          (subst (λ e. new.edge_tests ≤ now.edge_tests + 126 * e) (edges-same now old h.net) found.looks) h.looks (ap (λ vs. length (dead_prefixes hopeless None vs) + 1) all);
    }
