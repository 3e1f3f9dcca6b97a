-- A listing counts no more variants than it has tries, or than there are registered labels to which it is kept.
use Rattle.std.proofs.Common.{◌≡◌, ◌⊎◌, inl, inr, ℕ, zero, suc, ◌-◌, ◌≤◌, Bool, true, false, ◌&&◌, List, [], ◌∷◌, length, Option, Some, None, refl, sym, ap, subst, if◌then◌else◌, Ordering, arith}
use Rattle.std.specs.Prelude.{slice_get}
use Rattle.std.proofs.lemmas.Bool.{false≢true}
use Rattle.std.specs.declared.cmp.Ordering.TheVariants.{Less, Equal, Greater}
use Rattle.std.specs.List.{filter}
use Rattle.std.specs.Ordering.{MatchOrdering, is_gt, is_le}
use Rattle.variant_table.specs.Entries.{TableValue}
use Rattle.variant_list.specs.Beginnings.{has_no_dead_prefix}
use Rattle.variant_list.specs.Labels.{IsBelow, IsRising, label_cmp}
use Rattle.variant_list.specs.Spelled.{spelled}
use Rattle.variant_list.specs.Tested.{tested_among}
use Rattle.variant_list.specs.Variants.{candidates_among, fits_label, variants_among}
use Rattle.variant_list.specs.Visited.{visited}
use Rattle.variant_list.proofs.ListedLemmas.{variants-IsListed}
use Rattle.variant_list.proofs.OrderLemmas.{below_through, ranked_labels}
use Rattle.variant_list.proofs.TestedLaws.{accepted-tested}
use Rattle.idn2_options.specs.Settings.{Settings}
use Rattle.idn2_answers.specs.Listings.{Filter, filter_of, lesser_label, nth, nth_if_given, stop_of, up_to, variants_after}
use Rattle.idn2_answers.specs.Collisions.{collisions_after, is_found}
use Rattle.idn2_answers.proofs.LabelStops.{get-above, is_le-below, up_to-first, up_to-later}
use Rattle.idn2_answers.proofs.FilterLemmas.{accepted-short, filter_of-IsSound}

-- ---- of two labels

le-from : (u v : List ℕ) → is_le (label_cmp u v) ≡ true → (u ≡ v) ⊎ IsBelow u v
le-from u v h = by_order (label_cmp u v) (ranked_labels u v) h
  where
    by_order : (o : Ordering) → MatchOrdering o (IsBelow u v) (u ≡ v) (IsBelow v u) → is_le o ≡ true → (u ≡ v) ⊎ IsBelow u v
    by_order Less r h = inr r
    by_order Equal r h = inl r
    by_order Greater r h = absurd (false≢true h)

above-from : (u v : List ℕ) → is_le (label_cmp u v) ≡ false → IsBelow v u
above-from u v h = by_order (label_cmp u v) (ranked_labels u v) h
  where
    by_order : (o : Ordering) → MatchOrdering o (IsBelow u v) (u ≡ v) (IsBelow v u) → is_le o ≡ false → IsBelow v u
    by_order Less r h = absurd (false≢true (sym h))
    by_order Equal r h = absurd (false≢true (sym h))
    by_order Greater r h = r

le-through : (u v w : List ℕ) → is_le (label_cmp u v) ≡ true → (v ≡ w) ⊎ IsBelow v w → is_le (label_cmp u w) ≡ true
le-through u v w h (inl same) = subst (λ x. is_le (label_cmp u x) ≡ true) same h
le-through u v w h (inr below) = elim (le-from u v h) [
  | inl same ↦ is_le-below u w (inr (subst (λ x. IsBelow x w) (sym same) below))
  | inr first ↦ is_le-below u w (inr (below_through u v w first below))
]

-- ---- of a list

filter_few : (test : List ℕ → Bool) (vs : List (List ℕ)) → length (filter test vs) ≤ length vs
filter_few test [] = omega arith
filter_few test (v ∷ vs) = by_test (test v) (filter_few test vs)
  where
    by_test : (b : Bool) → length (filter test vs) ≤ length vs → length (if b then v ∷ filter test vs else filter test vs) ≤ suc (length vs)
    by_test true h = omega (arith, h)
    by_test false h = omega (arith, h)

pub filter_fewer : (p q : List ℕ → Bool) → ((v : List ℕ) → p v ≡ true → q v ≡ true) → (vs : List (List ℕ)) → length (filter p vs) ≤ length (filter q vs)
filter_fewer p q all [] = omega arith
filter_fewer p q all (v ∷ vs) = by_tests (p v) (q v) (all v) (filter_fewer p q all vs)
  where
    by_tests : (a b : Bool) → (a ≡ true → b ≡ true) → length (filter p vs) ≤ length (filter q vs)
        → length (if a then v ∷ filter p vs else filter p vs) ≤ length (if b then v ∷ filter q vs else filter q vs)
    by_tests true true h k = omega (arith, k)
    by_tests true false h k = absurd (false≢true (h refl))
    by_tests false true h k = omega (arith, k)
    by_tests false false h k = k

filter_both : (test accepts : List ℕ → Bool) (vs : List (List ℕ)) → length (filter test (filter accepts vs)) ≤ length (filter test vs)
filter_both test accepts [] = omega arith
filter_both test accepts (v ∷ vs) = by_tests (accepts v) (test v) refl (filter_both test accepts vs)
  where
    rest : ℕ
    rest = length (filter test (filter accepts vs))

    by_kept : (b : Bool) → rest ≤ length (filter test vs)
        → length (if b then v ∷ filter test (filter accepts vs) else filter test (filter accepts vs)) ≤ length (if b then v ∷ filter test vs else filter test vs)
    by_kept true k = omega (arith, k)
    by_kept false k = k

    by_left : (b : Bool) → rest ≤ length (filter test vs) → rest ≤ length (if b then v ∷ filter test vs else filter test vs)
    by_left true k = omega (arith, k)
    by_left false k = k

    by_tests : (a b : Bool) → test v ≡ b → rest ≤ length (filter test vs) → length (filter test (if a then v ∷ filter accepts vs else filter accepts vs)) ≤ length (filter test (v ∷ vs))
    by_tests true b e k = by_kept (test v) k
    by_tests false b e k = by_left (test v) k

up_to_few : (r : Option (List ℕ)) (vs : List (List ℕ)) → length (up_to r vs) ≤ length vs
up_to_few None vs = omega arith
up_to_few (Some b) vs = filter_few (λ v. is_le (label_cmp v b)) vs

fewer_up_to : (a b : List ℕ) (vs : List (List ℕ)) → (a ≡ b) ⊎ IsBelow a b → length (up_to (Some a) vs) ≤ length (up_to (Some b) vs)
fewer_up_to a b vs le = filter_fewer (λ v. is_le (label_cmp v a)) (λ v. is_le (label_cmp v b)) (λ v h. le-through v a b h le) vs

lesser-second : (r s : Option (List ℕ)) (vs : List (List ℕ)) → length (up_to (lesser_label r s) vs) ≤ length (up_to s vs)
lesser-second None s vs = omega arith
lesser-second (Some a) None vs = up_to_few (Some a) vs
lesser-second (Some a) (Some b) vs = by_test (is_le (label_cmp a b)) refl
  where
    by_test : (t : Bool) → is_le (label_cmp a b) ≡ t → length (up_to (if t then Some a else Some b) vs) ≤ length (up_to (Some b) vs)
    by_test true e = fewer_up_to a b vs (le-from a b e)
    by_test false e = omega arith

lesser-first : (r s : Option (List ℕ)) (vs : List (List ℕ)) → length (up_to (lesser_label r s) vs) ≤ length (up_to r vs)
lesser-first None s vs = up_to_few s vs
lesser-first (Some a) None vs = omega arith
lesser-first (Some a) (Some b) vs = by_test (is_le (label_cmp a b)) refl
  where
    by_test : (t : Bool) → is_le (label_cmp a b) ≡ t → length (up_to (if t then Some a else Some b) vs) ≤ length (up_to (Some a) vs)
    by_test true e = omega arith
    by_test false e = fewer_up_to b a vs (inr (above-from a b e))

up_to_both : (r : Option (List ℕ)) (accepts : List ℕ → Bool) (vs : List (List ℕ)) → length (up_to r (filter accepts vs)) ≤ length (up_to r vs)
up_to_both None accepts vs = filter_few accepts vs
up_to_both (Some b) accepts vs = filter_both (λ v. is_le (label_cmp v b)) accepts vs

up_to-nth : (vs : List (List ℕ)) (i : ℕ) → IsRising vs → length (up_to (slice_get vs i) vs) ≤ suc i
up_to-nth [] i rising = omega arith
up_to-nth (v ∷ vs) zero rising = omega (arith, ap length (up_to-first v vs rising.0))
up_to-nth (v ∷ vs) (suc i) rising = omega (arith, ap length (up_to-later v vs (slice_get vs i) (get-above v vs i rising.0)), up_to-nth vs i rising.1)

-- ---- of a listing

pub within_tries : (o : Settings) (table : TableValue) (label : List ℕ) → 1 ≤ o.tries
    → (let f : Filter = filter_of o.properties table label in let vs = variants_after f o (spelled table label) in length (up_to (stop_of f o (spelled table label)) vs) ≤ o.tries)
within_tries o table label some =
    subst (λ (vs : List (List ℕ)). length (up_to (lesser_label (nth_if_given vs o.limit) (lesser_label (nth tested o.tries) (nth_if_given (visited f.hopeless None (candidates_among labels o.after)) o.steps))) vs) ≤ o.tries) (sym same)
    (few (nth_if_given (filter f.accepts tested) o.limit) (nth_if_given (visited f.hopeless None (candidates_among labels o.after)) o.steps))
  where
    f : Filter
    f = filter_of o.properties table label

    labels : List (List ℕ)
    labels = spelled table label

    tested : List (List ℕ)
    tested = tested_among f.hopeless labels o.after

    few : (r s : Option (List ℕ)) → length (up_to (lesser_label r (lesser_label (nth tested o.tries) s)) (filter f.accepts tested)) ≤ o.tries
    few r s =
        let stop = nth tested o.tries in
        let listed = filter f.accepts tested in
        omega (
          arith,
          some,
          lesser-second r (lesser_label stop s) listed,
          lesser-first stop s listed,
          up_to_both stop f.accepts tested,
          up_to-nth tested (o.tries - 1) (variants-IsListed (λ v. fits_label v && has_no_dead_prefix f.hopeless v) labels o.after).rising,
        )

    same : variants_among f.accepts labels o.after ≡ filter f.accepts tested
    same = accepted-tested f.accepts f.hopeless (accepted-short o.properties f (filter_of-IsSound o.properties table label)) (filter_of-IsSound o.properties table label).for_good labels o.after

-- a block among registered labels counts no more than these
pub within_registered : (o : Settings) (table : TableValue) (label : List ℕ) (registered : List (List ℕ))
    → (let found = collisions_after o table registered label in length (up_to (nth_if_given found o.limit) found) ≤ length registered)
within_registered o table label registered =
    let found = collisions_after o table registered label in
    omega (arith, up_to_few (nth_if_given found o.limit) found, filter_few (λ v. is_gt (label_cmp v o.after) && is_found o table label v) registered)
