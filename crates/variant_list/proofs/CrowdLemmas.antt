-- Where each sequence has few sources, none is crowded; and which source is the first that is one too many.
use Rattle.std.proofs.Common.{◌≡◌, ◌≢◌, inl, inr, ℕ, suc, ◌+◌, ◌<◌, ◌≤◌, List, [], ◌∷◌, ◌++◌, All, Contains, Some, length, take, get_or, refl, sym, ap, subst, ◌∙◌, arith, length-take}
use Rattle.std.specs.Prelude.{slice_get, AllPairs}
use Rattle.std.proofs.lemmas.List.{get_or-take, length-map}
use Rattle.std.proofs.lemmas.Option.{get_or_from_slice_get, slice_get-get_or, slice_get_within}
use Rattle.std.proofs.lemmas.List.Elements.{All-head, All-tail, Contains-get_or}
use Rattle.reading_kinds.proofs.TakenLemmas.{slice_get-Contains}
use Rattle.variant_table.specs.Entries.{Entry, Variant, sequences_in}
use Rattle.variant_table.specs.Gaps.{IsPair}
use Rattle.variant_list.proofs.PlanLemmas.{Contains-at}
use Rattle.variant_list.proofs.TurnedLemmas.{AreTurned-first, AreTurned-more, IsCrowded-full, members-more}
use Rattle.variant_table.proofs.MemberLemmas.{Contains-head, Contains-later, Contains-none, Contains-cases}
use Rattle.variant_table.proofs.NumberLemmas.{pairs_head, pairs_tail}
use Rattle.variant_list.specs.Reversed.{Group, IsReversed, AreReversedOf, AreFew, IsCrowded, IsCrowdedAt, IsCrowdedBy, sources_of}
use Rattle.variant_list.specs.inner.Turned.{Adds, AreOfFirst, AreSound, HasNoRoom, SomeTurns, TurnsUpTo}

-- a list without one of its elements
pub record IsWithout (ys : List (List ℕ)) (x : List ℕ) (zs : List (List ℕ)) : Type 0 where
  pub fewer : suc (length zs) ≡ length ys
  pub others : (c : List ℕ) → Contains ys c → c ≢ x → Contains zs c

without : (ys : List (List ℕ)) (x : List ℕ) → Contains ys x → (zs : List (List ℕ)) × IsWithout ys x zs
without [] x m = absurd (Contains-none x m)
without (y ∷ ys) x m = elim (Contains-cases y ys x m) [
  | inl is ↦ (
    ys,
    record {
      fewer = refl;
      others = λ c at other. elim (Contains-cases y ys c at) [ inl same ↦ absurd (other (sym same ∙ is)) | inr later ↦ later ];
    },
  )
  | inr later ↦
      let w = without ys x later in (
        y ∷ w.0,
        record {
          fewer = ap suc w.1.fewer;
          others = λ c at other. elim (Contains-cases y ys c at) [
            | inl same ↦ subst (Contains (y ∷ w.0)) same (Contains-head y w.0)
            | inr rest ↦ Contains-later y w.0 c (w.1.others c rest other)
          ];
        },
      )
]

-- different elements of a list are no more than it has
distinct-fit : (xs ys : List (List ℕ)) → AllPairs (λ b c. b ≢ c) xs → All (Contains ys) xs → length xs ≤ length ys
distinct-fit [] ys distinct all = omega arith
distinct-fit (x ∷ xs) ys distinct all =
    let w = without ys x (All-head (Contains ys) x xs all) in
    let apart : All (λ c. x ≢ c) xs = pairs_head (λ b c. b ≢ c) x xs distinct in
    let later : All (Contains ys) xs = All-tail (Contains ys) x xs all in
    let rest = distinct-fit xs w.0 (pairs_tail (λ b c. b ≢ c) x xs distinct) (λ k d l. w.1.others _ (later k d l) (λ same. apart k d l (sym same))) in
    omega (arith, rest, w.1.fewer)

pub uncrowded : (entries : List Entry) (groups : List Group) → AreReversedOf entries groups → AreFew groups → (a : List ℕ) → ¬ IsCrowded entries a
uncrowded entries groups are few a crowded =
    let fits = distinct-fit crowded.sources (sources_of groups a) crowded.distinct (λ k d l. (are a _).1 (crowded.reversed k d l)) in
    omega (arith, fits, few a, crowded.many)

-- ---- the first source that is one too many

-- what stands in the first elements of a list
slice_get-first : {X : Type 0} (n k : ℕ) (x : X) (xs : List X) → k < n → slice_get xs k ≡ Some x → slice_get (take n xs) k ≡ Some x
slice_get-first {X} n k x xs less at =
    slice_get-get_or (take n xs) k x (omega (arith, less, slice_get_within xs k x at, length-take n xs)) ∙ ap (λ y. Some y) (get_or-take n xs k x less ∙ get_or_from_slice_get xs k x x at)

-- and those stand in the list
slice_get-of_first : {X : Type 0} (n k : ℕ) (x : X) (xs : List X) → slice_get (take n xs) k ≡ Some x → (k < n) × (slice_get xs k ≡ Some x)
slice_get-of_first {X} n k x xs at =
    let within = slice_get_within (take n xs) k x at in
    let less : k < n = omega (arith, within, length-take n xs) in
    (less, slice_get-get_or xs k x (omega (arith, within, length-take n xs)) ∙ ap (λ y. Some y) (sym (get_or-take n xs k x less) ∙ get_or_from_slice_get (take n xs) k x x at))

module _ (entries : List Entry) where
  pair-first : (n k : ℕ) (e : Entry) (a b : List ℕ) → k < n → slice_get entries k ≡ Some e → b ≡ e.source → Contains (sequences_in e.variants) a → IsPair (take n entries) b a
  pair-first n k e a b less at is has = (e, Contains-at (take n entries) k e (slice_get-first n k e entries less at), sym is, has)

  -- a pair of the first entries that lacks its reverse is kept
  turns-first : (n : ℕ) (a b : List ℕ) → IsPair (take n entries) b a → ¬ IsPair entries a b → SomeTurns entries n a b
  turns-first n a b p lacking =
      let e : Entry = p.0 in
      let at = slice_get-of_first n p.1.0 e entries (slice_get-Contains (take n entries) e p.1) in
      let v = p.3 in (
        p.1.0,
        e,
        at.0,
        at.1,
        (sym p.2, (v.0, omega (arith, v.1, length-map e.variants (λ (x : Variant). x.sequence)), slice_get-Contains (sequences_in e.variants) a v), lacking),
      )

module _ (entries : List Entry) (n : ℕ) (e : Entry) (at : slice_get entries n ≡ Some e) (old mid : List Group) (k : ℕ) (sound : AreSound old) (first : AreOfFirst entries n old) (adds : Adds old mid (TurnsUpTo entries e k)) where
  -- by the entries before this one none is crowded
  none-before : (a : List ℕ) → ¬ IsCrowdedBy entries (take n entries) a
  none-before a by =
      let member : (b : List ℕ) → IsPair (take n entries) b a → ¬ IsPair entries a b → Contains (sources_of old a) b = λ b pair lacking. (first a b).1 (turns-first entries n a b pair lacking) in
      let fits = distinct-fit by.crowded.sources (sources_of old a) by.crowded.distinct
      (λ i d l. member (get_or by.crowded.sources i d) (by.by_these i d l) (by.crowded.reversed i d l).lacking) in
      omega (arith, fits, (sound a).0, by.crowded.many)

  -- there is no room for its source
  pub crowded-at : (v : List ℕ) → Contains (sequences_in e.variants) v → AreSound mid → IsReversed entries v e.source → HasNoRoom mid v e.source → IsCrowdedAt entries n
  unfolding IsCrowded-full
  crowded-at v has mid_sound turned full = record {
    within = slice_get_within entries n e at;
    crowded = (
      v,
      record {
        crowded = IsCrowded-full entries mid v e.source mid_sound mid_turned turned full;
        by_these = λ i d l. pair (get_or (sources_of mid v ++ e.source ∷ []) i d) (Contains-get_or (sources_of mid v ++ e.source ∷ []) i d l);
      },
    );
    first = none-before;
  }
    where
      mid_turned : (a b : List ℕ) → Contains (sources_of mid a) b → IsReversed entries a b
      mid_turned = AreTurned-more entries e (Contains-at entries n e at) old mid k (AreTurned-first entries old n first) adds

      here : (y : List ℕ) → y ≡ e.source → IsPair (take (n + 1) entries) y v
      here y is = pair-first entries (n + 1) n e v y (omega arith) at is has

      kept : (y : List ℕ) → Contains (sources_of mid v) y → IsPair (take (n + 1) entries) y v
      kept y m = elim ((adds v y).0 m) [
        | inl o ↦
            let t = (first v y).0 o in
            let turns = t.4 in
            let variant = turns.1 in
            pair-first entries (n + 1) t.0 t.1 v y (omega (arith, t.2)) t.3 turns.0 (Contains-at (sequences_in (t.1).variants) variant.0 v variant.2)
        | inr t ↦ here y t.0
      ]

      pair : (y : List ℕ) → Contains (sources_of mid v ++ e.source ∷ []) y → IsPair (take (n + 1) entries) y v
      pair y c = elim ((members-more (sources_of mid v) e.source y).0 c) [ inl m ↦ kept y m | inr is ↦ here y is ]
