-- The gaps of a table.
use Rattle.std.proofs.Common.{◌≡◌, ◌⊎◌, inl, inr, ◌↔◌, ℕ, zero, suc, Bool, true, false, ◌||◌, cond, List, [], ◌∷◌, ◌++◌, take, ◌+◌, Option, Some, None, Ok, Err, refl, sym, ap, subst, ◌∙◌, Vec, Global}
use Rattle.std.specs.Prelude.{bytes_eq, slice_get, IfOk, Result}
use Rattle.std.specs.Ordering.{nat_cmp, match_ordering, ordering_then}
use Rattle.std.specs.declared.cmp.Ordering.{Ordering}
use Rattle.std.specs.declared.cmp.Ordering.TheVariants.{Less, Equal, Greater}
use Rattle.std.specs.Cmp.Lexicographic.{slice_cmp}
use Rattle.std.specs.List.{Contains, AllByRecursion, flat_map, list_any}
use Rattle.std.specs.List.Sorted.{IsStrictlySortedBy}
use Rattle.std.specs.BTreeSet.{insert_key}
use Rattle.std.proofs.lemmas.Bool.{or_parts, or_from, false_from_ne_true}
use Rattle.std.proofs.lemmas.List.{append-nil}
use Rattle.std.proofs.lemmas.List.Concat.{flat_map-append}
use Rattle.std.proofs.lemmas.List.Folds.{list_any-append}
use Rattle.std.proofs.lemmas.List.Sums.{fold-append}
use Rattle.variant_table.proofs.ListLemmas.{take_next}
use Rattle.std.proofs.lemmas.Map.Lookups.{CmpEqualImpliesEq, exact_bytes}
use Rattle.std.proofs.lemmas.List.Elements.{All-contains, Contains-append_left, Contains-append_right, Contains-append_cases}
use Rattle.std.proofs.lemmas.Slice.Eq.{bytes_eq-Decides}
use Rattle.variant_table.specs.Entries.{Entry, sequences_in}
use Rattle.variant_table.specs.WellFormed.{IsEntry, IsWellFormed}
use Rattle.variant_table.specs.Places.{entry_with}
use Rattle.variant_table.specs.Gaps.{IsPair, IsGap, pair_cmp, AreGapsOf, has_variant, reverse_gaps, wanted_gap, further_gaps, gaps_by, gaps_through, gaps_of_entry, inserted, gaps_of, pair_of, pairs_of}
use Rattle.variant_table.proofs.MemberLemmas.{Contains-head, Contains-later, Contains-none, Contains-one, Contains-cases, find_none}
use Rattle.variant_table.proofs.BeginningLemmas.{same_entry, entry_with-found, entry_with-of}
use Rattle.variant_table.proofs.RepeatLemmas.{unlike_source}

abbrev pub Pair : Type 0
Pair = List ℕ × List ℕ

abbrev pair : List ℕ → List ℕ → Pair
pair a b = (a, b)

-- ---- pairs in order

exact_then : (x y : Ordering) → ordering_then x y ≡ Equal → (x ≡ Equal) × (y ≡ Equal)
exact_then Less y e = absurd cc
exact_then Equal y e = (refl, e)
exact_then Greater y e = absurd cc

pub exact_pairs : CmpEqualImpliesEq pair_cmp
exact_pairs p q e =
    let r = exact_then (slice_cmp nat_cmp p.0 q.0) (slice_cmp nat_cmp p.1 q.1) e in
    let a : p.0 ≡ q.0 = exact_bytes p.0 q.0 r.0 in
    let b : p.1 ≡ q.1 = exact_bytes p.1 q.1 r.1 in
    ap (λ x. (x, p.1)) a ∙ ap (λ y. (q.0, y)) b

placed : (x : Pair) (xs : List Pair) (k q : Pair) (o : Ordering) → pair_cmp k x ≡ o → (Contains (insert_key pair_cmp xs k) q ↔ (Contains xs q ⊎ (q ≡ k))) → Contains (match_ordering o (k ∷ x ∷ xs) (x ∷ xs) (x ∷ insert_key pair_cmp xs k)) q ↔ (Contains (x ∷ xs) q ⊎ (q ≡ k))
placed x xs k q Less e h = (
  λ c. elim (Contains-cases k (x ∷ xs) q c) [ inl s ↦ inr (sym s) | inr m ↦ inl m ],
  λ d. elim d [ inl m ↦ Contains-later k (x ∷ xs) q m | inr s ↦ subst (Contains (k ∷ x ∷ xs)) (sym s) (Contains-head k (x ∷ xs)) ],
)
placed x xs k q Equal e h = (
  λ c. inl c,
  λ d. elim d [ inl m ↦ m | inr s ↦ subst (Contains (x ∷ xs)) (sym (s ∙ exact_pairs k x e)) (Contains-head x xs) ],
)
placed x xs k q Greater e h = (
  λ c. elim (Contains-cases x (insert_key pair_cmp xs k) q c) [ inl s ↦ inl (subst (Contains (x ∷ xs)) s (Contains-head x xs)) | inr m ↦ elim (h.0 m) [ inl n ↦ inl (Contains-later x xs q n) | inr s ↦ inr s ] ],
  λ d. elim d [ inl m ↦ elim (Contains-cases x xs q m) [ inl s ↦ subst (Contains (x ∷ insert_key pair_cmp xs k)) s (Contains-head x (insert_key pair_cmp xs k)) | inr n ↦ Contains-later x (insert_key pair_cmp xs k) q (h.1 (inl n)) ] | inr s ↦ Contains-later x (insert_key pair_cmp xs k) q (h.1 (inr s)) ],
)

Contains-insert_key : (xs : List Pair) (k q : Pair) → Contains (insert_key pair_cmp xs k) q ↔ (Contains xs q ⊎ (q ≡ k))
Contains-insert_key [] k q = (λ c. inr (sym (Contains-one k q c)), λ d. elim d [ inl m ↦ Contains-later k [] q m | inr s ↦ subst (Contains (k ∷ [])) (sym s) (Contains-head k []) ])
Contains-insert_key (x ∷ xs) k q = placed x xs k q (pair_cmp k x) refl (Contains-insert_key xs k q)

pub Contains-inserted : (xs more : List Pair) (q : Pair) → Contains (inserted xs more) q ↔ (Contains xs q ⊎ Contains more q)
Contains-inserted xs [] q = (λ c. inl c, λ d. elim d [ inl c ↦ c | inr m ↦ absurd (Contains-none q m) ])
Contains-inserted xs (k ∷ more) q = step (Contains-inserted (insert_key pair_cmp xs k) more q) (Contains-insert_key xs k q)
  where
    step : (Contains (inserted (insert_key pair_cmp xs k) more) q ↔ (Contains (insert_key pair_cmp xs k) q ⊎ Contains more q)) → (Contains (insert_key pair_cmp xs k) q ↔ (Contains xs q ⊎ (q ≡ k)))
        → Contains (inserted xs (k ∷ more)) q ↔ (Contains xs q ⊎ Contains (k ∷ more) q)
    step rest here = (
      λ c. elim (rest.0 c) [ inl m ↦ elim (here.0 m) [ inl n ↦ inl n | inr s ↦ inr (subst (Contains (k ∷ more)) (sym s) (Contains-head k more)) ] | inr m ↦ inr (Contains-later k more q m) ],
      λ d. elim d [ inl m ↦ rest.1 (inl (here.1 (inl m))) | inr m ↦ elim (Contains-cases k more q m) [ inl s ↦ rest.1 (inl (here.1 (inr (sym s)))) | inr n ↦ rest.1 (inr n) ] ],
    )

-- ---- members of lists that are made of others

pub flat_map-cases : {X Y : Type 0} (f : X → List Y) (xs : List X) (y : Y) → Contains (flat_map f xs) y → (x : X) × Contains xs x × Contains (f x) y
flat_map-cases f [] y h = absurd (Contains-none y h)
flat_map-cases {X = X} f (x ∷ xs) y h = step (Contains-append_cases (f x) (flat_map f xs) y h) (flat_map-cases f xs y)
  where
    step : (Contains (f x) y ⊎ Contains (flat_map f xs) y) → (Contains (flat_map f xs) y → (z : X) × Contains xs z × Contains (f z) y) → (z : X) × Contains (x ∷ xs) z × Contains (f z) y
    step (inl m) rest = (x, Contains-head x xs, m)
    step (inr m) rest = let r = rest m in (r.0, Contains-later x xs r.0 r.1, r.2)

pub flat_map-member : {X Y : Type 0} (f : X → List Y) (xs : List X) (x : X) (y : Y) → Contains xs x → Contains (f x) y → Contains (flat_map f xs) y
flat_map-member f [] x y h k = absurd (Contains-none x h)
flat_map-member f (z ∷ xs) x y h k = step (Contains-cases z xs x h) (λ m. flat_map-member f xs x y m k)
  where
    step : ((z ≡ x) ⊎ Contains xs x) → (Contains xs x → Contains (flat_map f xs) y) → Contains (flat_map f (z ∷ xs)) y
    step (inl s) rest = Contains-append_left (f z) (flat_map f xs) y (subst (λ w. Contains (f w) y) (sym s) k)
    step (inr m) rest = Contains-append_right (f z) (flat_map f xs) y (rest m)

pub any-cases : (v : List ℕ) (xs : List (List ℕ)) → list_any (bytes_eq v) xs ≡ true → Contains xs v
any-cases v [] e = absurd cc
any-cases v (x ∷ xs) e = step (bytes_eq v x) refl e (any-cases v xs)
  where
    step : (b : Bool) → bytes_eq v x ≡ b → (b || list_any (bytes_eq v) xs) ≡ true → (list_any (bytes_eq v) xs ≡ true → Contains xs v) → Contains (x ∷ xs) v
    step true f g rest = subst (Contains (x ∷ xs)) (sym ((bytes_eq-Decides v x).0 f)) (Contains-head x xs)
    step false f g rest = Contains-later x xs v (rest g)

pub any-member : (v : List ℕ) (xs : List (List ℕ)) → Contains xs v → list_any (bytes_eq v) xs ≡ true
any-member v [] h = absurd (Contains-none v h)
any-member v (x ∷ xs) h = step (bytes_eq v x) refl (Contains-cases x xs v h) (any-member v xs)
  where
    step : (b : Bool) → bytes_eq v x ≡ b → ((x ≡ v) ⊎ Contains xs v) → (Contains xs v → list_any (bytes_eq v) xs ≡ true) → (b || list_any (bytes_eq v) xs) ≡ true
    step true f d rest = refl
    step false f (inl s) rest = absurd (let g : bytes_eq v x ≡ true = (bytes_eq-Decides v x).1 (sym s) in let k : true ≡ false = sym g ∙ f in cc)
    step false f (inr m) rest = rest m

-- ---- gaps

pub contradicts : {X : Type 0} (b : Bool) → b ≡ true → b ≡ false → X
contradicts b e f = absurd (let g : true ≡ false = sym e ∙ f in cc)

module _ (table : List Entry) (well : IsWellFormed table) where
  -- a variant is unlike its source
  unlike : (e : Entry) (v : List ℕ) → Contains table e → Contains (sequences_in e.variants) v → v ≡ e.source → ⊥
  unlike e v h m same = unlike_source e v (All-contains IsEntry table e well.entries h) m (sym same)

  -- the variants of a source are those of its one entry
  pub of_source : (e : Entry) (s v : List ℕ) → Contains table e → e.source ≡ s → IsPair table s v → Contains (sequences_in e.variants) v
  of_source e s v h is p = subst (λ x. Contains (sequences_in x.variants) v) (same_entry table p.0 e well.sources p.1 h (p.2 ∙ sym is)) p.3

  -- two pairs that are equal
  left : (a b x y : List ℕ) → Contains (pair a b ∷ []) (pair x y) → a ≡ x
  left a b x y c = ap (λ (p : Pair). p.0) (Contains-one (pair a b) (pair x y) c)

  right : (a b x y : List ℕ) → Contains (pair a b ∷ []) (pair x y) → b ≡ y
  right a b x y c = ap (λ (p : Pair). p.1) (Contains-one (pair a b) (pair x y) c)

  -- a variant without an entry of its own lacks the reverse pair
  alone_gap : (e : Entry) (v a b : List ℕ) → Contains table e → Contains (sequences_in e.variants) v → entry_with table v ≡ None → Contains (pair v e.source ∷ []) (pair a b) → IsGap table a b
  alone_gap e v a b h m is c =
      let l : v ≡ a = left v e.source a b c in
      let r : e.source ≡ b = right v e.source a b c in
      record {
        unlike = λ eq. unlike e v h m (l ∙ eq ∙ sym r);
        lacking = λ p. contradicts (bytes_eq p.0.source v) ((bytes_eq-Decides p.0.source v).1 (p.2 ∙ sym l)) (find_none (λ f. bytes_eq f.source v) table p.0 is p.1);
        wanted = inl (e, h, r, subst (Contains (sequences_in e.variants)) l m);
      }

  reverse_gap : (e f : Entry) (v a b : List ℕ) → Contains table e → Contains (sequences_in e.variants) v → Contains table f → f.source ≡ v → (t : Bool) → has_variant f e.source ≡ t
      → Contains (cond t [] (pair v e.source ∷ [])) (pair a b) → IsGap table a b
  reverse_gap e f v a b h m k s true t c = absurd (Contains-none (pair a b) c)
  reverse_gap e f v a b h m k s false t c =
      let l : v ≡ a = left v e.source a b c in
      let r : e.source ≡ b = right v e.source a b c in
      record {
        unlike = λ eq. unlike e v h m (l ∙ eq ∙ sym r);
        lacking = λ p. contradicts (has_variant f e.source) (any-member e.source (sequences_in f.variants) (subst (Contains (sequences_in f.variants)) (sym r) (of_source f a b k (s ∙ l) p))) t;
        wanted = inl (e, h, r, subst (Contains (sequences_in e.variants)) l m);
      }

  further_gap : (e f : Entry) (v w a b : List ℕ) → Contains table e → Contains (sequences_in e.variants) v → Contains table f → f.source ≡ v → Contains (sequences_in f.variants) w → (t : Bool) → (bytes_eq w e.source || has_variant e w) ≡ t
      → Contains (cond t [] (pair e.source w ∷ [])) (pair a b) → IsGap table a b
  further_gap e f v w a b h m k s n true t c = absurd (Contains-none (pair a b) c)
  further_gap e f v w a b h m k s n false t c =
      let l : e.source ≡ a = left e.source w a b c in
      let r : w ≡ b = right e.source w a b c in
      let none = or_parts (bytes_eq w e.source) (has_variant e w) t in
      record {
        unlike = λ eq. contradicts (bytes_eq w e.source) ((bytes_eq-Decides w e.source).1 (r ∙ sym eq ∙ sym l)) none.0;
        lacking = λ p. contradicts (has_variant e w) (any-member w (sequences_in e.variants) (subst (Contains (sequences_in e.variants)) (sym r) (of_source e a b h l p))) none.1;
        wanted = inr (v, (e, h, l, m), (f, k, s, subst (Contains (sequences_in f.variants)) r n));
      }

  -- what a pair asks for is a gap
  by_gap : (e : Entry) (v a b : List ℕ) (o : Option Entry) → Contains table e → Contains (sequences_in e.variants) v → entry_with table v ≡ o → Contains (gaps_by e v o) (pair a b) → IsGap table a b
  by_gap e v a b None h m is c = alone_gap e v a b h m is c
  by_gap e v a b (Some f) h m is c =
      let s = entry_with-found table v f is in
      elim (Contains-append_cases (reverse_gaps e v f) (further_gaps e f) (pair a b) c) [
        | inl k ↦ reverse_gap e f v a b h m s.0 s.1 (has_variant f e.source) refl k
        | inr k ↦ let w = flat_map-cases (wanted_gap e) (sequences_in f.variants) (pair a b) k in further_gap e f v w.0 a b h m s.0 s.1 w.1 (bytes_eq w.0 e.source || has_variant e w.0) refl w.2
      ]

  -- each gap is asked for
  found_reverse : (e : Entry) (v : List ℕ) (o : Option Entry) → Contains table e → entry_with table v ≡ o → (IsPair table v e.source → ⊥) → Contains (gaps_by e v o) (pair v e.source)
  found_reverse e v None h is lacking = Contains-head (pair v e.source) []
  found_reverse e v (Some f) h is lacking =
      let of_v = entry_with-found table v f is in
      let no_variant : has_variant f e.source ≡ false = false_from_ne_true (has_variant f e.source) (λ t. lacking (f, of_v.0, of_v.1, any-cases e.source (sequences_in f.variants) t)) in
      Contains-append_left (reverse_gaps e v f) (further_gaps e f) (pair v e.source) (subst (λ t. Contains (cond t [] (pair v e.source ∷ [])) (pair v e.source)) (sym no_variant) (Contains-head (pair v e.source) []))

  found_further : (e f : Entry) (v w : List ℕ) → entry_with table v ≡ Some f → Contains (sequences_in f.variants) w → (w ≡ e.source → ⊥) → (Contains (sequences_in e.variants) w → ⊥) → Contains (gaps_through table e v) (pair e.source w)
  found_further e f v w is m unlike_source lacking =
      let test : (bytes_eq w e.source || has_variant e w) ≡ false =
      or_from (bytes_eq w e.source) (has_variant e w) (false_from_ne_true (bytes_eq w e.source) (λ t. unlike_source ((bytes_eq-Decides w e.source).0 t))) (false_from_ne_true (has_variant e w) (λ t. lacking (any-cases w (sequences_in e.variants) t))) in
      subst (λ o. Contains (gaps_by e v o) (pair e.source w)) (sym is)
      (Contains-append_right (reverse_gaps e v f) (further_gaps e f) (pair e.source w)
      (flat_map-member (wanted_gap e) (sequences_in f.variants) w (pair e.source w) m (subst (λ t. Contains (cond t [] (pair e.source w ∷ [])) (pair e.source w)) (sym test) (Contains-head (pair e.source w) []))))

  all_pairs : (e : Entry) (v a b : List ℕ) → Contains table e → Contains (sequences_in e.variants) v → Contains (gaps_through table e v) (pair a b) → Contains (flat_map (gaps_of_entry table) table) (pair a b)
  all_pairs e v a b h m k = flat_map-member (gaps_of_entry table) table e (pair a b) h (flat_map-member (gaps_through table e) (sequences_in e.variants) v (pair a b) m k)

  found : (a b : List ℕ) → IsGap table a b → Contains (flat_map (gaps_of_entry table) table) (pair a b)
  found a b g = elim g.wanted [
    | inl p ↦ all_pairs p.0 a a b p.1 p.3 (subst (λ s. Contains (gaps_through table p.0 a) (pair a s)) p.2 (found_reverse p.0 a (entry_with table a) p.1 refl (λ q. g.lacking (subst (IsPair table a) p.2 q))))
    | inr t ↦
        let c : List ℕ = t.0 in
        let p = t.1 in
        let q = t.2 in
        all_pairs p.0 c a b p.1 p.3 (subst (λ s. Contains (gaps_through table p.0 c) (pair s b)) p.2
        (found_further p.0 q.0 c b (entry_with-of table c q.0 well.sources q.1 q.2) q.3 (λ eq. g.unlike (sym p.2 ∙ sym eq)) (λ m. g.lacking (p.0, p.1, p.2, m))))
  ]

  is_gap : (a b : List ℕ) → Contains (flat_map (gaps_of_entry table) table) (pair a b) → IsGap table a b
  is_gap a b c =
      let r = flat_map-cases (gaps_of_entry table) table (pair a b) c in
      let q = flat_map-cases (gaps_through table r.0) (sequences_in r.0.variants) (pair a b) r.2 in
      by_gap r.0 q.0 a b (entry_with table q.0) r.1 q.1 refl q.2

  pub gaps_members : (a b : List ℕ) → Contains (gaps_of table) (pair a b) ↔ IsGap table a b
  gaps_members a b =
      let i = Contains-inserted [] (flat_map (gaps_of_entry table) table) (pair a b) in
      (λ c. elim (i.0 c) [ inl m ↦ absurd (Contains-none (pair a b) m) | inr m ↦ is_gap a b m ], λ g. i.1 (inr (found a b g)))

-- ---- pairs in memory

abbrev Held : Type 0
Held = Vec ℕ Global × Vec ℕ Global

abbrev pub held_cmp : Held → Held → Ordering
held_cmp p q = ordering_then (slice_cmp nat_cmp p.0.items q.0.items) (slice_cmp nat_cmp p.1.items q.1.items)

placed_pairs : (x : Held) (ks : List Held) (k : Held) (o : Ordering) → pairs_of (insert_key held_cmp ks k) ≡ insert_key pair_cmp (pairs_of ks) (pair_of k) → pairs_of (match_ordering o (k ∷ x ∷ ks) (x ∷ ks) (x ∷ insert_key held_cmp ks k)) ≡ match_ordering o (pair_of k ∷ pair_of x ∷ pairs_of ks) (pair_of x ∷ pairs_of ks) (pair_of x ∷ insert_key pair_cmp (pairs_of ks) (pair_of k))
placed_pairs x ks k Less h = refl
placed_pairs x ks k Equal h = refl
placed_pairs x ks k Greater h = ap (λ l. pair_of x ∷ l) h

pub pairs_of-insert_key : (ks : List Held) (k : Held) → pairs_of (insert_key held_cmp ks k) ≡ insert_key pair_cmp (pairs_of ks) (pair_of k)
pairs_of-insert_key [] k = refl
pairs_of-insert_key (x ∷ ks) k = placed_pairs x ks k (held_cmp k x) (pairs_of-insert_key ks k)

below_pairs : (x : Held) (ks : List Held) → AllByRecursion (λ y. held_cmp x y ≡ Less) ks → AllByRecursion (λ q. pair_cmp (pair_of x) q ≡ Less) (pairs_of ks)
below_pairs x [] h = tt
below_pairs x (k ∷ ks) h = (h.0, below_pairs x ks h.1)

pub rising_pairs : (ks : List Held) → IsStrictlySortedBy held_cmp ks → IsStrictlySortedBy pair_cmp (pairs_of ks)
unfolding IsStrictlySortedBy
rising_pairs [] h = tt
rising_pairs (k ∷ ks) h = (below_pairs k ks h.0, rising_pairs ks h.1)

-- ---- one more in a loop

pub any_at : (p : List ℕ → Bool) (xs : List (List ℕ)) (i : ℕ) (x : List ℕ) → slice_get xs i ≡ Some x → p x ≡ true → list_any p xs ≡ true
any_at p [] i x e t = absurd cc
any_at p (y ∷ ys) zero x e t = let same : y ≡ x = cc in ap (λ b. b || list_any p ys) (ap p same ∙ t)
any_at p (y ∷ ys) (suc i) x e t = step (p y) (any_at p ys i x e t)
  where
    step : (b : Bool) → list_any p ys ≡ true → (b || list_any p ys) ≡ true
    step true h = refl
    step false h = h

pub any_more : (p : List ℕ → Bool) (xs : List (List ℕ)) (i : ℕ) (x : List ℕ) → slice_get xs i ≡ Some x → p x ≡ false → list_any p (take i xs) ≡ false → list_any p (take (i + 1) xs) ≡ false
any_more p xs i x e f before =
    ap (list_any p) (take_next xs i x e) ∙ list_any-append p (take i xs) (x ∷ []) ∙ or_from (list_any p (take i xs)) (list_any p (x ∷ [])) before (or_from (p x) false f refl)

pub inserted_more : {X : Type 0} (f : X → List Pair) (xs : List X) (i : ℕ) (x : X) (old : List Pair) → slice_get xs i ≡ Some x → inserted (inserted old (flat_map f (take i xs))) (f x) ≡ inserted old (flat_map f (take (i + 1) xs))
inserted_more f xs i x old e =
    sym (ap (λ ys. inserted old (flat_map f ys)) (take_next xs i x e) ∙ ap (inserted old) (flat_map-append f (take i xs) (x ∷ []) ∙ ap (λ t. flat_map f (take i xs) ++ t) (append-nil (f x)))
    ∙ fold-append (insert_key pair_cmp) old (flat_map f (take i xs)) (f x))

-- ---- what a call gives

pub gaps_result : {E : Type 0} (table : List Entry) (well : IsWellFormed table) (r : Result (Vec Held Global) E) → IfOk r (λ v. pairs_of v.items ≡ gaps_of table) → IfOk r (λ v. IsStrictlySortedBy pair_cmp (pairs_of v.items)) → IfOk r (λ v. AreGapsOf table (pairs_of v.items))
gaps_result table well (Ok v) e h = record { rising = h; members = λ a b. subst (λ l. Contains l (pair a b) ↔ IsGap table a b) (sym e) (gaps_members table well a b) }
gaps_result table well (Err f) e h = tt
