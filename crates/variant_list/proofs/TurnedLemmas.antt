-- The turned pairs of a table as a map keeps them, and one more.
use Rattle.std.proofs.Common.{◌≡◌, ◌≢◌, ◌⊎◌, ◌↔◌, inl, inr, ℕ, zero, suc, ◌+◌, ◌≤◌, Bool, true, false, cond, List, [], ◌∷◌, ◌++◌, length, Option, Some, None, refl, sym, ap, ◌∙◌, subst, arith, Vec, Global, Ordering, length-append}
use Rattle.std.specs.Prelude.{bytes_eq, slice_get, AllPairs, Contains}
use Rattle.std.specs.declared.cmp.Ordering.TheVariants.{Less, Equal, Greater}
use Rattle.std.specs.Ordering.{nat_cmp, is_eq, match_ordering}
use Rattle.std.specs.Cmp.Lexicographic.{slice_cmp}
use Rattle.std.specs.Map.{lookup, remove_entry}
use Rattle.std.specs.BTreeMap.{insert_entry}
use Rattle.std.proofs.lemmas.Map.Text.{is_eq-slice_cmp}
use Rattle.std.proofs.lemmas.Map.Lookups.{exact_bytes}
use Rattle.std.proofs.lemmas.Bool.{false_from_ne_true}
use Rattle.std.proofs.lemmas.Slice.Eq.{bytes_eq-Decides}
use Rattle.std.proofs.lemmas.List.Elements.{Contains-append_left, Contains-append_right, Contains-push_cases}
use Rattle.variant_table.specs.Entries.{Entry, sequences_in}
use Rattle.variant_table.specs.Gaps.{IsPair}
use Rattle.variant_table.proofs.MemberLemmas.{Contains-head, Contains-none}
use Rattle.std.proofs.Common.{get_or}
use Rattle.std.proofs.lemmas.List.{length-map}
use Rattle.std.proofs.lemmas.List.Elements.{Contains-get_or}
use Rattle.std.proofs.lemmas.List.Quantifiers.{all_pairs_push}
use Rattle.variant_table.specs.Entries.{Variant}
use Rattle.variant_list.proofs.RowBits.{same_or_not}
use Rattle.reading_kinds.proofs.TakenLemmas.{some_same, slice_get-Contains}
use Rattle.variant_list.proofs.PlanLemmas.{Contains-at}
use Rattle.variant_list.specs.Reversed.{Group, IsReversed, IsCrowded, AreReversedOf, AreFew, sources_of}
use Rattle.variant_list.specs.inner.Turned.{sequences_of, groups_of, AreOfFirst, AreSound, AreTurned, Adds, Puts, TurnsUpTo, Turns, HasNoRoom}

abbrev Held : Type 0
Held = Vec ℕ Global × Vec (Vec ℕ Global) Global

abbrev pub key_cmp : Vec ℕ Global → Vec ℕ Global → Ordering
key_cmp x y = slice_cmp nat_cmp x.items y.items

abbrev pub is_key : List ℕ → Vec ℕ Global → Bool
is_key a k = is_eq (slice_cmp nat_cmp a k.items)

-- what a look-up gave, as sequences
abbrev pub found_sources : Option (Vec (Vec ℕ Global) Global) → List (List ℕ)
found_sources None = []
found_sources (Some v) = sequences_of v.items

pub sources-found : (es : List Held) (a : List ℕ) → found_sources (lookup (is_key a) es) ≡ sources_of (groups_of es) a
sources-found [] a = refl
sources-found (e ∷ es) a = step (is_key a e.0) (bytes_eq a e.0.items) (is_eq-slice_cmp a e.0.items) (sources-found es a)
  where
    step : (s t : Bool) → s ≡ t → found_sources (lookup (is_key a) es) ≡ sources_of (groups_of es) a
        → found_sources (cond s (Some e.1) (lookup (is_key a) es)) ≡ cond t (sequences_of e.1.items) (sources_of (groups_of es) a)
    step true true e h = refl
    step true false e h = absurd cc
    step false true e h = absurd cc
    step false false e h = h

-- two different sequences
pub unlike_test : (a b : List ℕ) → a ≢ b → bytes_eq a b ≡ false
unlike_test a b other = false_from_ne_true (bytes_eq a b) (λ t. other ((bytes_eq-Decides a b).0 t))

pub same_sequence : (a b : List ℕ) → (a ≡ b) ⊎ (a ≢ b)
same_sequence a b = step (bytes_eq a b) refl
  where
    step : (t : Bool) → bytes_eq a b ≡ t → (a ≡ b) ⊎ (a ≢ b)
    step true e = inl ((bytes_eq-Decides a b).0 e)
    step false e = inr (λ s. (let t : true ≡ false = sym ((bytes_eq-Decides a b).1 s) ∙ e in cc))

-- without the sources of a sequence
pub sources-removed : (es : List Held) (a b : List ℕ) → b ≢ a → sources_of (groups_of (remove_entry (is_key a) es)) b ≡ sources_of (groups_of es) b
sources-removed [] a b other = refl
sources-removed (e ∷ es) a b other = step (is_key a e.0) (sym (is_eq-slice_cmp a e.0.items)) (sources-removed es a b other)
  where
    step : (t : Bool) → bytes_eq a e.0.items ≡ t → sources_of (groups_of (remove_entry (is_key a) es)) b ≡ sources_of (groups_of es) b
        → sources_of (groups_of (cond t es (e ∷ remove_entry (is_key a) es))) b ≡ cond (bytes_eq b e.0.items) (sequences_of e.1.items) (sources_of (groups_of es) b)
    step true is h =
        let apart : bytes_eq b e.0.items ≡ false = unlike_test b e.0.items (λ s. other (s ∙ sym ((bytes_eq-Decides a e.0.items).0 is))) in
        ap (λ t. cond t (sequences_of e.1.items) (sources_of (groups_of es) b)) (sym apart)
    step false is h = ap (λ l. cond (bytes_eq b e.0.items) (sequences_of e.1.items) l) h

-- with these in their place
pub sources-inserted : (es : List Held) (k : Vec ℕ Global) (v : Vec (Vec ℕ Global) Global) → sources_of (groups_of (insert_entry key_cmp es k v)) k.items ≡ sequences_of v.items
sources-inserted [] k v = ap (λ t. cond t (sequences_of v.items) []) ((bytes_eq-Decides k.items k.items).1 refl)
sources-inserted (e ∷ es) k v = step (key_cmp k e.0) refl (sources-inserted es k v)
  where
    step : (o : Ordering) → key_cmp k e.0 ≡ o → sources_of (groups_of (insert_entry key_cmp es k v)) k.items ≡ sequences_of v.items
        → sources_of (groups_of (match_ordering o ((k, v) ∷ e ∷ es) ((e.0, v) ∷ es) (e ∷ insert_entry key_cmp es k v))) k.items ≡ sequences_of v.items
    step Less is h = ap (λ t. cond t (sequences_of v.items) (sources_of (groups_of (e ∷ es)) k.items)) ((bytes_eq-Decides k.items k.items).1 refl)
    step Equal is h =
        let same : bytes_eq k.items e.0.items ≡ true = sym (is_eq-slice_cmp k.items e.0.items) ∙ ap is_eq is in
        ap (λ t. cond t (sequences_of v.items) (sources_of (groups_of es) k.items)) same
    step Greater is h =
        let apart : bytes_eq k.items e.0.items ≡ false = sym (is_eq-slice_cmp k.items e.0.items) ∙ ap is_eq is in
        ap (λ t. cond t (sequences_of e.1.items) (sources_of (groups_of (insert_entry key_cmp es k v)) k.items)) apart ∙ h

pub others-inserted : (es : List Held) (k : Vec ℕ Global) (v : Vec (Vec ℕ Global) Global) (b : List ℕ) → b ≢ k.items → sources_of (groups_of (insert_entry key_cmp es k v)) b ≡ sources_of (groups_of es) b
others-inserted [] k v b other = ap (λ t. cond t (sequences_of v.items) []) (unlike_test b k.items other)
others-inserted (e ∷ es) k v b other = step (key_cmp k e.0) refl (others-inserted es k v b other)
  where
    step : (o : Ordering) → key_cmp k e.0 ≡ o → sources_of (groups_of (insert_entry key_cmp es k v)) b ≡ sources_of (groups_of es) b
        → sources_of (groups_of (match_ordering o ((k, v) ∷ e ∷ es) ((e.0, v) ∷ es) (e ∷ insert_entry key_cmp es k v))) b ≡ sources_of (groups_of (e ∷ es)) b
    step Less is h = ap (λ t. cond t (sequences_of v.items) (sources_of (groups_of (e ∷ es)) b)) (unlike_test b k.items other)
    step Equal is h =
        let apart : bytes_eq b e.0.items ≡ false = unlike_test b e.0.items (λ s. other (s ∙ sym (exact_bytes k.items e.0.items is))) in
        ap (λ t. cond t (sequences_of v.items) (sources_of (groups_of es) b)) apart ∙ ap (λ t. cond t (sequences_of e.1.items) (sources_of (groups_of es) b)) (sym apart)
    step Greater is h = ap (λ l. cond (bytes_eq b e.0.items) (sequences_of e.1.items) l) h

-- a sequence and sources in the place of those that it had
module _ (old removed new : List Group) (a : List ℕ) (sources : List (List ℕ)) (others : (c : List ℕ) → c ≢ a → sources_of removed c ≡ sources_of old c) (puts : Puts removed new a sources) where
  at_a : (x : List ℕ) → x ≡ a → sources_of new x ≡ sources
  at_a x e = ap (sources_of new) e ∙ puts.0

  apart : (x : List ℕ) → x ≢ a → sources_of new x ≡ sources_of old x
  apart x other = puts.1 x other ∙ others x other

  pub Adds-put : (b : List ℕ) → ((y : List ℕ) → Contains sources y ↔ (Contains (sources_of old a) y ⊎ (y ≡ b))) → Adds old new (λ x y. (x ≡ a) × (y ≡ b))
  Adds-put b members x y = elim (same_sequence x a) [
    | inl e ↦ (
      λ c. elim ((members y).0 (subst (λ l. Contains l y) (at_a x e) c)) [ inl m ↦ inl (subst (λ z. Contains (sources_of old z) y) (sym e) m) | inr s ↦ inr (e, s) ],
      λ d. subst (λ l. Contains l y) (sym (at_a x e)) ((members y).1 (elim d [ inl m ↦ inl (subst (λ z. Contains (sources_of old z) y) e m) | inr s ↦ inr s.1 ])),
    )
    | inr n ↦ (
      λ c. inl (subst (λ l. Contains l y) (apart x n) c),
      λ d. elim d [ inl m ↦ subst (λ l. Contains l y) (sym (apart x n)) m | inr s ↦ absurd (n s.0) ],
    )
  ]

  pub AreSound-put : AreSound old → length sources ≤ 64 → AllPairs (λ b c. b ≢ c) sources → AreSound new
  AreSound-put sound few distinct x = elim (same_sequence x a) [
    | inl e ↦ subst (λ l. (length l ≤ 64) × AllPairs (λ b c. b ≢ c) l) (sym (at_a x e)) (few, distinct)
    | inr n ↦ subst (λ l. (length l ≤ 64) × AllPairs (λ b c. b ≢ c) l) (sym (apart x n)) (sound x)
  ]

-- the members of what is put there
pub members-same : (sources : List (List ℕ)) (b : List ℕ) → Contains sources b → (y : List ℕ) → Contains sources y ↔ (Contains sources y ⊎ (y ≡ b))
members-same sources b has y = (λ c. inl c, λ d. elim d [ inl c ↦ c | inr e ↦ subst (Contains sources) (sym e) has ])

pub members-more : (sources : List (List ℕ)) (b y : List ℕ) → Contains (sources ++ b ∷ []) y ↔ (Contains sources y ⊎ (y ≡ b))
members-more sources b y = (
  λ c. elim (Contains-push_cases sources b y c) [ inl m ↦ inl m | inr e ↦ inr (sym e) ],
  λ d. elim d [ inl m ↦ Contains-append_left sources (b ∷ []) y m | inr e ↦ Contains-append_right sources (b ∷ []) y (subst (Contains (b ∷ [])) (sym e) (Contains-head b [])) ],
)

-- ---- pair by pair

module _ (entries : List Entry) (e : Entry) where
  pub Adds-none : (groups : List Group) → Adds groups groups (TurnsUpTo entries e 0)
  Adds-none groups a b = (λ c. inl c, λ d. elim d [ inl c ↦ c | inr t ↦ absurd (omega (arith, t.1.1)) ])

  one_more : (n : ℕ) (a b : List ℕ) → TurnsUpTo entries e n a b → TurnsUpTo entries e (n + 1) a b
  one_more n a b t = (t.0, (t.1.0, omega (arith, t.1.1), t.1.2), t.2)

  -- a pair of the next variant is of those before, or of it
  one_fewer : (n : ℕ) (v a b : List ℕ) → slice_get (sequences_in e.variants) n ≡ Some v → TurnsUpTo entries e (n + 1) a b → TurnsUpTo entries e n a b ⊎ (a ≡ v)
  one_fewer n v a b at t = elim (same_or_not t.1.0 n) [
    | inl same ↦ inr (some_same a v (sym t.1.2 ∙ ap (slice_get (sequences_in e.variants)) same ∙ at))
    | inr other ↦ inl (t.0, (t.1.0, omega (arith, t.1.1, other), t.1.2), t.2)
  ]

  -- the next variant and the source lack their reverse
  pub Adds-next : (old mid new : List Group) (n : ℕ) (v : List ℕ) → slice_get (sequences_in e.variants) n ≡ Some v → ¬ IsPair entries v e.source → Adds old mid (TurnsUpTo entries e n)
      → Adds mid new (λ a b. (a ≡ v) × (b ≡ e.source)) → Adds old new (TurnsUpTo entries e (n + 1))
  Adds-next old mid new n v at lacking before adds a b = (
    λ c. elim ((adds a b).0 c) [
      | inl m ↦ elim ((before a b).0 m) [ inl o ↦ inl o | inr t ↦ inr (one_more n a b t) ]
      | inr s ↦ inr (s.1, (n, omega arith, at ∙ ap Some (sym s.0)), λ p. lacking (subst (λ y. IsPair entries v y) s.1 (subst (λ x. IsPair entries x b) s.0 p)))
    ],
    λ d. elim d [
      | inl o ↦ (adds a b).1 (inl ((before a b).1 (inl o)))
      | inr t ↦ elim (one_fewer n v a b at t) [
        | inl earlier ↦ (adds a b).1 (inl ((before a b).1 (inr earlier)))
        | inr same ↦ (adds a b).1 (inr (same, t.0))
      ]
    ],
  )

  -- they have it
  pub Adds-skip : (old mid : List Group) (n : ℕ) (v : List ℕ) → slice_get (sequences_in e.variants) n ≡ Some v → IsPair entries v e.source → Adds old mid (TurnsUpTo entries e n) → Adds old mid (TurnsUpTo entries e (n + 1))
  Adds-skip old mid n v at there before a b = (
    λ c. elim ((before a b).0 c) [ inl o ↦ inl o | inr t ↦ inr (one_more n a b t) ],
    λ d. elim d [
      | inl o ↦ (before a b).1 (inl o)
      | inr t ↦ elim (one_fewer n v a b at t) [
        | inl earlier ↦ (before a b).1 (inr earlier)
        | inr same ↦ absurd (t.2 (subst (λ y. IsPair entries a y) (sym t.0) (subst (λ x. IsPair entries x e.source) (sym same) there)))
      ]
    ],
  )

  -- what is turned is a turned pair of the table
  pub IsReversed-turned : Contains entries e → (n : ℕ) (a b : List ℕ) → TurnsUpTo entries e n a b → IsReversed entries a b
  IsReversed-turned there n a b t = record { pair = (e, there, sym t.0, Contains-at (sequences_in e.variants) t.1.0 a t.1.2); lacking = t.2 }

  pub AreTurned-more : Contains entries e → (old mid : List Group) (n : ℕ) → AreTurned entries old → Adds old mid (TurnsUpTo entries e n) → AreTurned entries mid
  AreTurned-more there old mid n turned adds a b c = elim ((adds a b).0 c) [ inl o ↦ turned a b o | inr t ↦ IsReversed-turned there n a b t ]

-- there is no room for one more
unfoldable pub IsCrowded-full : (entries : List Entry) (groups : List Group) (a b : List ℕ) → AreSound groups → AreTurned entries groups → IsReversed entries a b → HasNoRoom groups a b → IsCrowded entries a
IsCrowded-full entries groups a b sound turned more full = record {
  sources = sources_of groups a ++ b ∷ [];
  reversed = λ k d l. member (get_or (sources_of groups a ++ b ∷ []) k d) (Contains-get_or (sources_of groups a ++ b ∷ []) k d l);
  distinct = all_pairs_push (λ x y. x ≢ y) (sources_of groups a) b (sound a).1 (λ k d l e. full.other (subst (Contains (sources_of groups a)) e (Contains-get_or (sources_of groups a) k d l)));
  many = length-append (sources_of groups a) (b ∷ []) ∙ ap (λ n. n + 1) full.full;
}
  where
    member : (y : List ℕ) → Contains (sources_of groups a ++ b ∷ []) y → IsReversed entries a y
    member y c = elim ((members-more (sources_of groups a) b y).0 c) [ inl m ↦ turned a y m | inr e ↦ subst (IsReversed entries a) (sym e) more ]

-- ---- entry by entry

module _ (entries : List Entry) where
  pub AreOfFirst-none : (groups : List Group) → groups ≡ [] → AreOfFirst entries 0 groups
  AreOfFirst-none groups none a b = (λ c. absurd (Contains-none b (subst (λ g. Contains (sources_of g a) b) none c)), λ t. absurd (omega (arith, t.2)))

  pub AreSound-none : (groups : List Group) → groups ≡ [] → AreSound groups
  AreSound-none groups none a = subst (λ g. (length (sources_of g a) ≤ 64) × AllPairs (λ b c. b ≢ c) (sources_of g a)) (sym none) (omega arith, λ i j d l m. absurd (omega (arith, m)))

  pub AreOfFirst-next : (old new : List Group) (n : ℕ) (e : Entry) → slice_get entries n ≡ Some e → AreOfFirst entries n old → Adds old new (Turns entries e) → AreOfFirst entries (n + 1) new
  AreOfFirst-next old new n e at before adds a b = (
    λ c. elim ((adds a b).0 c) [
      | inl o ↦ (let t = (before a b).0 o in (t.0, t.1, omega (arith, t.2), t.3, t.4))
      | inr t ↦ (n, e, omega arith, at, t)
    ],
    λ t. elim (same_or_not t.0 n) [
      | inl same ↦ (adds a b).1 (inr (subst (λ f. Turns entries f a b) (some_same t.1 e (sym t.3 ∙ ap (slice_get entries) same ∙ at)) t.4))
      | inr other ↦ (adds a b).1 (inl ((before a b).1 (t.0, t.1, omega (arith, t.2, other), t.3, t.4)))
    ],
  )

  pub AreTurned-first : (groups : List Group) (n : ℕ) → AreOfFirst entries n groups → AreTurned entries groups
  AreTurned-first groups n are a b c = let t = (are a b).0 c in IsReversed-turned entries t.1 (Contains-at entries t.0 t.1 t.3) (length t.1.variants) a b t.4

  pub AreReversedOf-all : (groups : List Group) (n : ℕ) → length entries ≤ n → AreOfFirst entries n groups → AreReversedOf entries groups
  AreReversedOf-all groups n over are a b = (
    λ c. AreTurned-first groups n are a b c,
    λ r. (let p = r.pair in
        let e : Entry = p.0 in
        let at : slice_get entries p.1.0 ≡ Some e = slice_get-Contains entries e p.1 in
        let v = p.3 in
        let v_at : slice_get (sequences_in e.variants) v.0 ≡ Some a = slice_get-Contains (sequences_in e.variants) a v in
        (are a b).1 (p.1.0, e, omega (arith, p.1.1, over), at, (sym p.2, (v.0, omega (arith, v.1, length-map e.variants (λ (x : Variant). x.sequence)), v_at), r.lacking))),
  )

-- ---- the answers of calls

pub sound_few : (groups : List Group) → AreSound groups → AreFew groups
sound_few groups sound a = (sound a).0

pub sequence-at : (vs : List (Vec ℕ Global)) (i : ℕ) (v : Vec ℕ Global) → slice_get vs i ≡ Some v → slice_get (sequences_of vs) i ≡ Some v.items
sequence-at [] i v e = absurd cc
sequence-at (x ∷ xs) zero v e = ap Some (ap (λ (y : Vec ℕ Global). y.items) (some_same x v e))
sequence-at (x ∷ xs) (suc k) v e = sequence-at xs k v e
