-- The differences of a table.
use Rattle.std.proofs.Common.{◌≡◌, ◌⊎◌, inl, inr, ◌↔◌, ℕ, Bool, true, false, not, ◌&&◌, ◌||◌, ◌==◌, cond, List, [], ◌∷◌, ◌+◌, ◌-◌, ◌≤◌, drop, map, Option, Some, None, Ok, Err, refl, sym, ap, subst, ◌∙◌, arith, eq-eqb, Vec, Global}
use Rattle.std.specs.Prelude.{bytes_eq, slice_get, IfOk, Result}
use Rattle.std.specs.Ordering.{nat_cmp, is_lt}
use Rattle.std.specs.declared.cmp.Ordering.{Ordering}
use Rattle.std.specs.declared.cmp.Ordering.TheVariants.{Less, Equal, Greater}
use Rattle.std.specs.Cmp.Lexicographic.{slice_cmp}
use Rattle.std.specs.List.{Contains, flat_map, list_any}
use Rattle.std.specs.List.Sorted.{IsStrictlySortedBy}
use Rattle.std.proofs.lemmas.Bool.{and_parts, eqb-true}
use Rattle.std.proofs.lemmas.Slice.Eq.{bytes_eq-Decides}
use Rattle.label_patterns.specs.declared.condition.Condition.{Condition}
use Rattle.label_patterns.specs.declared.condition.ConditionKind.{ConditionKind}
use Rattle.label_patterns.specs.declared.condition.ConditionKind.TheVariants.{When, Unless}
use Rattle.variant_table.specs.Conditions.{is_same_kind}
use Rattle.variant_table.specs.Entries.{Entry, Variant, sequences_in, replacements, whole}
use Rattle.variant_table.specs.WellFormed.{IsWellFormed}
use Rattle.variant_table.specs.Places.{entry_with}
use Rattle.variant_table.specs.Gaps.{has_variant, pair_cmp, pairs_of}
use Rattle.variant_table.specs.Differences.{IsPairUnder, IsDifference, AreDifferencesOf, is_same_condition, has_under, has_beyond, differ_by, difference_at, differences_at, differences_of}
use Rattle.variant_table.proofs.BeginningLemmas.{same_entry, entry_with-found, entry_with-of}
use Rattle.variant_table.proofs.EntryLemmas.{sequence_found, variant_asked}
use Rattle.variant_table.proofs.GapLemmas.{Pair, Contains-inserted, flat_map-cases, flat_map-member, any-cases, any-member, contradicts, of_source}
use Rattle.variant_table.proofs.ListLemmas.{drop_next}
use Rattle.variant_table.proofs.MemberLemmas.{Contains-head, Contains-later, Contains-none, Contains-one, Contains-cases}
use Rattle.variant_table.proofs.RisingLemmas.{rising-inserted, rising_none}
use Rattle.variant_table.proofs.WritingLemmas.{slice_get-later}

-- ---- tests of variants

some_passes : (p : Variant → Bool) (xs : List Variant) → list_any p xs ≡ true → (x : Variant) × Contains xs x × (p x ≡ true)
some_passes p [] e = absurd cc
some_passes p (x ∷ xs) e = step (p x) refl e (some_passes p xs)
  where
    step : (b : Bool) → p x ≡ b → (b || list_any p xs) ≡ true → (list_any p xs ≡ true → (y : Variant) × Contains xs y × (p y ≡ true)) → (y : Variant) × Contains (x ∷ xs) y × (p y ≡ true)
    step true f g rest = (x, Contains-head x xs, f)
    step false f g rest = let r = rest g in (r.0, Contains-later x xs r.0 r.1, r.2)

passes : (p : Variant → Bool) (xs : List Variant) (x : Variant) → Contains xs x → p x ≡ true → list_any p xs ≡ true
passes p [] x h e = absurd (Contains-none x h)
passes p (y ∷ ys) x h e = step (p y) refl (Contains-cases y ys x h) (λ m. passes p ys x m e)
  where
    step : (b : Bool) → p y ≡ b → ((y ≡ x) ⊎ Contains ys x) → (Contains ys x → list_any p ys ≡ true) → (b || list_any p ys) ≡ true
    step true f d rest = refl
    step false f (inl s) rest = contradicts (p y) (ap p s ∙ e) f
    step false f (inr m) rest = rest m

both : (b c : Bool) → b ≡ true → c ≡ true → (b && c) ≡ true
both true c e f = f
both false c e f = absurd cc

-- ---- conditions

same_kind_is : (k l : ConditionKind) → is_same_kind k l ≡ true → k ≡ l
same_kind_is When When e = refl
same_kind_is Unless Unless e = refl
same_kind_is When Unless e = absurd cc
same_kind_is Unless When e = absurd cc

same_kind_from : (k : ConditionKind) → is_same_kind k k ≡ true
same_kind_from When = refl
same_kind_from Unless = refl

pub same_condition_is : (c d : Option Condition) → is_same_condition c d ≡ true → c ≡ d
same_condition_is None None e = refl
same_condition_is None (Some d) e = absurd cc
same_condition_is (Some c) None e = absurd cc
same_condition_is (Some c) (Some d) e =
    let p = and_parts (is_same_kind c.kind d.kind) (c.rule == d.rule) e in
    let k : c.kind ≡ d.kind = same_kind_is c.kind d.kind p.0 in
    let r : c.rule ≡ d.rule = eqb-true c.rule d.rule p.1 in
    ap Some (ap (λ x. record { kind = x; rule = c.rule }) k ∙ ap (λ y. record { kind = d.kind; rule = y }) r)

pub same_condition_from : (c : Option Condition) → is_same_condition c c ≡ true
same_condition_from None = refl
same_condition_from (Some c) = both (is_same_kind c.kind c.kind) (c.rule == c.rule) (same_kind_from c.kind) (eq-eqb c.rule c.rule refl)

-- ---- variants under conditions

module _ (e : Entry) (v : List ℕ) where
  abbrev pub Has : Option Condition → Type 0
  Has c = (x : Variant) × Contains e.variants x × (x.sequence ≡ v) × (x.condition ≡ c)

  under_test : (c : Option Condition) → Variant → Bool
  under_test c x = bytes_eq v x.sequence && is_same_condition c x.condition

  has_under_is : (c : Option Condition) → has_under v c e ≡ true → Has c
  has_under_is c t =
      let r = some_passes (λ x. bytes_eq v x.sequence && is_same_condition c x.condition) e.variants t in
      let p = and_parts (bytes_eq v r.0.sequence) (is_same_condition c r.0.condition) r.2 in
      (r.0, r.1, sym ((bytes_eq-Decides v r.0.sequence).0 p.0), sym (same_condition_is c r.0.condition p.1))

  has_under_from : (c : Option Condition) → Has c → has_under v c e ≡ true
  has_under_from c h = passes (λ x. bytes_eq v x.sequence && is_same_condition c x.condition) e.variants h.0 h.1
      (both (bytes_eq v h.0.sequence) (is_same_condition c h.0.condition) ((bytes_eq-Decides v h.0.sequence).1 (sym h.2)) (subst (λ d. is_same_condition c d ≡ true) (sym h.3) (same_condition_from c)))

not_true : (b : Bool) → not b ≡ true → b ≡ false
not_true true e = absurd cc
not_true false e = refl

not_false : (b : Bool) → b ≡ false → not b ≡ true
not_false true e = absurd cc
not_false false e = refl

module _ (e : Entry) (v : List ℕ) (f : Entry) (w : List ℕ) where
  beyond_is : has_beyond e v f w ≡ true → (c : Option Condition) × Has e v c × (Has f w c → ⊥)
  beyond_is t =
      let r = some_passes (λ x. bytes_eq v x.sequence && not (has_under w x.condition f)) e.variants t in
      let p = and_parts (bytes_eq v r.0.sequence) (not (has_under w r.0.condition f)) r.2 in
      (r.0.condition, (r.0, r.1, sym ((bytes_eq-Decides v r.0.sequence).0 p.0), refl), λ h. contradicts (has_under w r.0.condition f) (has_under_from f w r.0.condition h) (not_true (has_under w r.0.condition f) p.1))

  none_beyond : has_beyond e v f w ≡ false → (c : Option Condition) → Has e v c → Has f w c
  none_beyond n c h = step (has_under w c f) refl
    where
      step : (b : Bool) → has_under w c f ≡ b → Has f w c
      step true t = has_under_is f w c t
      step false t = contradicts (has_beyond e v f w)
          (passes (λ x. bytes_eq v x.sequence && not (has_under w x.condition f)) e.variants h.0 h.1
          (both (bytes_eq v h.0.sequence) (not (has_under w h.0.condition f)) ((bytes_eq-Decides v h.0.sequence).1 (sym h.2)) (not_false (has_under w h.0.condition f) (ap (λ d. has_under w d f) h.3 ∙ t)))) n

-- ---- differences

abbrev pair : List ℕ → List ℕ → Pair
pair a b = (a, b)

is_lt_is : (o : Ordering) → is_lt o ≡ true → o ≡ Less
is_lt_is Less e = refl
is_lt_is Equal e = absurd cc
is_lt_is Greater e = absurd cc

either : (b c : Bool) → (b || c) ≡ true → (b ≡ true) ⊎ (c ≡ true)
either true c e = inl refl
either false c e = inr e

neither : (b c : Bool) → (b || c) ≡ false → (b ≡ false) × (c ≡ false)
neither true c e = absurd cc
neither false c e = (refl, e)

has_sequence : (e : Entry) (v : List ℕ) → has_variant e v ≡ true → Contains (sequences_in e.variants) v
has_sequence e v t = any-cases v (sequences_in e.variants) t

module _ (table : List Entry) (well : IsWellFormed table) where
  -- under which conditions one sequence is a variant of another is said by the one entry of that source
  under_is : (e : Entry) (a b : List ℕ) (c : Option Condition) → Contains table e → e.source ≡ a → IsPairUnder table a b c → Has e b c
  under_is e a b c h is p = subst (λ x. Has x b c) (same_entry table p.0 e well.sources p.1 h (p.2 ∙ sym is)) (p.3, p.4, p.5, p.6)

  under_from : (e : Entry) (a b : List ℕ) (c : Option Condition) → Contains table e → e.source ≡ a → Has e b c → IsPairUnder table a b c
  under_from e a b c h is p = (e, h, is, p.0, p.1, p.2, p.3)

  difference_is : (e f : Entry) (v : List ℕ) → Contains table e → Contains (sequences_in e.variants) v → Contains table f → f.source ≡ v → differ_by e v (Some f) ≡ true → IsDifference table e.source v
  difference_is e f v h m k s t =
      let p = and_parts (is_lt (slice_cmp nat_cmp e.source v) && has_variant f e.source) (has_beyond e v f e.source || has_beyond f e.source e v) t in
      let q = and_parts (is_lt (slice_cmp nat_cmp e.source v)) (has_variant f e.source) p.0 in
      record {
        in_order = is_lt_is (slice_cmp nat_cmp e.source v) q.0;
        there = (e, h, refl, m);
        back = (f, k, s, has_sequence f e.source q.1);
        unlike = λ same. elim (either (has_beyond e v f e.source) (has_beyond f e.source e v) p.1) [
          | inl x ↦ let b = beyond_is e v f e.source x in b.2 (under_is f v e.source b.0 k s ((same b.0).0 (under_from e e.source v b.0 h refl b.1)))
          | inr x ↦ let b = beyond_is f e.source e v x in b.2 (under_is e e.source v b.0 h refl ((same b.0).1 (under_from f v e.source b.0 k s b.1)))
        ];
      }

  differ_from : (e f : Entry) → Contains table e → Contains table f → IsDifference table e.source f.source → differ_by e f.source (Some f) ≡ true
  differ_from e f h k d =
      let more : (has_beyond e f.source f e.source || has_beyond f e.source e f.source) ≡ true =
      step (has_beyond e f.source f e.source || has_beyond f e.source e f.source) refl in
      both (is_lt (slice_cmp nat_cmp e.source f.source) && has_variant f e.source) (has_beyond e f.source f e.source || has_beyond f e.source e f.source)
      (both (is_lt (slice_cmp nat_cmp e.source f.source)) (has_variant f e.source) (ap is_lt d.in_order) (any-member e.source (sequences_in f.variants) (of_source table well f f.source e.source k refl d.back))) more
    where
      step : (b : Bool) → (has_beyond e f.source f e.source || has_beyond f e.source e f.source) ≡ b → (has_beyond e f.source f e.source || has_beyond f e.source e f.source) ≡ true
      step true t = t
      step false t =
          let n = neither (has_beyond e f.source f e.source) (has_beyond f e.source e f.source) t in
          absurd (d.unlike (λ c. (
            λ p. under_from f f.source e.source c k refl (none_beyond e f.source f e.source n.0 c (under_is e e.source f.source c h refl p)),
            λ p. under_from e e.source f.source c h refl (none_beyond f e.source e f.source n.1 c (under_is f f.source e.source c k refl p)),
          )))

  at_is : (e : Entry) (v a b : List ℕ) (o : Option Entry) → Contains table e → Contains (sequences_in e.variants) v → entry_with table v ≡ o → (t : Bool) → differ_by e v o ≡ t
      → Contains (cond t (pair e.source v ∷ []) []) (pair a b) → IsDifference table a b
  at_is e v a b o h m is false t c = absurd (Contains-none (pair a b) c)
  at_is e v a b None h m is true t c = absurd cc
  at_is e v a b (Some f) h m is true t c =
      let r = entry_with-found table v f is in
      let same : pair e.source v ≡ pair a b = Contains-one (pair e.source v) (pair a b) c in
      subst (λ (p : Pair). IsDifference table p.0 p.1) same (difference_is e f v h m r.0 r.1 t)

  differences_are : (a b : List ℕ) → Contains (flat_map (differences_at table) table) (pair a b) → IsDifference table a b
  differences_are a b c =
      let r = flat_map-cases (differences_at table) table (pair a b) c in
      let q = flat_map-cases (difference_at table r.0) (sequences_in r.0.variants) (pair a b) r.2 in
      at_is r.0 q.0 a b (entry_with table q.0) r.1 q.1 refl (differ_by r.0 q.0 (entry_with table q.0)) refl q.2

  found : (a b : List ℕ) → IsDifference table a b → Contains (flat_map (differences_at table) table) (pair a b)
  found a b d =
      let e = d.there.0 in
      let f = d.back.0 in
      let here : IsDifference table e.source f.source = subst (λ x. IsDifference table x f.source) (sym d.there.2) (subst (IsDifference table a) (sym d.back.2) d) in
      let t : differ_by e b (entry_with table b) ≡ true =
      ap (differ_by e b) (entry_with-of table b f well.sources d.back.1 d.back.2) ∙ ap (λ x. differ_by e x (Some f)) (sym d.back.2) ∙ differ_from e f d.there.1 d.back.1 here in
      let told : Contains (difference_at table e b) (pair a b) =
      subst (λ t. Contains (cond t (pair e.source b ∷ []) []) (pair a b)) (sym t) (subst (λ s. Contains (pair s b ∷ []) (pair a b)) (sym d.there.2) (Contains-head (pair a b) [])) in
      flat_map-member (differences_at table) table e (pair a b) d.there.1 (flat_map-member (difference_at table e) (sequences_in e.variants) b (pair a b) d.there.3 told)

  pub differences_members : (a b : List ℕ) → Contains (differences_of table) (pair a b) ↔ IsDifference table a b
  differences_members a b =
      let i = Contains-inserted [] (flat_map (differences_at table) table) (pair a b) in
      (λ c. elim (i.0 c) [ inl m ↦ absurd (Contains-none (pair a b) m) | inr m ↦ differences_are a b m ], λ d. i.1 (inr (found a b d)))

pub differences_of_are_differences : (table : List Entry) → IsWellFormed table → AreDifferencesOf table (differences_of table)
differences_of_are_differences table well = record {
  rising = rising-inserted [] (flat_map (differences_at table) table) rising_none;
  members = differences_members table well;
}

-- ---- one variant more in a loop

abbrev Held : Type 0
Held = Vec ℕ Global × Vec ℕ Global

-- a test of the variant at a place, and of those after it
pub passes_from : (p : Variant → Bool) (e : Entry) (n : ℕ) (result : Bool) → 1 ≤ n → (x : Variant) × (slice_get e.variants (n - 1) ≡ Some x) × (result ≡ p x)
    → list_any p (drop (n - 1) e.variants) ≡ (result || list_any p (drop (n + 1 - 1) e.variants))
passes_from p e n result some at =
    let count : n - 1 + 1 ≡ n + 1 - 1 = omega (arith, some) in
    ap (list_any p) (drop_next e.variants (n - 1) at.0 at.1) ∙ ap (λ k. p at.0 || list_any p (drop k e.variants)) count
    ∙ ap (λ b. b || list_any p (drop (n + 1 - 1) e.variants)) (sym at.2)

-- the variant of a number has this sequence and this condition
pub variant_of : (p : List ℕ → Option Condition → Bool) (e : Entry) (n : ℕ) (s : List ℕ) (c : Option Condition) (result : Bool) → 1 ≤ n
    → slice_get (replacements e) n ≡ Some s → slice_get (map (λ v. v.condition) (whole e)) n ≡ Some c → result ≡ p s c
    → (x : Variant) × (slice_get e.variants (n - 1) ≡ Some x) × (result ≡ p x.sequence x.condition)
variant_of p e n s c result some at under is =
    let found = variant_asked e.variants (n - 1) s c (sym (slice_get-later e.source (sequences_in e.variants) n some) ∙ at)
    (sym (slice_get-later e.condition (map (λ v. v.condition) e.variants) n some) ∙ under) in
    (found.0, found.1, is ∙ ap (λ y. p y c) (sym found.2) ∙ ap (p found.0.sequence) (sym found.3))

-- it has another sequence
pub variant_fails : (p : List ℕ → Bool) (q : Variant → Bool) (e : Entry) (n : ℕ) (s : List ℕ) (result : Bool) → 1 ≤ n → slice_get (replacements e) n ≡ Some s → result ≡ p s → result ≡ false
    → (x : Variant) × (slice_get e.variants (n - 1) ≡ Some x) × (result ≡ (p x.sequence && q x))
variant_fails p q e n s result some at is fails =
    let found = sequence_found e.variants (n - 1) s (sym (slice_get-later e.source (sequences_in e.variants) n some) ∙ at) in
    (found.0, found.1, fails ∙ sym (ap (λ b. b && q found.0) (ap p found.2 ∙ sym is ∙ fails)))

-- ---- what a call gives

pub differences_result : {E : Type 0} (table : List Entry) (well : IsWellFormed table) (r : Result (Vec Held Global) E) → IfOk r (λ v. pairs_of v.items ≡ differences_of table) → IfOk r (λ v. IsStrictlySortedBy pair_cmp (pairs_of v.items)) → IfOk r (λ v. AreDifferencesOf table (pairs_of v.items))
differences_result table well (Ok v) e h = record { rising = h; members = λ a b. subst (λ l. Contains l (pair a b) ↔ IsDifference table a b) (sym e) (differences_members table well a b) }
differences_result table well (Err f) e h = tt
