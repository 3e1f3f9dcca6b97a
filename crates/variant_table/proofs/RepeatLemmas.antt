-- Variants of an entry that stand again, and those that are apart.
use Rattle.std.proofs.Common.{◌≡◌, ℕ, zero, suc, ◌+◌, ◌<◌, ◌≤◌, Bool, true, false, not, ◌&&◌, ◌||◌, cond, eqb, min, List, [], ◌∷◌, ◌++◌, length, map, take, drop, get_or, Some, None, Option, refl, sym, ap, ◌∙◌, append_assoc, append-nil, arith, eq-eqb}
use Rattle.std.specs.Prelude.{bytes_eq, is_some, slice_get}
use Rattle.std.specs.List.{AllByRecursion, AllPairs, Contains, list_any}
use Rattle.std.proofs.lemmas.Bool.{and_parts, or_parts, or_from, not-false, eqb-true}
use Rattle.std.proofs.lemmas.List.{length-take}
use Rattle.std.proofs.lemmas.List.Folds.{list_any-append}
use Rattle.std.proofs.lemmas.List.Elements.{All-from_recursion, recursion_from_All}
use Rattle.std.proofs.lemmas.List.Kept.{AllPairs-cons}
use Rattle.std.proofs.lemmas.Slice.Eq.{bytes_eq-Decides}
use Rattle.label_patterns.specs.declared.condition.Condition.{Condition}
use Rattle.label_patterns.specs.declared.condition.ConditionKind.{ConditionKind}
use Rattle.label_patterns.specs.declared.condition.ConditionKind.TheVariants.{When, Unless}
use Rattle.variant_table.specs.Conditions.{is_same_kind, differ, first_again, is_again, has_repeat, stands_in}
use Rattle.variant_table.specs.Entries.{Variant, Entry, entry_from, itself, sequences_in, full_replacements}
use Rattle.variant_table.specs.WellFormed.{AreOther, AreApart, IsEntry}
use Rattle.variant_table.proofs.EntryLemmas.{sequence_found, variant_asked}
use Rattle.variant_table.proofs.ListLemmas.{drop_all, drop_next, take_next}
use Rattle.variant_table.proofs.NumberLemmas.{pairs_head, pairs_tail}

-- ---- one that stands again later

abbrev pub repeats : List Variant → Bool
repeats [] = false
repeats (v ∷ variants) = list_any (is_again v.sequence v.condition) variants || repeats variants

-- the same by what stands before
abbrev any_again : List Variant → List Variant → Bool
any_again before [] = false
any_again before (v ∷ variants) = stands_in before v || any_again (before ++ v ∷ []) variants

some_again : (variants before : List Variant) → is_some (first_again before variants) ≡ any_again before variants
some_again [] before = refl
some_again (v ∷ variants) before = by (stands_in before v) (some_again variants (before ++ v ∷ []))
  where
    by : (b : Bool) → is_some (first_again (before ++ v ∷ []) variants) ≡ any_again (before ++ v ∷ []) variants
        → is_some (cond b (Some (length before)) (first_again (before ++ v ∷ []) variants)) ≡ (b || any_again (before ++ v ∷ []) variants)
    by true rest = refl
    by false rest = rest

last_moved : (a r q s : Bool) → ((a || (r || false)) || (q || s)) ≡ ((a || q) || (r || s))
last_moved true r q s = refl
last_moved false true true s = refl
last_moved false true false s = refl
last_moved false false q s = refl

repeats_more : (before : List Variant) (v : Variant) → repeats (before ++ v ∷ []) ≡ (repeats before || stands_in before v)
repeats_more [] v = refl
repeats_more (u ∷ before) v =
    ap (λ c. c || repeats (before ++ v ∷ [])) (list_any-append (is_again u.sequence u.condition) before (v ∷ []))
    ∙ ap (λ c. (list_any (is_again u.sequence u.condition) before || (is_again u.sequence u.condition v || false)) || c) (repeats_more before v)
    ∙ last_moved (list_any (is_again u.sequence u.condition) before) (is_again u.sequence u.condition v) (repeats before) (stands_in before v)

first_moved : (s a p : Bool) → ((s || a) || p) ≡ (a || (p || s))
first_moved true true p = refl
first_moved true false true = refl
first_moved true false false = refl
first_moved false true p = refl
first_moved false false true = refl
first_moved false false false = refl

again_repeats : (variants before : List Variant) → (any_again before variants || repeats before) ≡ repeats (before ++ variants)
again_repeats [] before = ap repeats (sym (append-nil before))
again_repeats (v ∷ variants) before =
    first_moved (stands_in before v) (any_again (before ++ v ∷ []) variants) (repeats before)
    ∙ ap (λ b. any_again (before ++ v ∷ []) variants || b) (sym (repeats_more before v)) ∙ again_repeats variants (before ++ v ∷ []) ∙ ap repeats (append_assoc before (v ∷ []) variants)

or_false : (b : Bool) → b ≡ (b || false)
or_false true = refl
or_false false = refl

pub repeat_is : (e : Entry) → has_repeat e ≡ repeats (itself e ∷ e.variants)
repeat_is e = some_again (itself e ∷ e.variants) [] ∙ or_false (any_again [] (itself e ∷ e.variants)) ∙ again_repeats (itself e ∷ e.variants) []

-- ---- conditions

same_kind : (k l : ConditionKind) → is_same_kind k l ≡ true → k ≡ l
same_kind When When h = refl
same_kind When Unless h = absurd cc
same_kind Unless When h = absurd cc
same_kind Unless Unless h = refl

itself_same : (k : ConditionKind) → is_same_kind k k ≡ true
itself_same When = refl
itself_same Unless = refl

never_differs : (c : Condition) → differ (Some c) (Some c) ≡ false
never_differs c = ap (λ b. not (b && eqb c.rule c.rule)) (itself_same c.kind) ∙ ap not (eq-eqb c.rule c.rule refl)

same_condition : (c d : Condition) → c.kind ≡ d.kind → c.rule ≡ d.rule → Some c ≡ Some d
same_condition c d k r = ap (λ x. Some (record c { kind = x })) k ∙ ap (λ x. Some (record d { rule = x })) r

differ_other : (c d : Option Condition) → differ c d ≡ true → AreOther c d
differ_other None d h = absurd cc
differ_other (Some c) None h = absurd cc
differ_other (Some c) (Some d) h = (
  λ e. cc,
  λ e. cc,
  λ e. (let x : false ≡ true = sym (never_differs c) ∙ ap (differ (Some c)) e ∙ h in cc),
)

other_differ : (c d : Option Condition) → AreOther c d → differ c d ≡ true
other_differ None d h = absurd (h.0 refl)
other_differ (Some c) None h = absurd (h.1 refl)
other_differ (Some c) (Some d) h = by_both (is_same_kind c.kind d.kind && eqb c.rule d.rule) refl
  where
    by_both : (b : Bool) → (is_same_kind c.kind d.kind && eqb c.rule d.rule) ≡ b → not b ≡ true
    by_both false e = refl
    by_both true e =
        let p = and_parts (is_same_kind c.kind d.kind) (eqb c.rule d.rule) e in
        absurd (h.2 (same_condition c d (same_kind c.kind d.kind p.0) (eqb-true c.rule d.rule p.1)))

-- ---- two variants

pub apart_from : (v w : Variant) → is_again v.sequence v.condition w ≡ false → AreApart v w
apart_from v w h = λ same.
    let equal : bytes_eq v.sequence w.sequence ≡ true = (bytes_eq-Decides v.sequence w.sequence).1 same in
    differ_other v.condition w.condition (not-false (differ v.condition w.condition) (ap (λ b. b && not (differ v.condition w.condition)) (sym equal) ∙ h))

pub again_from : (v w : Variant) → AreApart v w → is_again v.sequence v.condition w ≡ false
again_from v w h = by_sequence (bytes_eq v.sequence w.sequence) refl
  where
    by_sequence : (b : Bool) → bytes_eq v.sequence w.sequence ≡ b → (b && not (differ v.condition w.condition)) ≡ false
    by_sequence false e = refl
    by_sequence true e = ap not (other_differ v.condition w.condition (h ((bytes_eq-Decides v.sequence w.sequence).0 e)))

others : (v : Variant) (variants : List Variant) → list_any (is_again v.sequence v.condition) variants ≡ false → AllByRecursion (AreApart v) variants
others v [] h = tt
others v (w ∷ variants) h =
    let p = or_parts (is_again v.sequence v.condition w) (list_any (is_again v.sequence v.condition) variants) h in
    (apart_from v w p.0, others v variants p.1)

none_again : (v : Variant) (variants : List Variant) → AllByRecursion (AreApart v) variants → list_any (is_again v.sequence v.condition) variants ≡ false
none_again v [] h = refl
none_again v (w ∷ variants) h = or_from (is_again v.sequence v.condition w) (list_any (is_again v.sequence v.condition) variants) (again_from v w h.0) (none_again v variants h.1)

-- ---- all variants

pub distinct_from : (variants : List Variant) → repeats variants ≡ false → AllPairs AreApart variants
distinct_from [] h = λ i j d l k. absurd (omega (arith, k))
distinct_from (v ∷ variants) h =
    let p = or_parts (list_any (is_again v.sequence v.condition) variants) (repeats variants) h in
    AllPairs-cons AreApart v variants (All-from_recursion (AreApart v) variants (others v variants p.0)) (distinct_from variants p.1)

pub no_repeats : (variants : List Variant) → AllPairs AreApart variants → repeats variants ≡ false
no_repeats [] h = refl
no_repeats (v ∷ variants) h =
    or_from (list_any (is_again v.sequence v.condition) variants) (repeats variants) (none_again v variants (recursion_from_All (AreApart v) variants (pairs_head AreApart v variants h))) (no_repeats variants (pairs_tail AreApart v variants h))

-- ---- one after another

-- the variant at a number, by its sequence and its condition
pub asked : (vs : List Variant) (i : ℕ) (s wanted : List ℕ) (c d : Option Condition) → slice_get (sequences_in vs) i ≡ Some s → slice_get (map (λ v. v.condition) vs) i ≡ Some c
    → (v : Variant) × (slice_get vs i ≡ Some v) × ((bytes_eq s wanted && not (differ c d)) ≡ (bytes_eq v.sequence wanted && not (differ v.condition d)))
asked vs i s wanted c d e f =
    let at = variant_asked vs i s c e f in
    (at.0, at.1, ap (λ x. bytes_eq x wanted && not (differ c d)) (sym at.2) ∙ ap (λ x. bytes_eq (at.0).sequence wanted && not (differ x d)) (sym at.3))

-- the same where its sequence is another one
pub asked_other : (vs : List Variant) (i : ℕ) (s wanted : List ℕ) (d : Option Condition) → slice_get (sequences_in vs) i ≡ Some s → bytes_eq s wanted ≡ false
    → (v : Variant) × (slice_get vs i ≡ Some v) × (false ≡ (bytes_eq v.sequence wanted && not (differ v.condition d)))
asked_other vs i s wanted d e f =
    let at = sequence_found vs i s e in
    (at.0, at.1, sym (ap (λ b. b && not (differ (at.0).condition d)) (ap (λ x. bytes_eq x wanted) at.2 ∙ f)))

-- the source as a replacement of itself is the first of those that are compared, and the others are the variants
pub variant_in : (ss : List Variant) (i : ℕ) (v : Variant) → 0 < i → slice_get ss i ≡ Some v → slice_get (full_replacements (entry_from ss)) i ≡ Some v
variant_in ss zero v l e = absurd (omega (arith, l))
variant_in [] (suc i) v l e = absurd cc
variant_in (x ∷ ss) (suc i) v l e = e

pub source_stands : (ss : List Variant) (n : ℕ) (s : List ℕ) (v : Variant) → 0 < n → slice_get (sequences_in ss) 0 ≡ Some s → bytes_eq s v.sequence ≡ true → stands_in (take n (full_replacements (entry_from ss))) v ≡ true
source_stands ss zero s v l e h = absurd (omega (arith, l))
source_stands [] (suc n) s v l e h = absurd cc
source_stands (x ∷ ss) (suc n) s v l e h =
    let same : x.sequence ≡ s = cc in
    ap (λ b. (b && true) || stands_in (take n ss) v) (ap (λ y. bytes_eq y v.sequence) same ∙ h)

pub source_apart : (ss : List Variant) (s : List ℕ) (v : Variant) → slice_get (sequences_in ss) 0 ≡ Some s → bytes_eq s v.sequence ≡ false → stands_in (take 1 (full_replacements (entry_from ss))) v ≡ false
source_apart [] s v e h = absurd cc
source_apart (x ∷ ss) s v e h =
    let same : x.sequence ≡ s = cc in
    ap (λ b. (b && true) || false) (ap (λ y. bytes_eq y v.sequence) same ∙ h)

-- one more of those before
pub stands_next : (xs : List Variant) (i : ℕ) (u v : Variant) → slice_get xs i ≡ Some u → stands_in (take (i + 1) xs) v ≡ (stands_in (take i xs) v || is_again u.sequence u.condition v)
stands_next xs i u v e =
    ap (λ ys. stands_in ys v) (take_next xs i u e) ∙ list_any-append (λ w. is_again w.sequence w.condition v) (take i xs) (u ∷ [])
    ∙ ap (λ b. stands_in (take i xs) v || b) (sym (or_false (is_again u.sequence u.condition v)))

-- one of those before is one of more
pub still_stands : (xs : List Variant) (i n : ℕ) (v : Variant) → i ≤ n → stands_in (take i xs) v ≡ true → stands_in (take n xs) v ≡ true
still_stands xs zero n v l h = absurd cc
still_stands [] (suc i) n v l h = absurd cc
still_stands (x ∷ xs) (suc i) zero v l h = absurd (omega (arith, l))
still_stands (x ∷ xs) (suc i) (suc n) v l h = by (is_again x.sequence x.condition v) h (still_stands xs i n v (omega (arith, l)))
  where
    by : (b : Bool) → (b || stands_in (take i xs) v) ≡ true → (stands_in (take i xs) v ≡ true → stands_in (take n xs) v ≡ true) → (b || stands_in (take n xs) v) ≡ true
    by true k rest = refl
    by false k rest = rest k

-- one more of those that are looked at
again_step : (xs : List Variant) (i : ℕ) (v : Variant) → slice_get xs i ≡ Some v → first_again (take i xs) (drop i xs) ≡ cond (stands_in (take i xs) v) (Some (length (take i xs))) (first_again (take (i + 1) xs) (drop (i + 1) xs))
again_step xs i v e =
    ap (first_again (take i xs)) (drop_next xs i v e)
    ∙ ap (λ before. cond (stands_in (take i xs) v) (Some (length (take i xs))) (first_again before (drop (i + 1) xs))) (sym (take_next xs i v e))

module _ (xs : List Variant) (i : ℕ) (v : Variant) (at : slice_get xs i ≡ Some v) (all : Option ℕ) (so_far : first_again (take i xs) (drop i xs) ≡ all) where
  pub again_here : i ≤ length xs → stands_in (take i xs) v ≡ true → Some i ≡ all
  again_here l h =
      ap (λ n. Some n) (sym (length-take i xs ∙ (let least : min i (length xs) ≡ i = omega (arith, l) in least)))
      ∙ sym (again_step xs i v at ∙ ap (λ b. cond b (Some (length (take i xs))) (first_again (take (i + 1) xs) (drop (i + 1) xs))) h) ∙ so_far

  pub again_later : stands_in (take i xs) v ≡ false → first_again (take (i + 1) xs) (drop (i + 1) xs) ≡ all
  again_later h = sym (again_step xs i v at ∙ ap (λ b. cond b (Some (length (take i xs))) (first_again (take (i + 1) xs) (drop (i + 1) xs))) h) ∙ so_far

pub again_none : (xs : List Variant) (i : ℕ) (all : Option ℕ) → length xs ≤ i → first_again (take i xs) (drop i xs) ≡ all → None ≡ all
again_none xs i all l h = sym (ap (first_again (take i xs)) (drop_all xs i l)) ∙ h

pub length-variants : (ss : List Variant) → 0 < length ss → length (full_replacements (entry_from ss)) ≡ length ss
length-variants [] l = absurd (omega (arith, l))
length-variants (x ∷ ss) l = refl

-- no variant of an entry has the sequence of its source
at_place : (x : Variant) (variants : List Variant) (v : List ℕ) (k : ℕ) → x.condition ≡ None → AllByRecursion (AreApart x) variants → k < length (sequences_in variants) → get_or (sequences_in variants) k v ≡ v → x.sequence ≡ v → ⊥
at_place x [] v k none h l e same = omega (arith, l)
at_place x (w ∷ variants) v zero none h l e same = (h.0 (same ∙ sym e)).0 none
at_place x (w ∷ variants) v (suc k) none h l e same = at_place x variants v k none h.1 (omega (arith, l)) e same

pub unlike_source : (e : Entry) (v : List ℕ) → IsEntry e → Contains (sequences_in e.variants) v → e.source ≡ v → ⊥
unlike_source e v h c same =
    at_place (itself e) e.variants v c.0 refl (recursion_from_All (AreApart (itself e)) e.variants (pairs_head AreApart (itself e) e.variants h.distinct)) c.1 c.2 same
