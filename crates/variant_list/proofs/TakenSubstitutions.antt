-- The substitutions of a label, taken one after the other.
use Rattle.std.proofs.Common.{◌≡◌, ℕ, zero, suc, ◌+◌, ◌-◌, ◌≤◌, Bool, true, false, map, List, [], ◌∷◌, ◌++◌, length, take, refl, sym, ap, ◌∙◌, subst, arith, append-nil, append_assoc}
use Rattle.std.specs.Prelude.{slice_get, Option, Some, ◌^◌, filter, if◌then◌else◌}
use Rattle.std.specs.List.{Contains, flat_map}
use Rattle.std.proofs.lemmas.Grind.{flat_map-append}
use Rattle.std.proofs.lemmas.List.{map-append}
use Rattle.std.proofs.lemmas.List.Elements.{Contains-append_right, filter-append}
use Rattle.variant_dispositions.specs.Kinds.{bit_of, kind_of_source, kind_of_variant}
use Rattle.variant_table.specs.Entries.{Entry, TableValue, Variant, replacements, source_of, whole}
use Rattle.reading_kinds.specs.Drafts.{Draft, with_substitutions}
use Rattle.reading_kinds.specs.Readings.{Substitution}
use Rattle.variant_list.specs.Substitutions.{substitution_of, substitutions_at, substitutions_from}
use Rattle.variant_table.specs.Staying.{staying}
use Rattle.variant_list.proofs.ListMembers.{filter-one, mapped-at, mapped-same}
use Rattle.variant_table.proofs.MemberLemmas.{Contains-head}
use Rattle.variant_table.proofs.ListLemmas.{take_next}

pub with_substitutions-nothing : (draft : Draft) → draft ≡ with_substitutions draft []
with_substitutions-nothing draft = ap (λ us. draft_of us) (sym (append-nil draft.begun))
  where
    draft_of : List Substitution → Draft
    draft_of us = record { done = draft.done; begun = us }

pub with_substitutions-twice : (draft : Draft) (us vs : List Substitution) → with_substitutions (with_substitutions draft us) vs ≡ with_substitutions draft (us ++ vs)
with_substitutions-twice draft us vs = ap (λ xs. draft_of xs) (append_assoc draft.begun us vs)
  where
    draft_of : List Substitution → Draft
    draft_of xs = record { done = draft.done; begun = xs }

-- the entries that aren't left were taken, as far as they may stand where they do
pub record HasEntries (stands : Entry → Bool) (gives : Entry → List Substitution) (all left : List Entry) (old new : Draft) : Type 0 where
  pub done : List Entry
  pub split : all ≡ done ++ left
  pub taken : new ≡ with_substitutions old (flat_map gives (filter stands done))

module _ (stands : Entry → Bool) (gives : Entry → List Substitution) where
  -- the entries that were taken, and one more
  more_taken : (done : List Entry) (e : Entry) → flat_map gives (filter stands (done ++ e ∷ [])) ≡ flat_map gives (filter stands done) ++ flat_map gives (filter stands (e ∷ []))
  more_taken done e = ap (flat_map gives) (filter-append stands done (e ∷ [])) ∙ flat_map-append gives (filter stands done) (filter stands (e ∷ []))

  pub HasEntries-none : (all : List Entry) (old : Draft) → HasEntries stands gives all all old old
  HasEntries-none all old = record { done = []; split = refl; taken = with_substitutions-nothing old }

  pub HasEntries-more : (all left : List Entry) (e : Entry) (rest : List Entry) (old mid new : Draft) → HasEntries stands gives all left old mid → left ≡ e ∷ rest → stands e ≡ true → new ≡ with_substitutions mid (gives e)
      → HasEntries stands gives all rest old new
  HasEntries-more all left e rest old mid new h next stand taken = record {
    done = h.done ++ e ∷ [];
    split = h.split ∙ ap (λ xs. h.done ++ xs) next ∙ sym (append_assoc h.done (e ∷ []) rest);
    taken = taken ∙ ap (λ d. with_substitutions d (gives e)) h.taken ∙ with_substitutions-twice old (flat_map gives (filter stands h.done)) (gives e)
        ∙ ap (with_substitutions old) (sym (more_taken h.done e ∙ ap (λ es. flat_map gives (filter stands h.done) ++ flat_map gives es) (filter-one stands e true stand)
        ∙ ap (λ us. flat_map gives (filter stands h.done) ++ us) (append-nil (gives e))));
  }

  -- an entry that may not stand there is left out
  pub HasEntries-skip : (all left : List Entry) (e : Entry) (rest : List Entry) (old new : Draft) → HasEntries stands gives all left old new → left ≡ e ∷ rest → stands e ≡ false → HasEntries stands gives all rest old new
  HasEntries-skip all left e rest old new h next stand = record {
    done = h.done ++ e ∷ [];
    split = h.split ∙ ap (λ xs. h.done ++ xs) next ∙ sym (append_assoc h.done (e ∷ []) rest);
    taken = h.taken ∙ ap (with_substitutions old)
        (sym (more_taken h.done e ∙ ap (λ es. flat_map gives (filter stands h.done) ++ flat_map gives es) (filter-one stands e false stand)
        ∙ append-nil (flat_map gives (filter stands h.done))));
  }

  pub HasEntries-next : (all left : List Entry) (e : Entry) (rest : List Entry) (old new : Draft) → HasEntries stands gives all left old new → left ≡ e ∷ rest → Contains all e
  HasEntries-next all left e rest old new h next = subst (λ xs. Contains xs e) (sym (h.split ∙ ap (λ xs. h.done ++ xs) next)) (Contains-append_right h.done (e ∷ rest) e (Contains-head e rest))

  pub HasEntries-all : (all left : List Entry) (old new : Draft) → HasEntries stands gives all left old new → left ≡ [] → new ≡ with_substitutions old (flat_map gives (filter stands all))
  HasEntries-all all left old new h over = h.taken ∙ ap (λ es. with_substitutions old (flat_map gives (filter stands es))) (sym (h.split ∙ ap (λ xs. h.done ++ xs) over ∙ append-nil h.done))

-- the source, which stays, and the first variants of an entry that pass a test
abbrev pub substitutions_upto : (Variant → Bool) → Entry → ℕ → List Substitution
substitutions_upto has e i = staying e ∷ map (substitution_of e) (filter has (take i e.variants))

upto-next : (has : Variant → Bool) (e : Entry) (i : ℕ) (v : Variant) (b : Bool) → slice_get e.variants i ≡ Some v → has v ≡ b → substitutions_upto has e (i + 1) ≡ substitutions_upto has e i ++ (if b then substitution_of e v ∷ [] else [])
upto-next has e i v b at is =
    let first = take i e.variants in
    ap (λ vs. staying e ∷ map (substitution_of e) (filter has vs)) (take_next e.variants i v at)
    ∙ ap (λ vs. staying e ∷ map (substitution_of e) vs) (filter-append has first (v ∷ []))
    ∙ ap (λ us. staying e ∷ us) (map-append (substitution_of e) (filter has first) (filter has (v ∷ [])))
    ∙ ap (λ us. substitutions_upto has e i ++ us) (one (has v) ∙ ap (λ (t : Bool). if t then substitution_of e v ∷ [] else []) is)
  where
    one : (t : Bool) → map (substitution_of e) (if t then v ∷ [] else []) ≡ (if t then substitution_of e v ∷ [] else [])
    one true = refl
    one false = refl

-- one variant more
pub taken-next : (has : Variant → Bool) (e : Entry) (i : ℕ) (v : Variant) (u : Substitution) (old mid : Draft) → slice_get e.variants i ≡ Some v → has v ≡ true → u ≡ substitution_of e v → mid ≡ with_substitutions old (substitutions_upto has e i)
    → with_substitutions mid (u ∷ []) ≡ with_substitutions old (substitutions_upto has e (i + 1))
taken-next has e i v u old mid at test is before =
    ap (λ d. with_substitutions d (u ∷ [])) before ∙ with_substitutions-twice old (substitutions_upto has e i) (u ∷ [])
    ∙ ap (λ x. with_substitutions old (substitutions_upto has e i ++ x ∷ [])) is ∙ ap (with_substitutions old) (sym (upto-next has e i v true at test))

-- a variant that isn't taken
pub taken-skip : (has : Variant → Bool) (e : Entry) (i : ℕ) (v : Variant) (old mid : Draft) → slice_get e.variants i ≡ Some v → has v ≡ false → mid ≡ with_substitutions old (substitutions_upto has e i)
    → mid ≡ with_substitutions old (substitutions_upto has e (i + 1))
taken-skip has e i v old mid at test before =
    before ∙ ap (with_substitutions old) (sym (append-nil (substitutions_upto has e i)) ∙ sym (upto-next has e i v false at test))

upto-none : (has : Variant → Bool) (e : Entry) → staying e ∷ [] ≡ substitutions_upto has e 0
upto-none has e = by e.variants
  where
    by : (vs : List Variant) → staying e ∷ [] ≡ staying e ∷ map (substitution_of e) (filter has (take 0 vs))
    by [] = refl
    by (v ∷ vs) = refl

-- the source is taken
pub source-taken : (has : Variant → Bool) (e : Entry) (s : List ℕ) (kinds : ℕ) (old : Draft) → s ≡ e.source → kinds ≡ 2 ^ bit_of (kind_of_source e.type)
    → with_substitutions old (record { covers = length s; kinds = kinds; points = s } ∷ []) ≡ with_substitutions old (substitutions_upto has e 0)
source-taken has e s kinds old same kind =
    ap (λ r. with_substitutions old (given r kinds ∷ [])) same ∙ ap (λ k. with_substitutions old (given e.source k ∷ [])) kind ∙ ap (with_substitutions old) (upto-none has e)
  where
    given : List ℕ → ℕ → Substitution
    given r k = record { covers = length r; kinds = k; points = r }

later : {X : Type 0} (x : X) (xs : List X) (n : ℕ) (y : X) → 1 ≤ n → slice_get (x ∷ xs) n ≡ Some y → slice_get xs (n - 1) ≡ Some y
later x xs zero y l e = absurd (omega (arith, l))
later x xs (suc n) y l e = let same : suc n - 1 ≡ n = omega arith in ap (slice_get xs) same ∙ e

-- the variant of this number is taken
pub variant-taken : (has : Variant → Bool) (e : Entry) (n : ℕ) (s : List ℕ) (type : Option ℕ) (covers kinds : ℕ) (old mid : Draft) → 1 ≤ n
    → slice_get (replacements e) n ≡ Some s → slice_get (map (λ v. v.type) (whole e)) n ≡ Some type → slice_get (map has (whole e)) n ≡ Some true
    → covers ≡ length e.source → kinds ≡ 2 ^ bit_of (kind_of_variant type) → mid ≡ with_substitutions old (substitutions_upto has e (n - 1))
    → with_substitutions mid (record { covers = covers; kinds = kinds; points = s } ∷ []) ≡ with_substitutions old (substitutions_upto has e (n + 1 - 1))
variant-taken has e n s type covers kinds old mid l at typed test all kind before =
    let found = mapped-at (λ (v : Variant). v.sequence) (whole e) n s at in
    let v : Variant = found.0 in
    let here : slice_get e.variants (n - 1) ≡ Some v = later (source_of e) e.variants n v l found.1 in
    let has_v : has v ≡ true = mapped-same has (whole e) n v true found.1 test in
    let of_type : v.type ≡ type = mapped-same (λ (x : Variant). x.type) (whole e) n v type found.1 typed in
    let is : given covers kinds s ≡ substitution_of e v =
    ap (λ c. given c kinds s) all ∙ ap (λ k. given (length e.source) k s) (kind ∙ ap (λ t. 2 ^ bit_of (kind_of_variant t)) (sym of_type)) ∙ ap (given (length e.source) (2 ^ bit_of (kind_of_variant v.type))) (sym found.2) in
    let count : n - 1 + 1 ≡ n + 1 - 1 = omega (arith, l) in
    taken-next has e (n - 1) v (given covers kinds s) old mid here has_v is before ∙ ap (λ k. with_substitutions old (substitutions_upto has e k)) count
  where
    given : ℕ → ℕ → List ℕ → Substitution
    given c k r = record { covers = c; kinds = k; points = r }

-- the variant of this number isn't
pub variant-skipped : (has : Variant → Bool) (e : Entry) (n : ℕ) (old mid : Draft) → 1 ≤ n → slice_get (map has (whole e)) n ≡ Some false → mid ≡ with_substitutions old (substitutions_upto has e (n - 1))
    → mid ≡ with_substitutions old (substitutions_upto has e (n + 1 - 1))
variant-skipped has e n old mid l test before =
    let found = mapped-at has (whole e) n false test in
    let here : slice_get e.variants (n - 1) ≡ Some found.0 = later (source_of e) e.variants n found.0 l found.1 in
    let count : n - 1 + 1 ≡ n + 1 - 1 = omega (arith, l) in
    taken-skip has e (n - 1) found.0 old mid here found.2 before ∙ ap (λ k. with_substitutions old (substitutions_upto has e k)) count

-- the substitutions of one place more
pub substitutions_from-more : (table : TableValue) (label : List ℕ) (place n : ℕ) → substitutions_from table label place n ++ substitutions_at table label (place + n) ∷ [] ≡ substitutions_from table label place (n + 1)
substitutions_from-more table label place zero = let here : place + 0 ≡ place = omega arith in ap (λ p. substitutions_at table label p ∷ []) here
substitutions_from-more table label place (suc n) =
    let later : place + suc n ≡ suc place + n = omega arith in
    let more : suc n + 1 ≡ suc (n + 1) = omega arith in
    ap (λ p. substitutions_at table label place ∷ (substitutions_from table label (suc place) n ++ substitutions_at table label p ∷ [])) later
    ∙ ap (λ us. substitutions_at table label place ∷ us) (substitutions_from-more table label (suc place) n)
    ∙ ap (substitutions_from table label place) (sym more)

-- a place is done
pub place-done : (table : TableValue) (label : List ℕ) (n : ℕ) (draft mid new : Draft) → draft ≡ record { done = substitutions_from table label 0 n; begun = [] } → mid ≡ with_substitutions draft (substitutions_at table label n)
    → new ≡ record { done = mid.done ++ mid.begun ∷ []; begun = [] } → new ≡ record { done = substitutions_from table label 0 (n + 1); begun = [] }
place-done table label n draft mid new at taken ended =
    let here : n ≡ 0 + n = omega arith in
    ended ∙ ap ended_of (taken ∙ ap (λ d. with_substitutions d (substitutions_at table label n)) at) ∙ ap (λ p. done_of (substitutions_from table label 0 n ++ substitutions_at table label p ∷ [])) here
    ∙ ap done_of (substitutions_from-more table label 0 n)
  where
    ended_of : Draft → Draft
    ended_of d = record { done = d.done ++ d.begun ∷ []; begun = [] }

    done_of : List (List Substitution) → Draft
    done_of us = record { done = us; begun = [] }
