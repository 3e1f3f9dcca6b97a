-- Entries as spans of a list of sequences.
use Rattle.std.proofs.Common.{◌≡◌, ℕ, zero, suc, ◌+◌, ◌-◌, ◌<◌, ◌≤◌, List, [], ◌∷◌, ◌++◌, length, map, take, drop, Some, refl, sym, ap, ◌∙◌, arith, length-take, length-drop}
use Rattle.std.specs.Prelude.{slice_get, option_map, Option}
use Rattle.std.specs.List.{All, AllByRecursion, slice_range}
use Rattle.std.proofs.lemmas.List.{map-append, length-map, take-append-drop}
use Rattle.std.proofs.lemmas.List.Elements.{recursion_from_All}
use Rattle.label_patterns.specs.declared.condition.Condition.{Condition}
use Rattle.variant_table.specs.declared.sequences.Span.{Span}
use Rattle.variant_table.specs.Entries.{Variant, sequences_in, replacements, entry_from, source_of, whole}
use Rattle.variant_table.specs.inner.Held.{entry_at, entries_of, IsEntryBelow}
use Rattle.variant_table.proofs.ListLemmas.{drop_next}
use Rattle.variant_table.proofs.PartLemmas.{slice_range-append, slice_range-end}

-- ---- one entry

first_of_take : (n : ℕ) (x : Variant) (xs : List Variant) → 0 < n → (entry_from (take n (x ∷ xs))).source ≡ x.sequence
first_of_take zero x xs l = absurd (omega arith)
first_of_take (suc n) x xs l = refl

pub slice_get-map : {X Y : Type 0} (f : X → Y) (xs : List X) (i : ℕ) → slice_get (map f xs) i ≡ option_map f (slice_get xs i)
slice_get-map f [] i = refl
slice_get-map f (x ∷ xs) zero = refl
slice_get-map f (x ∷ xs) (suc i) = slice_get-map f xs i

-- the variant whose sequence stands at a place
pub sequence_found : (vs : List Variant) (i : ℕ) (x : List ℕ) → slice_get (sequences_in vs) i ≡ Some x → (v : Variant) × (slice_get vs i ≡ Some v) × (v.sequence ≡ x)
sequence_found [] i x e = absurd cc
sequence_found (v ∷ vs) zero x e = (v, refl, cc)
sequence_found (v ∷ vs) (suc i) x e = sequence_found vs i x e

-- variants of which all parts are equal
pub same_variant : (v w : Variant) → v.sequence ≡ w.sequence → v.type ≡ w.type → v.condition ≡ w.condition → v ≡ w
same_variant v w s t c =
    ap (λ x. record v { sequence = x }) s ∙ ap (λ x. record w { type = x; condition = v.condition }) t
    ∙ ap (λ x. record w { condition = x }) c

-- the variant by its parts
pub variant_from : (vs : List Variant) (i : ℕ) (w : Variant) → slice_get (sequences_in vs) i ≡ Some w.sequence
    → slice_get (map (λ v. v.type) vs) i ≡ Some w.type → slice_get (map (λ v. v.condition) vs) i ≡ Some w.condition → slice_get vs i ≡ Some w
variant_from [] i w s t c = absurd cc
variant_from (v ∷ vs) zero w s t c = ap (λ x. Some x) (same_variant v w (cc) (cc) (cc))
variant_from (v ∷ vs) (suc i) w s t c = variant_from vs i w s t c

-- the variant whose sequence and condition stand at a place
pub variant_asked : (vs : List Variant) (i : ℕ) (s : List ℕ) (c : Option Condition) → slice_get (sequences_in vs) i ≡ Some s → slice_get (map (λ v. v.condition) vs) i ≡ Some c
    → (v : Variant) × (slice_get vs i ≡ Some v) × (v.sequence ≡ s) × (v.condition ≡ c)
variant_asked [] i s c e f = absurd cc
variant_asked (v ∷ vs) zero s c e f = (v, refl, cc, cc)
variant_asked (v ∷ vs) (suc i) s c e f = variant_asked vs i s c e f

-- the source of an entry is its first sequence
pub source_at : (sequences : List Variant) (s : Span) (x : List ℕ) → s.start < s.end → slice_get (sequences_in sequences) s.start ≡ Some x → (entry_at sequences s).source ≡ x
source_at sequences s x l e =
    let at = sequence_found sequences s.start x e in
    ap (λ d. (entry_from (take (s.end - s.start) d)).source) (drop_next sequences s.start at.0 at.1) ∙ first_of_take (s.end - s.start) at.0 (drop (s.start + 1) sequences) (omega arith) ∙ at.2

pub whole-entry_from : (sequences : List Variant) → 0 < length sequences → whole (entry_from sequences) ≡ sequences
whole-entry_from [] l = absurd (omega (arith, l))
whole-entry_from (x ∷ sequences) l = refl

pub source-first : (sequences : List Variant) (x : List ℕ) → slice_get (sequences_in sequences) 0 ≡ Some x → (entry_from sequences).source ≡ x
source-first [] x e = absurd cc
source-first (s ∷ sequences) x e = cc

pub replacements-entry_from : (sequences : List Variant) → 0 < length sequences → replacements (entry_from sequences) ≡ sequences_in sequences
replacements-entry_from [] l = absurd (omega (arith, l))
replacements-entry_from (x ∷ sequences) l = refl

pub length-variants : (sequences : List Variant) → 0 < length sequences → length (entry_from sequences).variants + 1 ≡ length sequences
length-variants [] l = absurd (omega (arith, l))
length-variants (x ∷ sequences) l = omega arith

-- ---- its replacements

pub slice_get-take : {X : Type 0} (xs : List X) (n i : ℕ) → i < n → slice_get (take n xs) i ≡ slice_get xs i
slice_get-take [] zero i l = refl
slice_get-take [] (suc n) i l = refl
slice_get-take (x ∷ xs) zero i l = absurd (omega (arith, l))
slice_get-take (x ∷ xs) (suc n) zero l = refl
slice_get-take (x ∷ xs) (suc n) (suc i) l = slice_get-take xs n i (omega (arith, l))

pub slice_get-drop : {X : Type 0} (xs : List X) (a i : ℕ) → slice_get (drop a xs) i ≡ slice_get xs (a + i)
slice_get-drop xs zero i = ap (slice_get xs) (let z : i ≡ 0 + i = omega arith in z)
slice_get-drop [] (suc a) i = refl
slice_get-drop (x ∷ xs) (suc a) i = slice_get-drop xs a i ∙ ap (slice_get (x ∷ xs)) (let z : suc (a + i) ≡ suc a + i = omega arith in z)

module _ (sequences : List Variant) (s : Span) (some : s.start < s.end) (within : s.end ≤ length sequences) where
  size : length (slice_range sequences s.start s.end) ≡ s.end - s.start
  size = omega (arith, some, within, length-take (s.end - s.start) (drop s.start sequences), length-drop s.start sequences)

  pub replacements-entry_at : replacements (entry_at sequences s) ≡ sequences_in (slice_range sequences s.start s.end)
  replacements-entry_at = replacements-entry_from (slice_range sequences s.start s.end) (omega (arith, size))

  pub length-replacements : length (replacements (entry_at sequences s)) ≡ s.end - s.start
  length-replacements = ap length replacements-entry_at ∙ length-map (slice_range sequences s.start s.end) (λ v. v.sequence) ∙ size

  pub replacement_at : (i : ℕ) → i < s.end - s.start → slice_get (replacements (entry_at sequences s)) i ≡ slice_get (sequences_in sequences) (s.start + i)
  replacement_at i l =
      ap (λ r. slice_get r i) replacements-entry_at ∙ slice_get-map (λ v. v.sequence) (slice_range sequences s.start s.end) i
      ∙ ap (option_map (λ v. v.sequence)) (slice_get-take (drop s.start sequences) (s.end - s.start) i l ∙ slice_get-drop sequences s.start i)
      ∙ sym (slice_get-map (λ v. v.sequence) sequences (s.start + i))

  -- what the source or a variant says
  pub part_of : {X : Type 0} (f : Variant → X) (i : ℕ) → i < s.end - s.start → slice_get (map f (whole (entry_at sequences s))) i ≡ slice_get (map f sequences) (s.start + i)
  part_of f i l =
      ap (λ vs. slice_get (map f vs) i) (whole-entry_from (slice_range sequences s.start s.end) (omega (arith, size))) ∙ slice_get-map f (slice_range sequences s.start s.end) i
      ∙ ap (option_map f) (slice_get-take (drop s.start sequences) (s.end - s.start) i l ∙ slice_get-drop sequences s.start i)
      ∙ sym (slice_get-map f sequences (s.start + i))

-- ---- more sequences, and one more entry

by_cases : (sequences more : List Variant) (limit : ℕ) (spans : List Span) → limit ≤ length sequences → AllByRecursion (IsEntryBelow limit) spans → entries_of (sequences ++ more) spans ≡ entries_of sequences spans
by_cases sequences more limit [] l h = refl
by_cases sequences more limit (s ∷ spans) l h =
    ap (λ part. entry_from part ∷ entries_of (sequences ++ more) spans) (slice_range-append sequences more s.start s.end (omega (arith, h.0.0)) (omega (arith, h.0.1, l)))
    ∙ ap (λ es. entry_at sequences s ∷ es) (by_cases sequences more limit spans l h.1)

-- what was there stays
pub entries_of-append : (sequences more : List Variant) (spans : List Span) → All (IsEntryBelow (length sequences)) spans → entries_of (sequences ++ more) spans ≡ entries_of sequences spans
entries_of-append sequences more spans h = by_cases sequences more (length sequences) spans (omega arith) (recursion_from_All (IsEntryBelow (length sequences)) spans h)

-- sequences that no entry has yet leave the entries as they were
pub entries_of-longer : (sequences longer : List Variant) (spans : List Span) → take (length sequences) longer ≡ sequences → All (IsEntryBelow (length sequences)) spans → entries_of longer spans ≡ entries_of sequences spans
entries_of-longer sequences longer spans kept h =
    ap (λ l. entries_of l spans) (sym (ap (λ t. t ++ drop (length sequences) longer) (sym kept) ∙ take-append-drop (length sequences) longer)) ∙ entries_of-append sequences (drop (length sequences) longer) spans h

-- one more entry, at the end
pub entries_of-push : (sequences more : List Variant) (spans : List Span) (a b : ℕ) → All (IsEntryBelow (length sequences)) spans → a ≡ length sequences → b ≡ length sequences + length more
    → entries_of (sequences ++ more) (spans ++ (record { start = a; end = b }) ∷ []) ≡ entries_of sequences spans ++ entry_from more ∷ []
entries_of-push sequences more spans a b h e f =
    map-append (entry_at (sequences ++ more)) spans ((record { start = a; end = b }) ∷ [])
    ∙ ap (λ es. es ++ entry_from (slice_range (sequences ++ more) a b) ∷ []) (entries_of-append sequences more spans h)
    ∙ ap (λ part. entries_of sequences spans ++ entry_from part ∷ []) (slice_range-end sequences more a b e f)

-- what stands at the first of them, with another sequence
pub of_source : (vs : List Variant) (s : List ℕ) (t : Option ℕ) (c : Option Condition) → slice_get (map (λ v. v.type) vs) 0 ≡ Some t → slice_get (map (λ v. v.condition) vs) 0 ≡ Some c
    → record { sequence = s; type = t; condition = c } ≡ record (source_of (entry_from vs)) { sequence = s }
of_source [] s t c e f = absurd cc
of_source (v ∷ vs) s t c e f =
    let w : Variant = record { sequence = s; type = t; condition = c } in
    let u : Variant = record v { sequence = s } in
    same_variant w u refl (cc) (cc)
