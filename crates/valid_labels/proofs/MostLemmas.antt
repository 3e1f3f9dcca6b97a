-- The longest source, found one after the other.
use Rattle.std.proofs.Common.{◌≡◌, ℕ, zero, suc, ◌+◌, ◌≤◌, ◌⊎◌, inl, inr, max, Bool, true, false, List, [], ◌∷◌, ◌++◌, length, map, refl, sym, ap, subst, ◌∙◌, arith}
use Rattle.std.specs.Prelude.{◌↔◌, IsTrue, Option, Some, None, slice_get}
use Rattle.std.specs.List.{AllByRecursion, Contains}
use Rattle.std.proofs.lemmas.Bool.{cases_order}
use Rattle.std.proofs.lemmas.List.Elements.{All-contains, Contains-append_left, Contains-append_right, Contains-append_cases}
use Rattle.label_patterns.specs.declared.condition.Condition.{Condition}
use Rattle.variant_table.specs.Entries.{Entry, TableValue, replacements, sequences_in}
use Rattle.variant_table.specs.WellFormed.{IsEntry, IsSequence, IsWellFormed}
use Rattle.variant_table.proofs.MemberLemmas.{Contains-head, Contains-later, Contains-none, Contains-one}
use Rattle.valid_labels.specs.Segments.{IsSegment}
use Rattle.valid_labels.specs.inner.Segments.{IsMost}
use Rattle.variant_table.proofs.MemberLists.{Contains-map, all-members}

-- ---- one element more

pub get-inside : {X : Type 0} (xs : List X) (i : ℕ) (x : X) → slice_get xs i ≡ Some x → Contains xs x
get-inside [] i x e = absurd (let f : None ≡ Some x = e in cc)
get-inside (y ∷ xs) zero x e = let g : y ≡ x = cc in subst (Contains (y ∷ xs)) g (Contains-head y xs)
get-inside (y ∷ xs) (suc i) x e = Contains-later y xs x (get-inside xs i x e)

pub get-later : {X : Type 0} (y : X) (xs : List X) (i : ℕ) (x : X) → slice_get (y ∷ xs) (i + 1) ≡ Some x → slice_get xs i ≡ Some x
get-later y xs i x e = (let n : suc i ≡ i + 1 = omega arith in ap (slice_get (y ∷ xs)) n) ∙ e

pub same-test : (a b : Bool) (P : Type 0) → IsTrue a ↔ P → IsTrue b ↔ P → a ≡ b
same-test true true P e f = refl
same-test true false P e f = sym (f.1 (e.0 refl))
same-test false true P e f = e.1 (f.0 refl)
same-test false false P e f = refl

-- ---- variants

pub variants-short : (entries : List Entry) (e : Entry) → IsWellFormed entries → Contains entries e → AllByRecursion (λ s. length s ≤ 63) (sequences_in e.variants)
variants-short entries e formed h =
    let each : IsEntry e = All-contains IsEntry entries e formed.entries h in
    all-members (λ s. length s ≤ 63) (sequences_in e.variants) (λ s k.
    let one : IsSequence s = All-contains IsSequence (replacements e) s each.sequences (Contains-later e.source (sequences_in e.variants) s k) in
    omega (arith, one.short))

-- ---- the longest

-- none of the sequences is longer, and one is so long, or none has a code point
pub record IsMostOf (sequences : List (List ℕ)) (n : ℕ) : Type 0 where
  pub most : (s : List ℕ) → Contains sequences s → length s ≤ n
  pub one : (n ≡ 0) ⊎ ((s : List ℕ) × Contains sequences s × (length s ≡ n))

pub no-most : IsMostOf [] 0
no-most = record { most = λ s h. absurd (Contains-none s h); one = inl refl }

pub most-more : (sequences : List (List ℕ)) (s : List ℕ) (n : ℕ) → IsMostOf sequences n → IsMostOf (sequences ++ s ∷ []) (max n (length s))
most-more sequences s n is = record {
  most = λ t h. elim (Contains-append_cases sequences (s ∷ []) t h) [
    | inl old ↦ (let l = is.most t old in omega (arith, l))
    | inr new ↦ (let e = ap length (Contains-one s t new) in omega (arith, e))
  ];
  one = by_size (cases_le n (length s));
}
  where
    cases_le : (a b : ℕ) → (max a b ≡ a) ⊎ (max a b ≡ b)
    cases_le a b = elim (cases_order a b) [ inl e ↦ inl (omega (arith, e)) | inr o ↦ elim o [ inl l ↦ inr (omega (arith, l)) | inr m ↦ inl (omega (arith, m)) ] ]

    by_size : (max n (length s) ≡ n) ⊎ (max n (length s) ≡ length s) → (max n (length s) ≡ 0) ⊎ ((t : List ℕ) × Contains (sequences ++ s ∷ []) t × (length t ≡ max n (length s)))
    by_size (inl e) = elim is.one [
      | inl none ↦ inl (e ∙ none)
      | inr old ↦ inr (old.0, Contains-append_left sequences (s ∷ []) old.0 old.1, old.2 ∙ sym e)
    ]
    by_size (inr e) = inr (s, Contains-append_right sequences (s ∷ []) s (Contains-head s []), sym e)

-- the sources are the sequences of segments
pub most-longest : (table : TableValue) (n : ℕ) → IsMostOf (map (λ (e : Entry). e.source) table.entries) n → IsMost table n
most-longest table n is =
    let of = λ (s : List ℕ). Contains-map (λ (e : Entry). e.source) table.entries s in
    record {
      most = λ s c segment. is.most s ((of s).1 (segment.0, segment.1, sym segment.2));
      one = elim is.one [
        | inl none ↦ inl none
        | inr o ↦ inr (let e = (of o.0).0 o.1 in (o.0, (e.0.condition, (e.0, e.1, sym e.2, refl), o.2)))
      ];
    }

-- a source has 8 code points at most
segment-short : (table : TableValue) (s : List ℕ) (c : Option Condition) → IsWellFormed table.entries → IsSegment table s c → length s ≤ 8
segment-short table s c formed a =
    let each : IsEntry a.0 = All-contains IsEntry table.entries a.0 formed.entries a.1 in
    let one : IsSequence a.0.source = All-contains IsSequence (replacements a.0) a.0.source each.sequences (Contains-head a.0.source (sequences_in a.0.variants)) in
    let l = one.short in
    omega (arith, l, ap length a.2)

pub longest-short : (table : TableValue) (n : ℕ) → IsWellFormed table.entries → IsMost table n → n ≤ 8
longest-short table n formed is = elim is.one [
  | inl none ↦ omega (arith, none)
  | inr one ↦ (let l = segment-short table one.0 one.1.0 formed one.1.1 in let e = one.1.2 in omega (arith, l, e))
]
