-- What the sources of a cut record, as the bits of a word.
use Rattle.std.proofs.Common.{◌≡◌, ◌↔◌, ◌⊎◌, inl, inr, ℕ, ◌+◌, ◌<◌, List, [], ◌∷◌, ◌++◌, length, take, get_or, sym, subst, arith}
use Rattle.std.specs.Int.{bit_at}
use Rattle.std.specs.Int.RustNames.{bit_or}
use Rattle.std.specs.List.{Contains}
use Rattle.std.proofs.lemmas.Bool.{cases_eq}
use Rattle.std.proofs.lemmas.List.{map_more}
use Rattle.std.proofs.lemmas.List.Elements.{Contains-append_cases, Contains-append_left, Contains-append_right}
use Rattle.std.proofs.lemmas.Nat.Bits.{bit_at-lt, bit_at-zero, bit_at_or}
use Rattle.variant_dispositions.specs.Kinds.{Kind, bit_of, kind_at, kind_of_source, kinds_in}
use Rattle.variant_dispositions.proofs.KindLemmas.{Contains-kinds_in, kind_at-bit_of}
use Rattle.variant_table.proofs.MemberLemmas.{Contains-none}
use Rattle.valid_labels.specs.declared.invalid.CutSource.{CutSource}
use Rattle.valid_labels.specs.Causes.{cut_kinds}

either-bit : (word other bit : ℕ) → (bit_at (bit_or word other) bit ≡ 1) ↔ ((bit_at word bit ≡ 1) ⊎ (bit_at other bit ≡ 1))
either-bit word other bit =
    let e = bit_at_or word other bit in
    let a = bit_at-lt word bit in
    let b = bit_at-lt other bit in (
      λ h. elim (cases_eq (bit_at word bit) 1) [ inl one ↦ inl one | inr none ↦ inr (omega (arith, e, a, b, h, none)) ],
      λ h. elim h [ inl one ↦ omega (arith, e, a, b, one) | inr one ↦ omega (arith, e, a, b, one) ],
    )

-- the kinds of both words
both-kinds : (word other : ℕ) (kind : Kind) → Contains (kinds_in (bit_or word other)) kind ↔ (Contains (kinds_in word) kind ⊎ Contains (kinds_in other) kind)
both-kinds word other kind =
    let same = kind_at-bit_of kind in
    let all = Contains-kinds_in (bit_or word other) (bit_of kind) in
    let one = Contains-kinds_in word (bit_of kind) in
    let two = Contains-kinds_in other (bit_of kind) in
    let bits = either-bit word other (bit_of kind) in
    let to = λ (w : ℕ) (c : Contains (kinds_in w) kind). subst (Contains (kinds_in w)) (sym same) c in
    let from = λ (w : ℕ) (c : Contains (kinds_in w) (kind_at (bit_of kind))). subst (Contains (kinds_in w)) same c in (
      λ c.
          let g = all.0 (to (bit_or word other) c) in
          elim (bits.0 g.1) [ inl h ↦ inl (from word (one.1 (g.0, h))) | inr h ↦ inr (from other (two.1 (g.0, h))) ],
      λ h. from (bit_or word other) (elim h [
        | inl c ↦ (let g = one.0 (to word c) in all.1 (g.0, bits.1 (inl g.1)))
        | inr c ↦ (let g = two.0 (to other c) in all.1 (g.0, bits.1 (inr g.1)))
      ]),
    )

-- nothing is in the word 0
pub kinds-none : (kind : Kind) → Contains (kinds_in 0) kind ↔ Contains (cut_kinds []) kind
kinds-none kind = (
  λ c.
      let g = (Contains-kinds_in 0 (bit_of kind)).0 (subst (Contains (kinds_in 0)) (sym (kind_at-bit_of kind)) c) in
      let none : bit_at 0 (bit_of kind) ≡ 0 = bit_at-zero (bit_of kind) in
      let one = g.1 in
      absurd (omega (arith, one, none)),
  λ c. absurd (Contains-none kind c),
)

-- one source more
pub kinds-more : (word one : ℕ) (sources : List CutSource) (i : ℕ) (d : CutSource) → i < length sources → kinds_in one ≡ kind_of_source (get_or sources i d).reflexive_type ∷ []
    → ((kind : Kind) → Contains (kinds_in word) kind ↔ Contains (cut_kinds (take i sources)) kind)
    → (kind : Kind) → Contains (kinds_in (bit_or word one)) kind ↔ Contains (cut_kinds (take (i + 1) sources)) kind
kinds-more word one sources i d l single before kind =
    let s : CutSource = get_or sources i d in
    let next : cut_kinds (take (i + 1) sources) ≡ cut_kinds (take i sources) ++ kind_of_source s.reflexive_type ∷ [] = map_more (λ (x : CutSource). kind_of_source x.reflexive_type) sources i d l in
    let both = both-kinds word one kind in
    let old = before kind in (
      λ c. subst (λ ks. Contains ks kind) (sym next) (elim (both.0 c) [
        | inl h ↦ Contains-append_left (cut_kinds (take i sources)) (kind_of_source s.reflexive_type ∷ []) kind (old.0 h)
        | inr h ↦ Contains-append_right (cut_kinds (take i sources)) (kind_of_source s.reflexive_type ∷ []) kind (subst (λ ks. Contains ks kind) single h)
      ]),
      λ c. both.1 (elim (Contains-append_cases (cut_kinds (take i sources)) (kind_of_source s.reflexive_type ∷ []) kind (subst (λ ks. Contains ks kind) next c)) [
        | inl h ↦ inl (old.1 h)
        | inr h ↦ inr (subst (λ ks. Contains ks kind) (sym single) h)
      ]),
    )
