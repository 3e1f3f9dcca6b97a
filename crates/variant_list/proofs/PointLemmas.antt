-- Tables in which each source and each variant is one code point.
use Rattle.std.proofs.Common.{◌≡◌, ℕ, List, [], ◌∷◌, ◌++◌, length, arith}
use Rattle.std.specs.List.{All, Contains}
use Rattle.std.proofs.lemmas.List.Elements.{All-contains}
use Rattle.variant_table.specs.Entries.{Entry, TableValue, sequences_in, replacements}
use Rattle.variant_table.proofs.MemberLemmas.{Contains-head}
use Rattle.variant_list.specs.Laws.{IsOfPoints}

-- a source and a replacement are one code point each
pub one_point : (table : TableValue) → IsOfPoints table → (e : Entry) (r : List ℕ) → Contains table.entries e → Contains (replacements e) r → length r ≡ 1
one_point table points e r in_table replaces = All-contains (λ (s : List ℕ). length s ≡ 1) (replacements e) r (All-contains (λ (x : Entry). All (λ (s : List ℕ). length s ≡ 1) (replacements x)) table.entries e points in_table) replaces

pub source_point : (table : TableValue) → IsOfPoints table → (e : Entry) → Contains table.entries e → length e.source ≡ 1
source_point table points e in_table = one_point table points e e.source in_table (Contains-head e.source (sequences_in e.variants))

-- lists that begin with one code point each
pub both_begin : (a b v w : List ℕ) → length a ≡ 1 → length b ≡ 1 → a ++ v ≡ b ++ w → (a ≡ b) × (v ≡ w)
both_begin [] b v w one also e = absurd (omega (arith, one))
both_begin (x ∷ y ∷ a) b v w one also e = absurd (omega (arith, one))
both_begin (x ∷ []) [] v w one also e = absurd (omega (arith, also))
both_begin (x ∷ []) (y ∷ z ∷ b) v w one also e = absurd (omega (arith, also))
both_begin (x ∷ []) (y ∷ []) v w one also e = (cc, cc)
