-- The gaps of a table rise.
use Rattle.std.proofs.Common.{◌≡◌, List, [], ◌∷◌, refl, ap, ◌∙◌}
use Rattle.std.specs.Cmp.{IsTotalOrder}
use Rattle.std.specs.declared.cmp.Ordering.{Ordering}
use Rattle.std.specs.declared.cmp.Ordering.TheVariants.{Less, Equal, Greater}
use Rattle.std.specs.Ordering.{match_ordering, ordering_reverse}
use Rattle.std.specs.List.{AllByRecursion, flat_map}
use Rattle.std.specs.List.Sorted.{IsStrictlySortedBy}
use Rattle.std.specs.BTreeSet.{insert_key}
use Rattle.std.proofs.lemmas.Cmp.{on_total, then_total, nat_list_cmp_total}
use Rattle.variant_table.specs.Entries.{Entry}
use Rattle.variant_table.specs.WellFormed.{IsWellFormed}
use Rattle.variant_table.specs.Gaps.{pair_cmp, AreGapsOf, inserted, gaps_of_entry, gaps_of}
use Rattle.variant_table.proofs.GapLemmas.{Pair, gaps_members}

pairs_total : IsTotalOrder pair_cmp
pairs_total = then_total (on_total (λ (p : Pair). p.0) nat_list_cmp_total) (on_total (λ (p : Pair). p.1) nat_list_cmp_total)

-- what is below a pair is below all that come after it
all_above : (p q : Pair) (qs : List Pair) → pair_cmp p q ≡ Less → AllByRecursion (λ r. pair_cmp q r ≡ Less) qs → AllByRecursion (λ r. pair_cmp p r ≡ Less) qs
all_above p q [] e h = tt
all_above p q (r ∷ qs) e h = (pairs_total.trans p q r e h.0, all_above p q qs e h.1)

inserted_above : (p q : Pair) (qs : List Pair) → pair_cmp p q ≡ Less → AllByRecursion (λ r. pair_cmp p r ≡ Less) qs → AllByRecursion (λ r. pair_cmp p r ≡ Less) (insert_key pair_cmp qs q)
inserted_above p q [] e h = (e, tt)
inserted_above p q (r ∷ qs) e h = placed (pair_cmp q r) (inserted_above p q qs e h.1)
  where
    placed : (o : Ordering) → AllByRecursion (λ r. pair_cmp p r ≡ Less) (insert_key pair_cmp qs q) → AllByRecursion (λ r. pair_cmp p r ≡ Less) (match_ordering o (q ∷ r ∷ qs) (r ∷ qs) (r ∷ insert_key pair_cmp qs q))
    placed Less rest = (e, h)
    placed Equal rest = h
    placed Greater rest = (h.0, rest)

-- a rising list with one pair more at its place
rising-insert_key : (qs : List Pair) (q : Pair) → IsStrictlySortedBy pair_cmp qs → IsStrictlySortedBy pair_cmp (insert_key pair_cmp qs q)
unfolding IsStrictlySortedBy
rising-insert_key [] q h = (tt, tt)
rising-insert_key (r ∷ qs) q h = placed (pair_cmp q r) refl (rising-insert_key qs q h.1)
  where
    placed : (o : Ordering) → pair_cmp q r ≡ o → IsStrictlySortedBy pair_cmp (insert_key pair_cmp qs q) → IsStrictlySortedBy pair_cmp (match_ordering o (q ∷ r ∷ qs) (r ∷ qs) (r ∷ insert_key pair_cmp qs q))
    placed Less e rest = ((e, all_above q r qs e h.0), h)
    placed Equal e rest = h
    placed Greater e rest = (inserted_above r q qs (pairs_total.antisymm r q ∙ ap ordering_reverse e) h.0, rest)

pub rising-inserted : (qs more : List Pair) → IsStrictlySortedBy pair_cmp qs → IsStrictlySortedBy pair_cmp (inserted qs more)
rising-inserted qs [] h = h
rising-inserted qs (q ∷ more) h = rising-inserted (insert_key pair_cmp qs q) more (rising-insert_key qs q h)

pub rising_none : IsStrictlySortedBy pair_cmp []
unfolding IsStrictlySortedBy
rising_none = tt

pub gaps_of_are_gaps : (table : List Entry) → IsWellFormed table → AreGapsOf table (gaps_of table)
gaps_of_are_gaps table well = record {
  rising = rising-inserted [] (flat_map (gaps_of_entry table) table) rising_none;
  members = gaps_members table well;
}
