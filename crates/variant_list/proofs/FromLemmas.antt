-- The candidates from a text on that compute, and the first of them.
use Rattle.std.proofs.Common.{◌≡◌, inl, inr, ℕ, List, Bool, not, ◌&&◌, Ordering, refl, sym, ap}
use Rattle.std.specs.Prelude.{IsTrue, slice_get, Some, None, Contains}
use Rattle.std.specs.declared.cmp.Ordering.TheVariants.{Less, Equal, Greater}
use Rattle.std.specs.List.{filter}
use Rattle.std.specs.Ordering.{is_lt, MatchOrdering}
use Rattle.std.proofs.lemmas.Bool.{false≢true}
use Rattle.variant_table.specs.WellFormed.{IsWellFormed}
use Rattle.variant_list.specs.Labels.{IsBelow, IsListOf, label_cmp}
use Rattle.variant_table.specs.Entries.{TableValue}
use Rattle.variant_list.specs.Spelled.{spelled}
use Rattle.variant_list.specs.Spelling.{Spells}
use Rattle.variant_list.specs.Variants.{fits_label, in_order}
use Rattle.variant_list.specs.Jumps.{IsFrom, IsLeastFrom, HasNoneFrom, IsCandidate, candidates_among_from, candidates_from}
use Rattle.variant_list.proofs.ListedLemmas.{IsListOf-same}
use Rattle.variant_list.proofs.OrderLemmas.{below_both, ranked_labels, below_itself}
use Rattle.variant_list.proofs.RisingLists.{IsRising-filter, Contains-filter}
use Rattle.variant_list.proofs.VariantLists.{IsRising-in_order, Contains-in_order, both, joined}
use Rattle.variant_list.proofs.SpelledByLemmas.{spelled-Spells}
use Rattle.variant_list.proofs.ListingLemmas.{fits_label-short, short-fits_label}
use Rattle.variant_list.proofs.CandidateLemmas.{first_is_least, none_is_empty}

-- a label is no less than a text exactly if the comparison does not say so
from-test : (v text : List ℕ) (o : Ordering) → label_cmp v text ≡ o → MatchOrdering o (IsBelow v text) (v ≡ text) (IsBelow text v) → IsTrue (not (is_lt o)) → IsFrom text v
from-test v text Less is r h = absurd (false≢true h)
from-test v text Equal is r h = inl (sym r)
from-test v text Greater is r h = inr r

not-below : (v text : List ℕ) → (IsBelow v text → ⊥) → (o : Ordering) → label_cmp v text ≡ o → MatchOrdering o (IsBelow v text) (v ≡ text) (IsBelow text v) → IsTrue (not (is_lt (label_cmp v text)))
not-below v text none Less is r = absurd (none r)
not-below v text none Equal is r = ap (λ o. not (is_lt o)) is
not-below v text none Greater is r = ap (λ o. not (is_lt o)) is

from-tested : (v text : List ℕ) → IsFrom text v → IsTrue (not (is_lt (label_cmp v text)))
from-tested v text h = not-below v text (λ below. elim h [
  | inl same ↦ below_itself v (rw same at below)
  | inr above ↦ below_both v text below above
]) (label_cmp v text) refl (ranked_labels v text)

pub among_from-IsListOf : (labels : List (List ℕ)) (text : List ℕ) → IsListOf (λ v. IsCandidate (Contains labels) v × IsFrom text v) (candidates_among_from labels text)
among_from-IsListOf labels text =
    let test : List ℕ → Bool = λ (v : List ℕ). fits_label v && not (is_lt (label_cmp v text)) in
    let listed : List (List ℕ) = in_order labels in record {
      rising = IsRising-filter test listed (IsRising-in_order labels);
      members = λ v. let kept = Contains-filter test listed v in
          let there = Contains-in_order labels v in (
            λ c. let tested = kept.0 c in
                let parts = both (fits_label v) (not (is_lt (label_cmp v text))) tested.0 in (
                  record { spelled = there.0 tested.1; short = fits_label-short v parts.0 },
                  from-test v text (label_cmp v text) refl (ranked_labels v text) parts.1,
                ),
            λ i. kept.1 (joined (fits_label v) (not (is_lt (label_cmp v text))) (short-fits_label v i.0.short) (from-tested v text i.1), there.1 i.0.spelled),
          );
    }

-- what is no less than the least is it or above it
pub among_from-first : (labels : List (List ℕ)) (text v : List ℕ) → IsLeastFrom (IsCandidate (Contains labels)) text v → Some v ≡ slice_get (candidates_among_from labels text) 0
among_from-first labels text v least =
    first_is_least (λ w. IsCandidate (Contains labels) w × IsFrom text w) (candidates_among_from labels text) v (among_from-IsListOf labels text)
    (least.holds, least.«from») (λ w i. least.least w i.0 i.1)

pub among_from-none : (labels : List (List ℕ)) (text : List ℕ) → HasNoneFrom (IsCandidate (Contains labels)) text → None ≡ slice_get (candidates_among_from labels text) 0
among_from-none labels text none =
    none_is_empty (λ w. IsCandidate (Contains labels) w × IsFrom text w) (candidates_among_from labels text) (among_from-IsListOf labels text) (λ w i. none w i.0 i.1)

-- labels that are the same in order have the same candidates
pub among_from-in_order : (labels others : List (List ℕ)) (text : List ℕ) → in_order labels ≡ in_order others → candidates_among_from labels text ≡ candidates_among_from others text
among_from-in_order labels others text same = ap (filter (λ v. fits_label v && not (is_lt (label_cmp v text)))) same

-- the same of what a label spells under a table
pub candidates_from-IsListOf : (table : TableValue) (label text : List ℕ) → IsWellFormed table.entries → IsListOf (λ v. IsCandidate (Spells table label) v × IsFrom text v) (candidates_from table label text)
candidates_from-IsListOf table label text formed =
    IsListOf-same (λ v. IsCandidate (Contains (spelled table label)) v × IsFrom text v) (λ v. IsCandidate (Spells table label) v × IsFrom text v) (candidates_from table label text)
    (λ v. let same = spelled-Spells table label v formed in (
      λ i. (record { spelled = same.0 i.0.spelled; short = i.0.short }, i.1),
      λ i. (record { spelled = same.1 i.0.spelled; short = i.0.short }, i.1),
    )) (among_from-IsListOf (spelled table label) text)
