-- The laws of the tested labels.
use Rattle.std.proofs.Common.{◌≡◌, ℕ, ◌≤◌, ◌&&◌, ◌++◌, Bool, true, false, List, length, take, drop, Option, Some, None, refl, sym, ap, ◌∙◌}
use Rattle.std.specs.Prelude.{IsTrue}
use Rattle.std.specs.List.{filter}
use Rattle.std.specs.Option.{is_none}
use Rattle.std.specs.Ordering.{is_gt}
use Rattle.std.proofs.lemmas.List.{take-append-drop}
use Rattle.variant_list.specs.Labels.{IsBelow, label_cmp}
use Rattle.variant_list.specs.Spelled.{spelled}
use Rattle.variant_list.specs.Variants.{IsVariant, fits_label, in_order, variants_among}
use Rattle.variant_list.proofs.ListedLemmas.{IsListOf-same}
use Rattle.variant_list.proofs.ListingLemmas.{variants-resume, variants-cut, fits_label-short, short-fits_label}
use Rattle.variant_list.proofs.VariantLists.{variants-AreVariants, both, joined}
use Rattle.variant_list.specs.Beginnings.{shortest_hopeless, has_no_dead_prefix}
use Rattle.variant_list.specs.Tested.{tested, tested_among}
use Rattle.variant_list.specs.Laws.{up_to, ShortestIsFirst, IsTested, TestedAreListed, RefusesDeadPrefixes, VariantsAreAcceptedTested}
use Rattle.variant_list.proofs.BeginningLemmas.{shortest_hopeless-at, shortest_hopeless-gives, shortest_hopeless-none, alive-gives}
use Rattle.variant_list.proofs.TestedLemmas.{filter-both}

pub shortest_is_first : ShortestIsFirst
shortest_is_first = record {
  shortest = λ hopeless v n. (shortest_hopeless-gives hopeless v n, λ s. shortest_hopeless-at hopeless v n s.some s.within s.holds s.first);
  alive = λ hopeless v. (alive-gives hopeless v, λ each. ap is_none (shortest_hopeless-none hopeless v each));
}

pub tested_are_listed : TestedAreListed
tested_are_listed hopeless table label after formed =
    let test : List ℕ → Bool = λ (v : List ℕ). fits_label v && has_no_dead_prefix hopeless v in
    IsListOf-same (IsVariant test table label after) (IsTested hopeless table label after) (tested hopeless table label after) (λ v. (
      λ i. let parts = both (fits_label v) (has_no_dead_prefix hopeless v) i.accepted in record { spelled = i.spelled; short = fits_label-short v parts.0; greater = i.greater; alive = alive-gives hopeless v parts.1 },
      λ t. record { accepted = joined (fits_label v) (has_no_dead_prefix hopeless v) (short-fits_label v t.short) (ap is_none (shortest_hopeless-none hopeless v t.alive)); spelled = t.spelled; greater = t.greater },
    )) (variants-AreVariants test table label after formed)

turned : (a t g : Bool) → (a ≡ true → t ≡ true) → (a && g) ≡ ((t && g) && a)
turned true true true h = refl
turned true true false h = refl
turned true false g h = let clash : false ≡ true = h refl in cc
turned false true true h = refl
turned false true false h = refl
turned false false g h = refl

-- the labels that pass a test are those among the labels that pass a weaker one
among : (accepts test : List ℕ → Bool) → ((v : List ℕ) → accepts v ≡ true → test v ≡ true) → (labels : List (List ℕ)) (after : List ℕ) → variants_among accepts labels after ≡ filter accepts (variants_among test labels after)
among accepts test weaker labels after =
    filter-both (λ v. test v && is_gt (label_cmp v after)) accepts (λ v. accepts v && is_gt (label_cmp v after))
    (λ v. turned (accepts v) (test v) (is_gt (label_cmp v after)) (weaker v)) (in_order labels)

has_no_dead_prefix-accepted : (accepts hopeless : List ℕ → Bool) → RefusesDeadPrefixes accepts hopeless → (v : List ℕ) → accepts v ≡ true → (o : Option ℕ) → shortest_hopeless hopeless v ≡ o → is_none o ≡ true
has_no_dead_prefix-accepted accepts hopeless leaves v accepted None is = refl
has_no_dead_prefix-accepted accepts hopeless leaves v accepted (Some n) is =
    let s = shortest_hopeless-gives hopeless v n is in
    let refused : accepts v ≡ false = ap accepts (sym (take-append-drop n v)) ∙ leaves (take n v) (drop n v) s.holds in
    let clash : true ≡ false = sym accepted ∙ refused in cc

pub accepted-tested : (accepts hopeless : List ℕ → Bool) → ((v : List ℕ) → IsTrue (accepts v) → length v ≤ 63) → RefusesDeadPrefixes accepts hopeless
    → (labels : List (List ℕ)) (after : List ℕ) → variants_among accepts labels after ≡ filter accepts (tested_among hopeless labels after)
accepted-tested accepts hopeless short leaves =
    among accepts (λ v. fits_label v && has_no_dead_prefix hopeless v)
    (λ v accepted. joined (fits_label v) (has_no_dead_prefix hopeless v) (short-fits_label v (short v accepted)) (has_no_dead_prefix-accepted accepts hopeless leaves v accepted (shortest_hopeless hopeless v) refl))

pub variants_are_accepted_tested : VariantsAreAcceptedTested
variants_are_accepted_tested accepts hopeless short leaves table label after = accepted-tested accepts hopeless short leaves (spelled table label) after

pub tested-resume : (hopeless : List ℕ → Bool) (labels : List (List ℕ)) (start stop : List ℕ) → ¬ IsBelow stop start → tested_among hopeless labels start ≡ up_to stop (tested_among hopeless labels start) ++ tested_among hopeless labels stop
tested-resume hopeless = variants-resume (λ v. fits_label v && has_no_dead_prefix hopeless v)

pub tested-cut : (hopeless : List ℕ → Bool) (labels : List (List ℕ)) (after : List ℕ) → tested_among hopeless labels after ≡ tested_among hopeless labels (take 63 after)
tested-cut hopeless = variants-cut (λ v. fits_label v && has_no_dead_prefix hopeless v) (λ v passes. fits_label-short v (both (fits_label v) (has_no_dead_prefix hopeless v) passes).0)
