-- The registered labels that collide with a label, and its block.
use Rattle.std.proofs.Common.{◌≡◌, ◌≢◌, ◌↔◌, ◌&&◌, ℕ, Bool, true, false, not, cond, List, [], ◌∷◌, refl, ap, ◌∙◌}
use Rattle.std.specs.Prelude.{bytes_eq}
use Rattle.std.proofs.lemmas.Slice.Eq.{bytes_eq-Decides}
use Rattle.std.specs.List.{Contains, filter}
use Rattle.std.specs.Ordering.{is_gt}
use Rattle.label_patterns.proofs.TestLemmas.{and-both}
use Rattle.variant_table.specs.Entries.{TableValue}
use Rattle.valid_labels.specs.Validity.{IsSound}
use Rattle.variant_list.specs.Labels.{IsListOf, IsRising, label_cmp}
use Rattle.variant_list.proofs.MutualLemmas.{has_variant-from}
use Rattle.variant_list.proofs.OrderLemmas.{below_from_Greater, Greater_from_below}
use Rattle.variant_list.proofs.RisingLists.{IsRising-filter, Contains-filter}
use Rattle.variant_list.proofs.VariantLists.{is_gt-Greater}
use Rattle.registered_labels.specs.Collisions.{collisions, is_spelled}
use Rattle.idn2_options.specs.Settings.{Settings}
use Rattle.idn2_answers.specs.Listings.{is_registrable}
use Rattle.idn2_answers.specs.Collisions.{IsFound, IsCollisionBlock, collide, collision_block, collisions_after, is_found, is_itself_left_out, regards_of}
use Rattle.idn2_answers.proofs.CollisionTests.{collide-told, regard-told}

one-more : (accepts : List ℕ → Bool) (v : List ℕ) (greater is passes : Bool) (rest found : List (List ℕ)) → accepts v ≡ passes → (passes ≡ true → is ≡ true) → filter accepts rest ≡ found
    → filter accepts (cond (greater && is) (v ∷ rest) rest) ≡ cond (greater && passes) (v ∷ found) found
one-more accepts v false is passes rest found told known later = later
one-more accepts v true true passes rest found told known later =
    ap (λ b. cond b (v ∷ filter accepts rest) (filter accepts rest)) told ∙ ap (λ ls. cond passes (v ∷ ls) ls) later
one-more accepts v true false true rest found told known later = let clash : false ≡ true = known refl in cc
one-more accepts v true false false rest found told known later = later

-- the registered labels that pass a test are found among those that are spelled, where all that pass it are
pub found-walked : (accepts : List ℕ → Bool) (spelled : List (List ℕ)) (after : List ℕ) → ((v : List ℕ) → accepts v ≡ true → Contains spelled v) → (labels : List (List ℕ))
    → filter accepts (collisions spelled labels after) ≡ filter (λ v. is_gt (label_cmp v after) && accepts v) labels
found-walked accepts spelled after sure [] = refl
found-walked accepts spelled after sure (v ∷ labels) =
    one-more accepts v (is_gt (label_cmp v after)) (is_spelled spelled v) (accepts v) (collisions spelled labels after) _ refl (λ passed. has_variant-from spelled v (sure v passed)) (found-walked accepts spelled after sure labels)

module _ (o : Settings) (table : TableValue) (label : List ℕ) (sound : IsSound table) where
  test : List ℕ → Bool
  test v = is_gt (label_cmp v o.after) && is_found o table label v

  -- it isn't left out
  kept-other : (v : List ℕ) → not (is_itself_left_out o label v) ≡ true ↔ (o.others ≡ true → v ≢ label)
  kept-other v = (λ kept is equal. left o.others (bytes_eq v label) kept is ((bytes_eq-Decides v label).1 equal), λ other. right o.others (bytes_eq v label) refl other)
    where
      left : (others same : Bool) → not (others && same) ≡ true → others ≡ true → same ≡ true → ⊥
      left true true kept is e = let clash : false ≡ true = kept in cc
      left true false kept is e = let clash : false ≡ true = e in cc
      left false same kept is e = let clash : false ≡ true = is in cc

      right : (others same : Bool) → bytes_eq v label ≡ same → (others ≡ true → v ≢ label) → not (others && same) ≡ true
      right true true e other = absurd (other refl ((bytes_eq-Decides v label).0 e))
      right true false e other = refl
      right false same e other = refl

  pub found-members : (registered : List (List ℕ)) (v : List ℕ) → Contains (collisions_after o table registered label) v ↔ IsFound o table registered label v
  unfolding test
  found-members registered v =
      let member = Contains-filter test registered v in
      let both = and-both (is_gt (label_cmp v o.after)) (is_found o table label v) in
      let parts = and-both (not (is_itself_left_out o label v)) (collide (is_registrable o.properties) table label v) in
      let kept = kept-other v in
      let told = collide-told o table sound label v in (
        λ m. (
            let p = member.0 m in
            let q = both.0 p.0 in
            let t = parts.0 q.1 in
            record { registered = p.1; greater = below_from_Greater v o.after (is_gt-Greater (label_cmp v o.after) q.0); collides = told.0 t.1; other = kept.0 t.0 }),
        λ f. member.1 (both.1 (ap is_gt (Greater_from_below v o.after f.greater), parts.1 (kept.1 f.other, told.1 f.collides)), f.registered),
      )

  pub found-exactly : (registered : List (List ℕ)) → IsRising registered → IsListOf (IsFound o table registered label) (collisions_after o table registered label)
  unfolding test
  found-exactly registered rising = record { rising = IsRising-filter test registered rising; members = found-members registered }

  pub collision_block-is : (registered : List (List ℕ)) → IsRising registered → IsCollisionBlock o table registered label (collision_block o table registered label)
  collision_block-is registered rising = record {
    found = collisions_after o table registered label;
    exactly = found-exactly registered rising;
    regards = regards_of (is_registrable o.properties) table label;
    there = λ v. regard-told o table sound label v;
    back = λ v. regard-told o table sound v label;
    exact = refl;
  }
