-- Laws of the labels that collide.
use Rattle.std.proofs.Common.{◌≡◌, ◌⊎◌, ◌↔◌, inl, inr, ◌&&◌, cond, ℕ, Bool, true, false, List, [], ◌∷◌, ◌++◌, refl, ap}
use Rattle.std.specs.List.{filter, slice_get}
use Rattle.std.specs.Ordering.{is_gt}
use Rattle.std.proofs.lemmas.Bool.{false≢true}
use Rattle.variant_table.specs.Entries.{TableValue}
use Rattle.idn2_options.specs.Settings.{Settings}
use Rattle.variant_list.specs.Arising.{Arises}
use Rattle.variant_list.specs.Labels.{IsListOf, label_cmp}
use Rattle.variant_list.proofs.ArisingLemmas.{Arises-spelled}
use Rattle.variant_list.proofs.MutualLemmas.{Spells-same}
use Rattle.variant_list.proofs.NetLemmas.{Spells-itself}
use Rattle.valid_labels.proofs.NothingLemmas.{admitted-valid}
use Rattle.answer_json.specs.declared.collision.Regard.TheVariants.{NoVariant}
use Rattle.idn2_answers.specs.Listings.{IsListed}
use Rattle.idn2_answers.specs.Collisions.{Collides, IsBarred, IsGood, IsRegard, IsVariantOf, is_found, whole}
use Rattle.idn2_answers.proofs.FoundLabels.{found-members}
use Rattle.idn2_answers.proofs.CollisionTests.{near-of}
use Rattle.idn2_laws.specs.CollisionLaws.{AreOfMutualTable, CollisionsAreFound, CollisionsGoBothWays, KeysDecide}
use Rattle.idn2_laws.specs.ListingLaws.{IsAsked}
use Rattle.idn2_laws.proofs.ListingLaws.{listed-itself, listed-mutual, taken, taken-asked}

-- a good label may be asked about, and then its listing is whole
asked-good : (o : Settings) (table : TableValue) (v : List ℕ) → IsGood o table v → IsAsked (whole o) table v
asked-good o table v good = record { registrable = good.registrable; admitted = good.admitted; whole = refl }

turned : (o : Settings) (table : TableValue) (v w : List ℕ) → Collides o table v w → Collides o table w v
turned o table v w (inl there) = inr there
turned o table v w (inr back) = inl back

pub both-ways : CollisionsGoBothWays
both-ways = record {
  symmetric = λ o table v w. (turned o table v w, turned o table w v);
  itself = λ o table v good. inl (inl (record { good = good; listed = listed-itself (whole o) table v (asked-good o table v good) }));
  near = near-of;
}

-- ---- which are found

good-collide : (o : Settings) (table : TableValue) (v w : List ℕ) → IsGood o table v → IsGood o table w → (IsVariantOf o table v w ⊎ IsBarred o table v w) → IsVariantOf o table v w
good-collide o table v w good other (inl is) = is
good-collide o table v w good other (inr barred) = absurd (barred.refused (good, other))

arising-of : (o : Settings) (table : TableValue) (v w : List ℕ) → (IsVariantOf o table v w ⊎ IsBarred o table v w) → Arises table v w
arising-of o table v w (inl is) = Arises-spelled table v w is.listed.spelled
arising-of o table v w (inr barred) = barred.arises

filter-parts : (test : List ℕ → Bool) (first second : List (List ℕ)) → filter test (first ++ second) ≡ filter test first ++ filter test second
filter-parts test [] second = refl
filter-parts test (v ∷ first) second = by_test (test v) (filter-parts test first second)
  where
    by_test : (b : Bool) → filter test (first ++ second) ≡ filter test first ++ filter test second
        → cond b (v ∷ filter test (first ++ second)) (filter test (first ++ second)) ≡ cond b (v ∷ filter test first) (filter test first) ++ filter test second
    by_test true later = ap (λ l. v ∷ l) later
    by_test false later = later

-- what collides does so with `--others` and without
module _ (o : Settings) (table : TableValue) where
  module _ (a b : Bool) where
    same-good : (v : List ℕ) → IsGood (record o { others = a }) table v → IsGood (record o { others = b }) table v
    same-good v good = record { registrable = good.registrable; admitted = good.admitted }

    same-variant : (v w : List ℕ) → IsVariantOf (record o { others = a }) table v w → IsVariantOf (record o { others = b }) table v w
    same-variant v w is = record {
      good = same-good v is.good;
      listed = record { registrable = is.listed.registrable; valid = is.listed.valid; greater = is.listed.greater; spelled = is.listed.spelled; kept = is.listed.kept };
    }

  same-barred : (a b : Bool) (v w : List ℕ) → IsBarred (record o { others = a }) table v w → IsBarred (record o { others = b }) table v w
  same-barred a b v w is = record {
    refused = λ both. is.refused (same-good b a v both.0, same-good b a w both.1);
    unlisted = λ listed. is.unlisted (same-variant b a v w listed);
    arises = is.arises;
  }

  same-either : (a b : Bool) (v w : List ℕ) → (IsVariantOf (record o { others = a }) table v w ⊎ IsBarred (record o { others = a }) table v w)
      → (IsVariantOf (record o { others = b }) table v w ⊎ IsBarred (record o { others = b }) table v w)
  same-either a b v w (inl is) = inl (same-variant a b v w is)
  same-either a b v w (inr barred) = inr (same-barred a b v w barred)

  same-collide : (a b : Bool) (v w : List ℕ) → Collides (record o { others = a }) table v w → Collides (record o { others = b }) table v w
  same-collide a b v w (inl there) = inl (same-either a b v w there)
  same-collide a b v w (inr back) = inr (same-either a b w v back)

pub are-found : CollisionsAreFound
are-found = record {
  none_missed = λ o table labels label v sound at above other either.
      (found-members o table label sound labels v).1 (record { registered = at; greater = above; other = other; collides = elim either [ inl there ↦ inl (inl there) | inr back ↦ inr (inl back) ] });
  good_alone = λ o table labels label v sound at good other.
      elim ((found-members o table label sound labels v).0 at).collides [
        | inl there ↦ inl (good-collide o table label v good other there)
        | inr back ↦ inr (good-collide o table v label other good back)
      ];
  arising_alone = λ o table labels label v sound at.
      elim ((found-members o table label sound labels v).0 at).collides [ inl there ↦ inl (arising-of o table label v there) | inr back ↦ inr (arising-of o table v label back) ];
  others = λ o table labels label v sound.
      let alone = found-members (record o { others = true }) table label sound labels v in
      let all = found-members (record o { others = false }) table label sound labels v in (
        λ at. (let f = alone.0 at in (all.1 (record { registered = f.registered; greater = f.greater; collides = same-collide o table true false label v f.collides; other = λ is. absurd (false≢true is) }), f.other refl)),
        λ both. (let f = all.0 both.0 in alone.1 (record { registered = f.registered; greater = f.greater; collides = same-collide o table false true label v f.collides; other = λ is. both.1 })),
      );
  of_parts = λ o table first second label. filter-parts (λ v. is_gt (label_cmp v o.after) && is_found o table label v) first second;
}

-- ---- tables of which keys decide

module _ (o : Settings) (table : TableValue) (v w : List ℕ) (of : AreOfMutualTable o table v w) where
  both-good : IsBarred o table v w → ⊥
  both-good barred = barred.refused (of.good, of.other_good)

  -- what v has as a variant has v
  variant-turned : IsVariantOf o table v w → IsVariantOf o table w v
  variant-turned is =
      let asked = asked-good o table v of.good in
      let asked_too = asked-good o table w of.other_good in
      let spells = ((taken (whole o) table of.of_table of.without_gaps of.refuses v w asked).0 is.listed).1 in
      let same = (Spells-same table of.without_gaps.well_formed of.without_gaps.gaps of.without_gaps.points of.without_gaps.free v w (admitted-valid.segmented table w of.other_good.admitted)).0 spells in
      let back = (same v).0 (Spells-itself table v (admitted-valid.segmented table v of.good.admitted)) in
      record {
        good = of.other_good;
        listed = (taken (whole o) table of.of_table of.without_gaps of.refuses w v asked_too).1 (taken-asked (whole o) table of.of_table of.without_gaps of.refuses v asked, back);
      }

of-turned : (o : Settings) (table : TableValue) (v w : List ℕ) → AreOfMutualTable o table v w → AreOfMutualTable o table w v
of-turned o table v w of = record { of_table = of.of_table; without_gaps = of.without_gaps; refuses = of.refuses; good = of.other_good; other_good = of.good }

nothing-turned : (o : Settings) (table : TableValue) (v w : List ℕ) → AreOfMutualTable o table v w → IsRegard o table v w NoVariant → IsRegard o table w v NoVariant
nothing-turned o table v w of none =
    let other = of-turned o table v w of in
    (λ is. none.0 (variant-turned o table w v other is), both-good o table w v other)

-- they collide where one is a variant of the other
collide-listed : (o : Settings) (table : TableValue) (v w : List ℕ) → AreOfMutualTable o table v w → Collides o table v w ↔ IsListed (whole o) table v w
collide-listed o table v w of = (
  λ c. elim c [
    | inl there ↦ (good-collide o table v w of.good of.other_good there).listed
    | inr back ↦ (variant-turned o table w v (of-turned o table v w of) (good-collide o table w v of.other_good of.good back)).listed
  ],
  λ listed. inl (inl (record { good = of.good; listed = listed })),
)

same-keys : (o : Settings) (table : TableValue) (v w : List ℕ) (vs ws : List (List ℕ)) → AreOfMutualTable o table v w → IsListOf (IsListed (whole o) table v) vs → IsListOf (IsListed (whole o) table w) ws
    → Collides o table v w ↔ (slice_get vs 0 ≡ slice_get ws 0)
same-keys o table v w vs ws of of_v of_w =
    let listed = collide-listed o table v w of in
    let keys = (listed-mutual (whole o) table v w vs ws of.of_table of.without_gaps of.refuses (asked-good o table v of.good) (asked-good o table w of.other_good) of_v of_w).1 in (
      λ c. keys.0 ((of_v.members w).1 (listed.0 c)),
      λ same. listed.1 ((of_v.members w).0 (keys.1 same)),
    )

pub keys-decide : KeysDecide
keys-decide = record {
  alike = λ o table v w of. (nothing-turned o table v w of, nothing-turned o table w v (of-turned o table v w of));
  keys = same-keys;
}
