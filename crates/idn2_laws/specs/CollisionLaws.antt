-- Laws of the labels that collide.
use Rattle.std.specs.Prelude.{◌≡◌, ◌≢◌, ◌↔◌, ◌⊎◌, ◌++◌, ℕ, true, false, IsTrue, List, Contains}
use Rattle.std.specs.List.{slice_get}
use Rattle.variant_table.specs.Entries.{TableValue}
use Rattle.variant_table.specs.WellFormed.{IsTable}
use Rattle.valid_labels.specs.Validity.{IsSound}
use Rattle.variant_list.specs.Arising.{Arises}
use Rattle.variant_list.specs.Closure.{AreNear}
use Rattle.variant_list.specs.Labels.{IsBelow, IsListOf}
use Rattle.variant_list.specs.MutualLaws.{IsMutual}
use Rattle.answer_json.specs.declared.collision.Regard.{Regard}
use Rattle.answer_json.specs.declared.collision.Regard.TheVariants.{NoVariant}
use Rattle.idn2_options.specs.Settings.{Settings}
use Rattle.idn2_answers.specs.Listings.{IsListed, is_registrable}
use Rattle.idn2_answers.specs.Collisions.{Collides, IsGood, IsRegard, IsVariantOf}
use Rattle.idn2_answers.specs.Collisions.{collide, collisions_after, regard_of, regards_of, whole}
use Rattle.idn2_laws.specs.ListingLaws.{RefusesBySources}

-- two labels collide whichever is asked about; a good label collides with itself; and what collides is near, so that a
-- label with a code point that no entry has collides with nothing
pub record CollisionsGoBothWays : Type 0 where
  pub symmetric : (o : Settings) (table : TableValue) (v w : List ℕ) → Collides o table v w ↔ Collides o table w v
  pub itself : (o : Settings) (table : TableValue) (v : List ℕ) → IsGood o table v → Collides o table v v
  pub near : (o : Settings) (table : TableValue) (v w : List ℕ) → Collides o table v w → AreNear table v w

-- what w is to v, as it is told
abbrev pub regard : Settings → TableValue → List ℕ → List ℕ → Regard
regard o table v w = regard_of (is_registrable o.properties) table v w

-- what a label is to another one is told, and it is one thing; what is there from one side is back from the other; and
-- the test of a collision tells it exactly
pub record RegardsAreTold : Type 0 where
  pub told : (o : Settings) (table : TableValue) (v w : List ℕ) → IsSound table →
      IsRegard o table v w (regard o table v w)
  pub one : (o : Settings) (table : TableValue) (v w : List ℕ) (r : Regard) → IsSound table →
      IsRegard o table v w r → r ≡ regard o table v w
  pub turned : (o : Settings) (table : TableValue) (v w : List ℕ) →
      (regards_of (is_registrable o.properties) table v w).there
      ≡ (regards_of (is_registrable o.properties) table w v).back
  pub collide : (o : Settings) (table : TableValue) (v w : List ℕ) → IsSound table →
      IsTrue (collide (is_registrable o.properties) table v w) ↔ Collides o table v w

-- of registered labels above the text each is found that the whole listing of the label has, or whose whole listing has
-- it, but for the label itself with `--others`, which takes out that alone; where both labels are good no other is, and
-- else only one that arises from the label, or it from that; and labels that are kept in two parts give what the first
-- part gives, and then what the second does
pub record CollisionsAreFound : Type 0 where
  pub none_missed : (o : Settings) (table : TableValue) (labels : List (List ℕ)) (label v : List ℕ) → IsSound table →
      Contains labels v → IsBelow o.after v → (o.others ≡ true → v ≢ label) →
      IsVariantOf o table label v ⊎ IsVariantOf o table v label →
      Contains (collisions_after o table labels label) v
  pub good_alone : (o : Settings) (table : TableValue) (labels : List (List ℕ)) (label v : List ℕ) → IsSound table →
      Contains (collisions_after o table labels label) v → IsGood o table label → IsGood o table v →
      IsVariantOf o table label v ⊎ IsVariantOf o table v label
  pub arising_alone : (o : Settings) (table : TableValue) (labels : List (List ℕ)) (label v : List ℕ) → IsSound table →
      Contains (collisions_after o table labels label) v → Arises table label v ⊎ Arises table v label
  pub others : (o : Settings) (table : TableValue) (labels : List (List ℕ)) (label v : List ℕ) → IsSound table →
      Contains (collisions_after (record o { others = true }) table labels label) v
      ↔ (Contains (collisions_after (record o { others = false }) table labels label) v × v ≢ label)
  pub of_parts : (o : Settings) (table : TableValue) (first second : List (List ℕ)) (label : List ℕ) →
      collisions_after o table (first ++ second) label
      ≡ collisions_after o table first label ++ collisions_after o table second label

-- two good labels under a table without gaps, of which each source and variant is one code point, no variant has a
-- condition and sources alone refuse
pub record AreOfMutualTable (o : Settings) (table : TableValue) (v w : List ℕ) : Type 0 where
  pub of_table : IsTable table
  pub without_gaps : IsMutual table
  pub refuses : RefusesBySources table
  pub good : IsGood o table v
  pub other_good : IsGood o table w

-- of such labels each is something to the other, or neither is anything; and they collide exactly where the least label
-- of both whole listings is the same, so that a database finds collisions by that label as a key: vs are listed for v,
-- and ws for w
pub record KeysDecide : Type 0 where
  pub alike : (o : Settings) (table : TableValue) (v w : List ℕ) → AreOfMutualTable o table v w →
      IsRegard o table v w NoVariant ↔ IsRegard o table w v NoVariant
  pub keys : (o : Settings) (table : TableValue) (v w : List ℕ) (vs ws : List (List ℕ)) → AreOfMutualTable o table v w →
      IsListOf (IsListed (whole o) table v) vs → IsListOf (IsListed (whole o) table w) ws →
      Collides o table v w ↔ (slice_get vs 0 ≡ slice_get ws 0)
