-- Laws of the definitions.
use Rattle.std.specs.Prelude.{◌≡◌, ◌↔◌, ℕ, List, ◌++◌, Contains}
use Rattle.idn_text.specs.Points.{utf8_of}
use Rattle.idn_label.specs.FirstFault.{first_fault, IsRegistrable}
use Rattle.std.specs.Option.{is_none}
use Rattle.variant_list.specs.Labels.{label_cmp, IsListOf}
use Rattle.variant_list.specs.Variants.{variants_among}
use Rattle.registered_labels.specs.Registered.{AreRegistered}
use Rattle.registered_labels.specs.Collisions.{collisions, IsCollision}
use Rattle.idn_class.specs.declared.properties.Properties.{Properties}

-- the byte order of the UTF-8 of two lists is their label order
abbrev pub Utf8KeepsOrder : Type 0
Utf8KeepsOrder = (v w : List ℕ) → label_cmp (utf8_of v) (utf8_of w) ≡ label_cmp v w

-- the collisions that compute are the one rising list of the registered labels, greater than the text, that are
-- spelled; and those that may be registered are exactly those variants after the text, which are spelled labels that
-- may be, that are registered
pub record CollisionsAreListed : Type 0 where
  pub exactly : (properties : Properties) (spelled labels : List (List ℕ)) (after : List ℕ)
      → AreRegistered properties labels →
      IsListOf (IsCollision spelled labels after) (collisions spelled labels after)
  pub variants_registered : (properties : Properties) (spelled labels : List (List ℕ)) (after v : List ℕ)
      → AreRegistered properties labels → IsRegistrable properties v →
      Contains (collisions spelled labels after) v
      ↔ (Contains (variants_among (λ w. is_none (first_fault properties w)) spelled after) v × Contains labels v)

-- registered labels that are kept in two parts have the collisions of the first part, then those of the second
abbrev pub CollisionsOfParts : Type 0
CollisionsOfParts = (spelled first second : List (List ℕ)) (after : List ℕ) →
    collisions spelled (first ++ second) after ≡ collisions spelled first after ++ collisions spelled second after
