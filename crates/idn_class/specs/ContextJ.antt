-- The rules for the joiners (RFC 5892, appendix A.1 and A.2), as statements about the places of a label.
use Rattle.std.specs.Prelude.{◌≡◌, ℕ, ◌<◌, ◌⊎◌, IsTrue, List, length, IsSomeAnd, slice_index, EachIndex}
use Rattle.idn_class.specs.declared.joining_type.JoiningType.{JoiningType}
use Rattle.idn_class.specs.declared.joining_type.JoiningType.TheVariants.{Transparent}
use Rattle.idn_class.specs.declared.properties.Properties.{Properties}
use Rattle.idn_class.specs.JoiningType.{is_virama, joining_type, joins_next, joins_previous}
use Rattle.idn_class.specs.Neighbors.{before}

-- the joining type at a place
abbrev pub type_at : Properties → List ℕ → ℕ → JoiningType
type_at properties label place = joining_type properties (slice_index label place)

-- (Joining_Type:{L,D})(Joining_Type:T)* stands before the joiner: a place of type L or D, and only type T between
pub record JoinsBefore (properties : Properties) (label : List ℕ) (joiner : ℕ) : Type 0 where
  pub place : ℕ
  pub earlier : place < joiner
  pub joins : IsTrue (joins_next (type_at properties label place))
  pub clear : (k : ℕ) → place < k → k < joiner → type_at properties label k ≡ Transparent

-- (Joining_Type:T)*(Joining_Type:{R,D}) stands after the joiner: a place of type R or D, and only type T between
pub record JoinsAfter (properties : Properties) (label : List ℕ) (joiner : ℕ) : Type 0 where
  pub place : ℕ
  pub later : joiner < place
  pub exists : place < length label
  pub joins : IsTrue (joins_previous (type_at properties label place))
  pub clear : (k : ℕ) → joiner < k → k < place → type_at properties label k ≡ Transparent

-- Canonical_Combining_Class(Before(cp)) is Virama
abbrev pub FollowsVirama : Properties → List ℕ → ℕ → Type 0
FollowsVirama properties label place = IsSomeAnd (before label place) (λ c. IsTrue (is_virama properties c))

-- the rule of the joiner at a place, where one stands there
pub record JoinerPasses (properties : Properties) (label : List ℕ) (place : ℕ) : Type 0 where
  -- A.1, ZERO WIDTH NON-JOINER
  pub non_joiner : slice_index label place ≡ 0x200C
      → FollowsVirama properties label place ⊎ (JoinsBefore properties label place × JoinsAfter properties label place)
  -- A.2, ZERO WIDTH JOINER
  pub joiner : slice_index label place ≡ 0x200D → FollowsVirama properties label place

-- each joiner of the label meets its rule
abbrev pub PassesContextJ : Properties → List ℕ → Type 0
PassesContextJ properties label = EachIndex label (JoinerPasses properties label)
