-- Sources of one code point with which no longer source begins.
use Rattle.std.specs.Prelude.{◌≡◌, ℕ, List, [], ◌∷◌, Contains}
use Rattle.variant_table.specs.Entries.{Entry}
use Rattle.variant_table.specs.inner.Order.{HasNoLonger}

-- the entry's source is this code point alone, and no longer source begins with it
pub record IsSingle (table : List Entry) (point : ℕ) (e : Entry) : Type 0 where
  pub in_table : Contains table e
  pub alone : e.source ≡ point ∷ []
  pub longest : HasNoLonger table (point ∷ [])
