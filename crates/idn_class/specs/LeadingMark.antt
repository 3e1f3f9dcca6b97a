-- A label must not begin with a combining mark (RFC 5891, section 4.2.3.2).
use Rattle.std.specs.Prelude.{ℕ, Bool, true, false, IsTrue, List, IsSomeAnd, slice_get}
use Rattle.ucd_category.specs.declared.GeneralCategory.{GeneralCategory}
use Rattle.ucd_category.specs.declared.GeneralCategory.TheVariants.{NonspacingMark as Mn, SpacingMark as Mc}
use Rattle.ucd_category.specs.declared.GeneralCategory.TheVariants.{EnclosingMark as Me}
use Rattle.unicode.specs.GeneralCategory.{general_category}

abbrev pub is_mark_category : GeneralCategory → Bool
is_mark_category Mn = true
is_mark_category Mc = true
is_mark_category Me = true
is_mark_category _ = false

-- General_Category Mn, Mc or Me
unfoldable pub is_mark : ℕ → Bool
is_mark c = is_mark_category (general_category c)

-- the first code point is a mark
abbrev pub BeginsWithMark : List ℕ → Type 0
BeginsWithMark label = IsSomeAnd (slice_get label 0) (λ c. IsTrue (is_mark c))
