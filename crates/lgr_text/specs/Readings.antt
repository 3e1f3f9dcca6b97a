-- The readings of a label: the ways in which it gives a variant, and what each of them records (RFC 7940, sections
-- 5.3.4, 8.1.1, 8.2 and 8.4).
use Rattle.std.specs.Prelude.{◌≡◌, ◌⊎◌, ℕ, ◌+◌, Bool, false, IsTrue, List, [], ◌∷◌, Option, All, Contains}
use Rattle.std.specs.Prelude.{length, map}
use Rattle.std.specs.List.{AllByRecursion, flat_map}
use Rattle.lgr_text.specs.Labels.{ConditionHolds, IsCut}
use Rattle.lgr_text.specs.Meanings.{Meanings}
use Rattle.lgr_text.specs.Records.{Ruleset, Variant}
use Rattle.lgr_text.specs.Repertoire.{Piece, has_types, may_be}

-- a source stays as it is, or a variant of its entry is put in its place
pub data Step : Type 0 where
  Stays : Piece → Step
  Maps : Piece → Variant → Step

abbrev pub piece_of : Step → Piece
piece_of (Stays p) = p
piece_of (Maps p v) = p

abbrev pub points_of : Step → List ℕ
points_of (Stays p) = p.source
points_of (Maps p v) = v.points

-- what is recorded: nothing of a source that stays, and of a variant its type, if it has one
pub data Recorded : Type 0 where
  Unmapped : Recorded
  Mapped : Option (List ℕ) → Recorded

abbrev pub recorded : Step → Recorded
recorded (Stays p) = Unmapped
recorded (Maps p v) = Mapped v.type_name

-- it may be made where the source stands from the place on: the condition of the variant holds there, in this label. A
-- source that is a variant of itself there stays by that variant alone
abbrev pub MayBeMade : (ℕ → Bool) → Ruleset → Meanings → List ℕ → ℕ → Step → Type 0
MayBeMade may r m label place (Stays p) =
    All (λ v. v.points ≡ p.source → ¬ ConditionHolds r m label v.condition place (place + length p.source))
    p.entry.variants
MayBeMade may r m label place (Maps p v) =
    Contains p.entry.variants v × IsTrue (may_be may v.points)
    × ConditionHolds r m label v.condition place (place + length p.source)

-- each may be made where its source stands; the first source stands at this place
abbrev pub MayAllBeMade : (ℕ → Bool) → Ruleset → Meanings → List ℕ → ℕ → List Step → Type 0
MayAllBeMade may r m label place [] = Unit {0}
MayAllBeMade may r m label place (s ∷ reading) =
    MayBeMade may r m label place s × MayAllBeMade may r m label (place + length (piece_of s).source) reading

-- it leaves its source as it is
abbrev pub IsOwn : Step → Type 0
IsOwn s = points_of s ≡ (piece_of s).source

-- a reading by which the label gives v: any cut of it (8.2), of which each source stays, or is replaced. The label
-- gives itself by those readings alone that leave each source as it is (8.1.1)
pub record IsReading (may : ℕ → Bool) (r : Ruleset) (m : Meanings) (label v : List ℕ) (reading : List Step)
    : Type 0 where
  pub cut : IsCut may r m (map piece_of reading) label
  pub made : MayAllBeMade may r m label 0 reading
  pub joined : flat_map points_of reading ≡ v
  pub own : v ≡ label → AllByRecursion IsOwn reading

-- clear: all readings record the same; or nothing in the ruleset has a type. Section 8.4 calls it an error that a label
-- gives another in two ways; here it is one only if they record different things
abbrev pub IsClear : (ℕ → Bool) → Ruleset → Meanings → (label v : List ℕ) → Type 0
IsClear may r m label v =
    (has_types r.entries ≡ false)
    ⊎ ((one other : List Step) → IsReading may r m label v one → IsReading may r m label v other
    → (kind : Recorded) → Contains (map recorded one) kind → Contains (map recorded other) kind)
