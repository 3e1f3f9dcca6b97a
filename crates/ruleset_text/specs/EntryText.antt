-- The canonical text of an entry or of a range, and which forms it has.
use Rattle.std.specs.Prelude.{◌≡◌, ℕ, ◌≤◌, Bool, true, false, Option, Some, None, IsTrue, List, [], ◌∷◌, ◌++◌, codes}
use Rattle.std.specs.List.{AllByRecursion}
use Rattle.idn_text.specs.Points.{is_scalar_value}
use Rattle.ruleset_text.specs.Canonical.{point_text}
use Rattle.ruleset_text.specs.Entries.{Mapped}
use Rattle.ruleset_text.specs.NamedConditions.{HasRule, condition_text}
use Rattle.ruleset_text.specs.Names.{is_name}

-- ---- the text

abbrev pub mark_text : Bool → List ℕ
mark_text true = 33 ∷ []
mark_text false = []

-- '-' between code points
abbrev pub sequence_text : List ℕ → List ℕ
sequence_text [] = []
sequence_text (c ∷ []) = point_text c
sequence_text (c ∷ d ∷ points) = point_text c ++ 45 ∷ sequence_text (d ∷ points)

-- the last code point of a range
abbrev pub last_text : Option ℕ → List ℕ
last_text None = []
last_text (Some c) = 46 ∷ 46 ∷ point_text c

abbrev pub type_text : Option (List ℕ) → List ℕ
type_text None = []
type_text (Some name) = codes " as " ++ name

-- a source or a variant; one with a last code point is that of a range
abbrev pub mapped_text : Mapped → Option ℕ → List ℕ
mapped_text m last =
    mark_text m.marked
    ++ (sequence_text m.points ++ (last_text last ++ (type_text m.type_name ++ condition_text m.condition)))

-- ':' between variants
abbrev pub variants_text : List Mapped → List ℕ
variants_text [] = []
variants_text (m ∷ []) = mapped_text m None
variants_text (m ∷ n ∷ variants) = mapped_text m None ++ 58 ∷ variants_text (n ∷ variants)

-- '|' between the source and the variants
abbrev pub entry_text : List Mapped → Option ℕ → List ℕ
entry_text [] last = []
entry_text (source ∷ []) last = mapped_text source last
entry_text (source ∷ m ∷ variants) last = mapped_text source last ++ 124 ∷ variants_text (m ∷ variants)

-- ---- the forms

-- a sequence of scalar values
abbrev pub IsSequence : List ℕ → Type 0
IsSequence [] = ⊥
IsSequence (c ∷ points) = AllByRecursion (λ d. IsTrue (is_scalar_value d)) (c ∷ points)

-- what is marked has no type beside its mark
abbrev pub MayHaveType : Bool → Option (List ℕ) → Type 0
MayHaveType marked None = Unit {0}
MayHaveType marked (Some name) = (marked ≡ false) × IsTrue (is_name name)

pub record IsMapped (m : Mapped) : Type 0 where
  pub sequence : IsSequence m.points
  pub type_name : MayHaveType m.marked m.type_name
  pub condition : HasRule m.condition

-- a source and variants; or a range: a source of one code point that is not above the last one
abbrev pub IsForm : List Mapped → Option ℕ → Type 0
IsForm [] last = ⊥
IsForm (m ∷ mapped) None = AllByRecursion IsMapped (m ∷ mapped)
IsForm (m ∷ []) (Some c) =
    IsMapped m × IsTrue (is_scalar_value c) × ((first : ℕ) × (m.points ≡ first ∷ []) × (first ≤ c))
IsForm (m ∷ n ∷ mapped) (Some c) = ⊥
