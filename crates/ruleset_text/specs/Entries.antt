-- What a line of an entry or of a range says.
use Rattle.std.specs.Prelude.{ℕ, Bool, Option, List}
use Rattle.ruleset_text.specs.declared.named_condition.NamedCondition.{NamedCondition}

-- a source or a variant: whether '!' stands before it, its code points, its type by name, and its condition, if it has
-- these
pub record Mapped : Type 0 where
  pub marked : Bool
  pub points : List ℕ
  pub type_name : Option (List ℕ)
  pub condition : Option NamedCondition

-- an entry: its source, then its variants; or a range, which has a last code point
pub record EntryForm : Type 0 where
  pub mapped : List Mapped
  pub last : Option ℕ
