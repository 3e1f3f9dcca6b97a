-- What a tag says.
use Rattle.std.specs.Prelude.{ℕ, Bool, ◌&&◌, List, bytes_eq}
use Rattle.std.specs.List.{list_any}

-- an attribute: its name, and the UTF-8 of its value
pub record Attribute : Type 0 where
  pub name : List ℕ
  pub value : List ℕ

-- one of them has the name
abbrev pub is_named : List Attribute → List ℕ → Bool
is_named attributes name = list_any (λ a. bytes_eq a.name name) attributes

abbrev pub is : Attribute → List ℕ → List ℕ → Bool
is a name value = bytes_eq a.name name && bytes_eq a.value value
