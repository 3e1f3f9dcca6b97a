-- Objects of which some members are written.
use Rattle.std.specs.Prelude.{◌≡◌, ℕ, List, [], ◌∷◌, ◌++◌}
use Rattle.answer_json.specs.Answers.{Field}
use Rattle.answer_json.specs.inner.Texts.{field_text, fields_text}

-- a brace, and members with a comma between each two
abbrev pub begun_text : List Field → List ℕ
begun_text [] = 123 ∷ []
begun_text (field ∷ fields) = 123 ∷ (field_text field ++ fields_text fields [])

-- after what stood before, an object has these members so far
pub record IsBegun (before : List ℕ) (fields : List Field) (bytes : List ℕ) : Type 0 where
  pub text : bytes ≡ before ++ begun_text fields
