-- What a member begins with: a brace or a comma, its name in quotes, and a colon.
use Rattle.std.specs.Prelude.{◌≡◌, ℕ, ◌-◌, List, [], ◌∷◌, ◌++◌, length, take, drop, slice_index, IsTrue}
use Rattle.answer_json.specs.inner.Texts.{is_plain}

-- the name in it
abbrev pub name_in : List ℕ → List ℕ
name_in opening = take (length opening - 4) (drop 2 opening)

-- each byte of the name stands as it is
pub record IsOpening (opening : List ℕ) : Type 0 where
  pub text : opening ≡ slice_index opening 0 ∷ 34 ∷ (name_in opening ++ 34 ∷ 58 ∷ [])
  pub plain : IsTrue (is_plain (name_in opening))
