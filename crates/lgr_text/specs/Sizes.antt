-- How many elements may stand in one that is below 'data' or 'rules': in an entry, a class, a rule or an action.
use Rattle.std.specs.Prelude.{ℕ, ◌+◌, ◌-◌, Bool, false, ◌||◌, nat_lt, List, [], ◌∷◌, if◌then◌else◌}
use Rattle.xml_text.specs.Tokens
use Rattle.xml_text.specs.Tokens.{Said}

abbrev pub max_elements : ℕ
max_elements = 8192

-- how many stand in it with this one, where so many are open around this one: the root, the section, and it itself
abbrev pub counted_with : ℕ → ℕ → ℕ
counted_with open_ count = if nat_lt open_ 3 then 0 else count + 1

-- it has more, or a later one has, where so many are open and so many stand in it before these tokens
abbrev pub exceeds : ℕ → ℕ → List Said → Bool
exceeds open_ count [] = false
exceeds open_ count (Tokens.Open name attributes ∷ ts) =
    nat_lt max_elements (counted_with open_ count) || exceeds (open_ + 1) (counted_with open_ count) ts
exceeds open_ count (Tokens.Text text ∷ ts) = exceeds open_ count ts
exceeds open_ count (Tokens.Close ∷ ts) = exceeds (open_ - 1) count ts
