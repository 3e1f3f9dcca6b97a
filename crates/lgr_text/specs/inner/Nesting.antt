-- Elements within elements.
use Rattle.std.specs.Prelude.{ℕ, ◌+◌, ◌-◌, ◌==◌, Bool, false, List, [], ◌∷◌, bytes_eq, length, take, if◌then◌else◌}
use Rattle.xml_text.specs.Tokens
use Rattle.xml_text.specs.Tokens.{Said}

abbrev pub has_prefix : List ℕ → List ℕ → Bool
has_prefix prefix name = bytes_eq (take (length prefix) name) prefix

-- each start tag has the prefix, each end tag ends an element, and no element stays open, where so many are open before
abbrev pub nests : List ℕ → ℕ → List Said → Bool
nests prefix open_ [] = open_ == 0
nests prefix open_ (Tokens.Open name attributes ∷ ts) =
    if has_prefix prefix name then nests prefix (open_ + 1) ts else false
nests prefix open_ (Tokens.Text text ∷ ts) = nests prefix open_ ts
nests prefix open_ (Tokens.Close ∷ ts) = if open_ == 0 then false else nests prefix (open_ - 1) ts
