-- Names of variant types, sets and rules.
use Rattle.std.specs.Prelude.{◌≡◌, ℕ, nat_le, ◌==◌, ◌||◌, ◌&&◌, Bool, false, List, [], ◌∷◌, length, bytes_eq, codes}
use Rattle.std.specs.Prelude.{IsTrue}
use Rattle.std.specs.List.{AllByRecursion, list_all, list_any, position_or_len}

-- A to Z, or a to z
abbrev pub is_letter : ℕ → Bool
is_letter c = nat_le 65 c && nat_le c 90 || nat_le 97 c && nat_le c 122

-- a letter, a digit or '_'
abbrev pub is_name_byte : ℕ → Bool
is_name_byte c = is_letter c || nat_le 48 c && nat_le c 57 || c == 95

-- a letter, then letters, digits and '_', 32 at most
abbrev pub is_name : List ℕ → Bool
is_name [] = false
is_name (c ∷ cs) = is_letter c && nat_le (length cs) 31 && list_all is_name_byte cs

-- the first of the lexemes is a name
abbrev pub begins_with_name : List (List ℕ) → Bool
begins_with_name [] = false
begins_with_name (word ∷ words) = is_name word

-- the number of the first name that is this one, or how many names there are
unfoldable pub number_of : List (List ℕ) → List ℕ → ℕ
number_of names name = position_or_len (λ other. bytes_eq other name) names

-- the name is one of these
abbrev pub is_one_of : List (List ℕ) → List ℕ → Bool
is_one_of names name = list_any (λ other. bytes_eq other name) names

-- the predefined types, numbered from 0 on (RFC 7940, section 7.3)
abbrev pub predefined_types : List (List ℕ)
predefined_types = codes "invalid" ∷ codes "blocked" ∷ codes "allocatable" ∷ codes "activated" ∷ codes "valid" ∷ []

-- names, no two of which are the same
abbrev pub AreNames : List (List ℕ) → Type 0
AreNames [] = Unit {0}
AreNames (name ∷ names) = IsTrue (is_name name) × AllByRecursion (λ other. name ≡ other → ⊥) names × AreNames names
