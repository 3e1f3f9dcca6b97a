-- Blanks and names of XML 1.0. The numbers in brackets are its productions. Names are in ASCII.
use Rattle.std.specs.Prelude.{◌≡◌, ℕ, Bool, true, false, ◌==◌, ◌&&◌, ◌||◌, nat_le, List, [], ◌∷◌}
use Rattle.std.specs.List.{list_all}

-- [3] S: space, TAB, CR or LF
abbrev pub is_blank : ℕ → Bool
is_blank b = b == 32 || b == 9 || b == 13 || b == 10

abbrev pub AreBlanks : List ℕ → Type 0
AreBlanks bs = list_all is_blank bs ≡ true

abbrev pub is_between : ℕ → ℕ → ℕ → Bool
is_between first last b = nat_le first b && nat_le b last

-- [4] NameStartChar: A to Z, a to z, ':' and '_'
abbrev pub is_name_start : ℕ → Bool
is_name_start b = is_between 65 90 b || is_between 97 122 b || b == 58 || b == 95

-- [4a] NameChar: these, 0 to 9, '-' and '.'
abbrev pub is_name_byte : ℕ → Bool
is_name_byte b = is_name_start b || is_between 48 57 b || b == 45 || b == 46

-- [5] Name
abbrev pub is_name : List ℕ → Bool
is_name [] = false
is_name (b ∷ bs) = is_name_start b && list_all is_name_byte bs

-- what may stand between '&' and ';': that of a name, and '#'
abbrev pub is_reference_byte : ℕ → Bool
is_reference_byte b = is_name_byte b || b == 35
