-- References of XML 1.0, and the characters for which they stand. The numbers in brackets are its productions.
use Rattle.std.specs.Prelude.{ℕ, Bool, true, false, ◌==◌, ◌||◌, Option, Some, None, List, [], ◌∷◌, bytes_eq, codes}
use Rattle.std.specs.Prelude.{drop, slice_index, if◌then◌else◌}
use Rattle.std.specs.Char.{is_digit}
use Rattle.std.specs.List.{list_all}
use Rattle.std.specs.Str.Parse.{digits_value}
use Rattle.xml_text.specs.Names.{is_between}

-- [2] Char
abbrev pub is_character : ℕ → Bool
is_character c =
    c == 9 || c == 10 || c == 13 || is_between 0x20 0xD7FF c || is_between 0xE000 0xFFFD c
    || is_between 0x10000 0x10FFFF c

abbrev pub is_number : ℕ → List ℕ → Bool
is_number radix [] = false
is_number radix (d ∷ ds) = list_all (λ b. is_digit b radix) (d ∷ ds)

abbrev pub character_of : ℕ → Option ℕ
character_of c = if is_character c then Some c else None

-- the character that digits number, if it is one that XML may have ('Legal Character' in section 4.1)
abbrev pub numbered : ℕ → List ℕ → Option ℕ
numbered radix digits = if is_number radix digits then character_of (digits_value radix digits) else None

-- '#', and 'x' before hexadecimal digits
abbrev pub numbered_by : List ℕ → Bool → Option ℕ
numbered_by name true = numbered 16 (drop 2 name)
numbered_by name false = numbered 10 (drop 1 name)

-- the character for which the text between '&' and ';' stands: [66] CharRef,
-- [68] EntityRef of the entities of section 4.6
unfoldable pub referenced : List ℕ → Option ℕ
referenced name =
    if bytes_eq name (codes "lt") then Some 60 else
    if bytes_eq name (codes "gt") then Some 62 else
    if bytes_eq name (codes "amp") then Some 38 else
    if bytes_eq name (codes "apos") then Some 39 else
    if bytes_eq name (codes "quot") then Some 34 else
    if slice_index name 0 == 35 then numbered_by name (slice_index name 1 == 120) else None
