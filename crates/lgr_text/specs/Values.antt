-- The values of attributes, and the code points of a class, as the schema of RFC 7940 has them (its appendix D).
use Rattle.std.specs.Prelude.{ℕ, ◌+◌, Bool, false, ◌==◌, ◌&&◌, ◌||◌, not, nat_le, Option, Some, None, List, []}
use Rattle.std.specs.Prelude.{◌∷◌, length, take, drop, position, option_map, option_and_then, if◌then◌else◌}
use Rattle.std.specs.Char.{is_digit}
use Rattle.std.specs.List.{list_all}
use Rattle.std.specs.Str.Parse.{digits_value}
use Rattle.idn_text.specs.Points.{point_of_hex}
use Rattle.label_patterns.specs.declared.span.Span.{Span}
use Rattle.lgr_text.specs.declared.records.Count.{Count}
use Rattle.lgr_text.specs.declared.names.NameKind.{NameKind}
use Rattle.lgr_text.specs.declared.names.NameKind.TheVariants as kinds
use Rattle.lgr_text.specs.Words.{words}
use Rattle.xml_text.specs.Names.{is_between}

-- ---- lists

-- each word gives something
abbrev pub each : {X : Type 0} → (List ℕ → Option X) → List (List ℕ) → Option (List X)
each read [] = Some []
each read (w ∷ ws) = option_and_then (λ x. option_map (λ xs. x ∷ xs) (each read ws)) (read w)

abbrev pub not_empty : {X : Type 0} → List X → Option (List X)
not_empty [] = None
not_empty (x ∷ xs) = Some (x ∷ xs)

-- one word or more, and each gives something
abbrev pub some_words : {X : Type 0} → (List ℕ → Option X) → List ℕ → Option (List X)
some_words read text = option_and_then not_empty (each read (words text))

-- ---- code points

abbrev pub is_small_letter : ℕ → Bool
is_small_letter b = is_between 97 122 b

-- 4 to 6 hexadecimal digits in upper case, which write a scalar value
abbrev pub point : List ℕ → Option ℕ
point word = if list_all (λ b. not (is_small_letter b)) word then point_of_hex word else None

-- code points; there may be none, which is what a variant may be (section 5.3.3)
abbrev pub points : List ℕ → Option (List ℕ)
points text = each point (words text)

-- a span is not empty
abbrev pub span_between : Option ℕ → Option ℕ → Option Span
span_between None last = None
span_between (Some first) None = None
span_between (Some first) (Some last) =
    if nat_le first last then Some (record { first = first; last = last }) else None

-- cut at this hyphen, or not cut
abbrev pub span_cut : List ℕ → Option ℕ → Option Span
span_cut word None = span_between (point word) (point word)
span_cut word (Some place) = span_between (point (take place word)) (point (drop (place + 1) word))

-- a code point, or a range with a hyphen (section 6.2.4)
abbrev pub span : List ℕ → Option Span
span word = span_cut word (position (λ b. b == 45) word)

-- one of these or more
abbrev pub spans : List ℕ → Option (List Span)
spans text = some_words span text

-- ---- names

-- a letter or '_'; characters beyond ASCII aren't told apart
abbrev pub is_name_start : ℕ → Bool
is_name_start b = is_between 65 90 b || is_between 97 122 b || b == 95 || nat_le 128 b

-- such a one, a digit, '-' or '.'
abbrev pub is_name_byte : ℕ → Bool
is_name_byte b = is_name_start b || is_between 48 57 b || b == 45 || b == 46

-- such a one, or ':'
abbrev pub is_token_byte : ℕ → Bool
is_token_byte b = is_name_byte b || b == 58

-- NCName, as ID and IDREF are
abbrev pub is_name : List ℕ → Bool
is_name [] = false
is_name (b ∷ bs) = is_name_start b && list_all is_name_byte bs

-- NMTOKEN
abbrev pub is_token : List ℕ → Bool
is_token [] = false
is_token (b ∷ bs) = list_all is_token_byte (b ∷ bs)

abbrev pub begins_with_underscore : List ℕ → Bool
begins_with_underscore [] = false
begins_with_underscore (b ∷ bs) = b == 95

-- a type or a disposition: such a one that doesn't begin with '_' (section 5.3.2)
abbrev pub is_type : List ℕ → Bool
is_type word = is_token word && not (begins_with_underscore word)

abbrev pub is_of : NameKind → List ℕ → Bool
is_of kinds.Identifier word = is_name word
is_of kinds.Token word = is_token word
is_of kinds.Type word = is_type word

-- one name
abbrev pub name_of : NameKind → List ℕ → Option (List ℕ)
name_of kind text = if is_of kind text then Some text else None

-- one or more
abbrev pub names_of : NameKind → List ℕ → Option (List (List ℕ))
names_of kind text = some_words (name_of kind) text

-- ---- counts

abbrev pub is_decimal_digit : ℕ → Bool
is_decimal_digit b = is_digit b 10

-- one to nine of them
abbrev pub is_number : List ℕ → Bool
is_number digits = nat_le 1 (length digits) && nat_le (length digits) 9 && list_all is_decimal_digit digits

unfoldable pub number : List ℕ → Option ℕ
number digits = if is_number digits then Some (digits_value 10 digits) else None

-- no more than so many times, which is neither never nor less than the least
abbrev pub count_between : Option ℕ → Option ℕ → Option Count
count_between None most = None
count_between (Some least) None = None
count_between (Some least) (Some most) =
    if nat_le least most && nat_le 1 most then Some (record { least = least; most = Some most }) else None

-- any number of times more
abbrev pub count_from : Option ℕ → Option Count
count_from None = None
count_from (Some least) = Some (record { least = least; most = None })

-- by what follows the digits
abbrev pub count_by : Option ℕ → List ℕ → Option Count
count_by least [] = None
count_by least (sign ∷ digits) =
    if sign == 58 then count_between least (number digits) else
    if sign == 43 && length digits == 0 then count_from least else None

abbrev pub count_cut : List ℕ → Option ℕ → Option Count
count_cut text None = count_between (number text) (number text)
count_cut text (Some place) = count_by (number (take place text)) (drop place text)

-- 'n', 'n+' or 'n:m' (section 6.3.3)
abbrev pub count : List ℕ → Option Count
count text = count_cut text (position (λ b. not (is_decimal_digit b)) text)
