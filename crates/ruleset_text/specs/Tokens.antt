-- The tokens of a pattern.
use Rattle.std.specs.Prelude.{ℕ, ◌==◌, ◌||◌, ◌&&◌, List, [], ◌∷◌, map, Option, Some, None, if◌then◌else◌}
use Rattle.idn_text.specs.Points.{point_of_hex}
use Rattle.ruleset_text.specs.declared.token.Token.{Token}
use Rattle.ruleset_text.specs.declared.token.Token.TheVariants as token
use Rattle.ruleset_text.specs.Lexemes.{lexemes}
use Rattle.ruleset_text.specs.Names.{is_name, number_of}

-- the token of one byte
abbrev pub mark_token : ℕ → Token
mark_token c =
    if c == 40 then token.Open else if c == 41 then token.Close else if c == 63 then token.Optional
    else if c == 42 then token.Many else
    if c == 47 then token.Or else if c == 94 then token.Start else if c == 36 then token.End
    else if c == 46 then token.Any else if c == 95 then token.Anchor else token.Other

-- the token of '@' and what follows it: a set by its number among those of these names, and the number after them where
-- none has the name
abbrev pub set_token : List (List ℕ) → List ℕ → Token
set_token names name = if is_name name then token.Set (number_of names name) else token.Other

-- the token of a word by the code point that it names, if it names one
abbrev pub point_token : Option ℕ → Token
point_token (Some c) = token.Point c
point_token None = token.Other

-- what follows 'U+' or 'u+', or the whole word if it begins with neither
abbrev pub without_prefix : List ℕ → List ℕ
without_prefix [] = []
without_prefix (c ∷ []) = c ∷ []
without_prefix (c ∷ d ∷ digits) = if (c == 85 || c == 117) && d == 43 then digits else c ∷ d ∷ digits

-- the token of a word that has more than one byte
abbrev pub word_token : List ℕ → Token
word_token word = point_token (point_of_hex (without_prefix word))

-- the token of a lexeme
abbrev pub token_of : List (List ℕ) → List ℕ → Token
token_of names [] = token.Other
token_of names (c ∷ []) = mark_token c
token_of names (c ∷ d ∷ cs) = if c == 64 then set_token names (d ∷ cs) else word_token (c ∷ d ∷ cs)

-- the tokens of lexemes
unfoldable pub tokens_in : List (List ℕ) → List (List ℕ) → List Token
tokens_in names words = map (token_of names) words

-- the tokens of a line, or of what is left of one
abbrev pub tokens_of : List (List ℕ) → List ℕ → List Token
tokens_of names line = tokens_in names (lexemes line)
