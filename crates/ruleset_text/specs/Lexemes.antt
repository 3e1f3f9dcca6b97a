-- The bytes of a line cut into marks, runs of full stops, and words.
use Rattle.std.specs.Prelude.{ℕ, Bool, false, ◌||◌, ◌&&◌, ◌==◌, not, List, [], ◌∷◌, if◌then◌else◌}
use Rattle.std.specs.List.{onto_first}

-- a space or a tab
abbrev pub is_blank : ℕ → Bool
is_blank c = c == 32 || c == 9

-- '-', '|', ':', '!', ',', '/', '(', ')', '?', '*', '^' or '$'
abbrev pub is_mark : ℕ → Bool
is_mark c =
    c == 45 || c == 124 || c == 58 || c == 33 || c == 44 || c == 47 || c == 40 || c == 41 || c == 63 || c == 42
    || c == 94 || c == 36

-- '.'
abbrev pub is_full_stop : ℕ → Bool
is_full_stop c = c == 46

-- a byte that ends a word: a blank, a mark or a full stop
abbrev pub is_word_end : ℕ → Bool
is_word_end c = is_blank c || is_mark c || is_full_stop c

-- any other byte
abbrev pub is_word_byte : ℕ → Bool
is_word_byte c = not (is_word_end c)

abbrev pub begins_in_word : List ℕ → Bool
begins_in_word [] = false
begins_in_word (c ∷ cs) = is_word_byte c

abbrev pub begins_in_stops : List ℕ → Bool
begins_in_stops [] = false
begins_in_stops (c ∷ cs) = is_full_stop c

-- a byte and the next one are of one word, or are both full stops
abbrev pub is_joined : ℕ → List ℕ → Bool
is_joined c cs = is_word_byte c && begins_in_word cs || is_full_stop c && begins_in_stops cs

-- the marks one by one, and the words and the runs of full stops between them and the blanks
abbrev pub lexemes : List ℕ → List (List ℕ)
lexemes [] = []
lexemes (c ∷ cs) =
    if is_blank c then lexemes cs else
    if is_joined c cs then onto_first c (lexemes cs) else
    (c ∷ []) ∷ lexemes cs
