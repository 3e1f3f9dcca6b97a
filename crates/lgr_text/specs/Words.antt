-- The words of a value or a text: RFC 7940 has lists between blanks (its appendix D), which are those of XML.
use Rattle.std.specs.Prelude.{ℕ, Bool, false, not, List, [], ◌∷◌, if◌then◌else◌}
use Rattle.std.specs.List.{onto_first}
use Rattle.xml_text.specs.Names.{is_blank}

-- a word goes on in what follows
abbrev pub begins_in_word : List ℕ → Bool
begins_in_word [] = false
begins_in_word (b ∷ bs) = not (is_blank b)

-- what stands between blanks
abbrev pub words : List ℕ → List (List ℕ)
words [] = []
words (b ∷ bs) =
    if is_blank b then words bs else
    if begins_in_word bs then onto_first b (words bs) else (b ∷ []) ∷ words bs
