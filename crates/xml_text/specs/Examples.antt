-- Examples of XML 1.0.
use Rattle.std.specs.Prelude.{List, [], ◌∷◌, ◌++◌, ℕ, codes}
use Rattle.xml_text.specs.declared.attribute.TagKind.TheVariants.{Start, Empty}
use Rattle.xml_text.specs.Documents.{IsBody}
use Rattle.xml_text.specs.Tags.{IsTag}
use Rattle.xml_text.specs.Tokens
use Rattle.xml_text.specs.Tokens.{Token}

abbrev pub quoted : List ℕ → List ℕ
quoted bytes = 34 ∷ bytes ++ 34 ∷ []

-- a start tag (section 3.1)
abbrev pub IsStartExample : Type 0
IsStartExample =
    IsTag (codes "<termdef id=" ++ quoted (codes "dt-dog") ++ codes " term=" ++ quoted (codes "dog") ++ codes ">")
    (record {
      name = codes "termdef";
      attributes = record { name = codes "id"; value = codes "dt-dog" }
          ∷ record { name = codes "term"; value = codes "dog" } ∷ [];
      kind = Start;
    })

-- the tag of an empty element (section 3.1), with the value of the last row of section 3.3.3:
-- a blank that a reference numbers stays
abbrev pub IsEmptyExample : Type 0
IsEmptyExample = IsTag (codes "<br a=" ++ quoted (codes "&#xd;A&#xa;") ++ codes " />") (record {
  name = codes "br";
  attributes = record { name = codes "a"; value = 13 ∷ 65 ∷ 10 ∷ [] } ∷ [];
  kind = Empty;
})

abbrev on : ℕ → Tokens.Said → Token
on line said = record { said = said; line = line }

-- a document (section 2.1), with what sections 2.5, 2.6 and 2.7 add: a comment, an instruction, a section, and a line
abbrev pub IsDocumentExample : Type 0
IsDocumentExample =
    IsBody 1 (10 ∷ codes "<greeting>Hi<!-- B -->&lt;<![CDATA[<]]>" ++ 10 ∷ codes "</greeting><?x y?>")
    (on 2 (Tokens.Open (codes "greeting") []) ∷ on 3 (Tokens.Text (codes "Hi<<" ++ 10 ∷ [])) ∷ on 3 Tokens.Close ∷ [])
