-- Examples of classes and rules, as RFC 7940 writes them in its sections 6.2 to 6.4.
use Rattle.std.specs.Prelude.{◌≡◌, ℕ, Some, None, List, [], ◌∷◌, codes}
use Rattle.xml_text.specs.Attributes.{Attribute}
use Rattle.lgr_text.specs.Definitions.{definition_of}
use Rattle.lgr_text.specs.Elements.{Content, Nothing, Text, Element, Node}
use Rattle.lgr_text.specs.Records.{Listed, OfTag, OfClass, Joined, Complement, IsClass, IsRule, Literal, Any, Of, Start}
use Rattle.lgr_text.specs.Records.{Anchor, Then, Choice, Times}
use Rattle.lgr_text.specs.declared.joins.SetOperation.TheVariants.{Union, Difference}

abbrev has : List ℕ → List ℕ → Attribute
has name value = record { name = name; value = value }

-- an element directly below 'rules'
abbrev below : List ℕ → List ℕ → Content → Node
below element name within =
    record { name = element; attributes = has (codes "name") name ∷ []; within = within }

-- <char cp="0061"/>, and what follows it
abbrev char_a : Content → Content
char_a rest = Element (codes "char") (has (codes "cp") (codes "0061") ∷ []) Nothing rest

-- <class by-ref=".."/>
abbrev class_named : List ℕ → Content → Content
class_named name rest = Element (codes "class") (has (codes "by-ref") name ∷ []) Nothing rest

abbrev holding : List ℕ → Content → Content → Content
holding element within rest = Element element [] within rest

abbrev plain : List ℕ → Content → Content
plain element rest = Element element [] Nothing rest

-- <class name="c">0061 0063-0070</class>, and <class name="c" from-tag="t"/> (sections 6.2.2 and 6.2.4)
abbrev pub AreClasses : Type 0
AreClasses =
    (definition_of (below (codes "class") (codes "c") (Text (codes "0061 0063-0070") Nothing)) ≡ Some (record {
      name = codes "c";
      meaning = IsClass (Listed (record { first = 0x61; last = 0x61 } ∷ record { first = 0x63; last = 0x70 } ∷ []));
    }))
    × (definition_of (record {
      name = codes "class";
      attributes = has (codes "name") (codes "c") ∷ has (codes "from-tag") (codes "t") ∷ [];
      within = Nothing;
    }) ≡ Some (record { name = codes "c"; meaning = IsClass (OfTag (codes "t")) }))

-- a union of three, a difference and a complement (section 6.2.5)
abbrev pub AreSets : Type 0
AreSets =
    (definition_of (below (codes "union") (codes "u")
    (class_named (codes "a") (class_named (codes "b") (class_named (codes "c") Nothing)))) ≡ Some (record {
      name = codes "u";
      meaning = IsClass (Joined Union (OfClass (codes "a")) (Joined Union (OfClass (codes "b")) (OfClass (codes "c"))));
    }))
    × (definition_of (below (codes "difference") (codes "d")
    (class_named (codes "a") (class_named (codes "b") Nothing)))
    ≡ Some (record {
      name = codes "d";
      meaning = IsClass (Joined Difference (OfClass (codes "a")) (OfClass (codes "b")));
    }))
    × (definition_of (below (codes "complement") (codes "k") (class_named (codes "a") Nothing)) ≡ Some (record {
      name = codes "k";
      meaning = IsClass (Complement (OfClass (codes "a")));
    }))

-- a union of one, a difference of three and a complement of two
abbrev pub AreNoSets : Type 0
AreNoSets =
    (definition_of (below (codes "union") (codes "u") (class_named (codes "a") Nothing)) ≡ None)
    × (definition_of (below (codes "difference") (codes "d")
    (class_named (codes "a") (class_named (codes "b") (class_named (codes "c") Nothing)))) ≡ None)
    × (definition_of (below (codes "complement") (codes "k")
    (class_named (codes "a") (class_named (codes "b") Nothing)))
    ≡ None)

-- letters, digits and hyphens, one or more (section 6.3.5)
abbrev pub IsChoice : Type 0
IsChoice =
    definition_of (below (codes "rule") (codes "ldh")
    (Element (codes "choice") (has (codes "count") (codes "1+") ∷ [])
    (class_named (codes "letter") (class_named (codes "digit") (char_a Nothing))) Nothing)) ≡ Some (record {
      name = codes "ldh";
      meaning = IsRule (Times (record { least = 1; most = None }) (Choice (Of (OfClass (codes "letter")))
          (Choice (Of (OfClass (codes "digit"))) (Literal (0x61 ∷ [])))));
    })

-- what starts with 'a'; and a place after an 'a' that starts the label, and before any code point (sections 6.3.8 and
-- 6.4.2)
abbrev pub AreRules : Type 0
AreRules =
    (definition_of (below (codes "rule") (codes "r") (plain (codes "start") (char_a Nothing))) ≡ Some (record {
      name = codes "r";
      meaning = IsRule (Then Start (Literal (0x61 ∷ [])));
    }))
    × (definition_of (below (codes "rule") (codes "r")
    (holding (codes "look-behind") (plain (codes "start") (char_a Nothing))
    (plain (codes "anchor") (holding (codes "look-ahead") (plain (codes "any") Nothing) Nothing)))) ≡ Some (record {
      name = codes "r";
      meaning = IsRule (Then (Then Start (Literal (0x61 ∷ []))) (Then Anchor Any));
    }))

-- nothing at all, the end of a label before an 'a', a choice of one, what looks behind after the anchor, and the anchor
-- in what looks ahead
abbrev pub AreNoRules : Type 0
AreNoRules =
    (definition_of (below (codes "rule") (codes "r") Nothing) ≡ None)
    × (definition_of (below (codes "rule") (codes "r") (plain (codes "end") (char_a Nothing))) ≡ None)
    × (definition_of (below (codes "rule") (codes "r") (holding (codes "choice") (char_a Nothing) Nothing)) ≡ None)
    × (definition_of (below (codes "rule") (codes "r")
    (plain (codes "anchor") (holding (codes "look-behind") (char_a Nothing) Nothing))) ≡ None)
    × (definition_of (below (codes "rule") (codes "r")
    (plain (codes "anchor") (holding (codes "look-ahead") (plain (codes "anchor") Nothing) Nothing))) ≡ None)
