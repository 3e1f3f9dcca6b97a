-- Examples of elements and values, as RFC 7940 writes them.
use Rattle.std.specs.Prelude.{◌≡◌, ℕ, Some, None, List, [], ◌∷◌, codes}
use Rattle.label_patterns.specs.declared.condition.ConditionKind.TheVariants.{When, Unless}
use Rattle.ruleset_text.specs.declared.action.TriggerKind.TheVariants.{Any}
use Rattle.xml_text.specs.Attributes.{Attribute}
use Rattle.lgr_text.specs.Actions.{action_of}
use Rattle.lgr_text.specs.Elements.{Nothing, Text, Element}
use Rattle.lgr_text.specs.Entries.{entry_of}
use Rattle.lgr_text.specs.Records.{Sequence, Range}
use Rattle.lgr_text.specs.Values.{spans, count}

abbrev has : List ℕ → List ℕ → Attribute
has name value = record { name = name; value = value }

-- the code points and ranges of a class (section 6.2.4)
abbrev pub IsSpansExample : Type 0
IsSpansExample =
    spans (codes "0061 0063-0070")
    ≡ Some (record { first = 0x61; last = 0x61 } ∷ record { first = 0x63; last = 0x70 } ∷ [])

-- a range that is cut, one that ends before it begins, and digits in lower case
abbrev pub AreNoSpans : Type 0
AreNoSpans = (spans (codes "0061- 0063") ≡ None) × (spans (codes "0063-0061") ≡ None) × (spans (codes "00e4") ≡ None)

-- counts (section 6.3.3)
abbrev pub AreCountExamples : Type 0
AreCountExamples =
    (count (codes "2") ≡ Some (record { least = 2; most = Some 2 }))
    × (count (codes "0:3") ≡ Some (record { least = 0; most = Some 3 }))
    × (count (codes "1+") ≡ Some (record { least = 1; most = None }))
    × (count (codes "2:1") ≡ None) × (count (codes "0") ≡ None) × (count (codes "+") ≡ None)

-- <char cp="00E4" tag="umlaut" not-when="after-a"> with a line feed, <var cp="0061 0065" type="blocked" comment="ae"/>
-- and </char> (section 5)
abbrev pub IsEntryExample : Type 0
IsEntryExample =
    entry_of (record {
      name = codes "char";
      attributes = has (codes "cp") (codes "00E4") ∷ has (codes "tag") (codes "umlaut")
          ∷ has (codes "not-when") (codes "after-a") ∷ [];
      within = Text (10 ∷ []) (Element (codes "var") (has (codes "cp") (codes "0061 0065")
          ∷ has (codes "type") (codes "blocked") ∷ has (codes "comment") (codes "ae") ∷ []) Nothing Nothing);
    })
    ≡ Some (record {
      source = Sequence (0xE4 ∷ []);
      condition = Some (record { kind = Unless; rule = codes "after-a" });
      tags = codes "umlaut" ∷ [];
      variants = record { points = 0x61 ∷ 0x65 ∷ []; type_name = Some (codes "blocked"); condition = None } ∷ [];
    })

-- <range first-cp="0030" last-cp="0039"/> (section 5)
abbrev pub IsRangeExample : Type 0
IsRangeExample =
    entry_of (record {
      name = codes "range";
      attributes = has (codes "first-cp") (codes "0030") ∷ has (codes "last-cp") (codes "0039") ∷ [];
      within = Nothing;
    })
    ≡ Some (record {
      source = Range (record { first = 0x30; last = 0x39 });
      condition = None;
      tags = [];
      variants = [];
    })

-- a sequence has no tag
abbrev pub IsNoEntry : Type 0
IsNoEntry = entry_of (record {
  name = codes "char";
  attributes = has (codes "cp") (codes "0061 0065") ∷ has (codes "tag") (codes "t") ∷ [];
  within = Nothing;
}) ≡ None

-- <action disp="invalid" match="r" any-variant="x y"/> (section 7)
abbrev pub IsActionExample : Type 0
IsActionExample =
    action_of (record {
      name = codes "action";
      attributes = has (codes "disp") (codes "invalid") ∷ has (codes "match") (codes "r")
          ∷ has (codes "any-variant") (codes "x y") ∷ [];
      within = Nothing;
    })
    ≡ Some (record {
      disposition = codes "invalid";
      condition = Some (record { kind = When; rule = codes "r" });
      trigger = Some (record { kind = Any; types = codes "x" ∷ codes "y" ∷ [] });
    })
