-- Texts of answers, computed from the definitions.
use Rattle.std.specs.Prelude.{◌≡◌, ℕ, true, List, [], ◌∷◌, ◌++◌, codes, None, Some}
use Rattle.idn_text.specs.Points.{utf8_of}
use Rattle.idn_text.specs.declared.refusal.Refusal.TheVariants.{NotUtf8, LineTooLong, Disallowed, NotNfc, Bidi}
use Rattle.idn_text.specs.declared.refusal.Refusal.TheVariants.{BadALabel, LookupLength, NotValid, Syntax}
use Rattle.answer_json.specs.Answers.{Answer, json_of, text_of}
use Rattle.answer_json.specs.Details.{Details, no_details}
use Rattle.answer_json.specs.Inputs.{as_text, as_octets, not_kept}
use Rattle.answer_json.specs.Objects.{looked_up, registered, decoded, refused, variant, trailer, pair, idle, checked}
use Rattle.answer_json.specs.Objects.{table_fault, collision}
use Rattle.answer_json.specs.declared.block.Disposition.TheVariants.{Allocatable, Unclear}
use Rattle.answer_json.specs.declared.collision.Regard.TheVariants.{NoVariant}
use Rattle.answer_json.specs.declared.collision.Regard.TheVariants as regard
use Rattle.answer_json.specs.declared.checked.PairFinding.TheVariants.{Missing, Differs}

-- an answer and its text
pub record Row : Type 0 where
  pub answer : Answer
  pub text : List ℕ

abbrev pub HaveTexts : List Row → Type 0
HaveTexts [] = Unit {0}
HaveTexts (row ∷ rows) = (text_of (json_of row.answer) ≡ row.text) × HaveTexts rows

-- a code point at a place, which a rule bars
abbrev pub barred : ℕ → ℕ → List ℕ → Details
barred point place rule = record no_details { code_point = Some point; place = Some place; rule = Some rule }

-- ---- what is escaped (RFC 8259, section 7): the quotation mark, the backslash, and what is below the space

abbrev pub escapes : List Row
escapes =
    record {
      answer = looked_up 1 (as_text (codes "a\"b.de")) (codes "a\"b.de");
      text = codes "{\"line\":1,\"input\":\"a\\\"b.de\",\"ascii\":\"a\\\"b.de\"}";
    }
    ∷ record {
      answer = refused 1 (as_text (codes "a\\b")) Disallowed (barred 0x5C 2 (codes "RFC 5892 2.1"));
      text =
          codes "{\"line\":1,\"input\":\"a\\\\b\",\"refusal\":{\"number\":10,\"text\":\"disallowed code point\","
          ++ codes "\"code_point\":\"U+005C\",\"place\":2,\"rule\":\"RFC 5892 2.1\"}}";
    }
    ∷ record {
      answer = refused 1 (as_text (0x61 ∷ 9 ∷ 0x62 ∷ [])) Disallowed (barred 9 2 (codes "RFC 5892 2.3"));
      text =
          codes "{\"line\":1,\"input\":\"a\\tb\",\"refusal\":{\"number\":10,\"text\":\"disallowed code point\","
          ++ codes "\"code_point\":\"U+0009\",\"place\":2,\"rule\":\"RFC 5892 2.3\"}}";
    }
    ∷ record {
      answer = refused 1 (as_text (0x61 ∷ 1 ∷ [])) Disallowed (barred 1 2 (codes "RFC 5892 2.1"));
      text =
          codes "{\"line\":1,\"input\":\"a\\u0001\",\"refusal\":{\"number\":10,\"text\":\"disallowed code point\","
          ++ codes "\"code_point\":\"U+0001\",\"place\":2,\"rule\":\"RFC 5892 2.1\"}}";
    }
    ∷ []

-- ---- answers to lines

abbrev pub answers : List Row
answers =
    record {
      answer = registered 1 (as_text (codes "xn--fa-hia")) (utf8_of (codes "faß")) (codes "xn--fa-hia");
      text = utf8_of (codes "{\"line\":1,\"input\":\"xn--fa-hia\",\"ulabel\":\"faß\",\"alabel\":\"xn--fa-hia\"}");
    }
    ∷ record {
      answer = looked_up 1 (as_text (utf8_of (codes "Faß.de"))) (codes "xn--fa-hia.de");
      text = utf8_of (codes "{\"line\":1,\"input\":\"Faß.de\",\"ascii\":\"xn--fa-hia.de\"}");
    }
    ∷ record {
      answer = decoded 1 (as_text (codes "XN--FA-HIA.de")) (utf8_of (codes "faß.de"));
      text = utf8_of (codes "{\"line\":1,\"input\":\"XN--FA-HIA.de\",\"unicode\":\"faß.de\"}");
    }
    ∷ record {
      answer = variant 1 (utf8_of (codes "straße")) (codes "xn--strae-oqa") (Some Allocatable);
      text =
          utf8_of
          (codes "{\"line\":1,\"ulabel\":\"straße\",\"alabel\":\"xn--strae-oqa\",\"disposition\":\"allocatable\"}");
    }
    ∷ record {
      answer = variant 1 (codes "cb") (codes "cb") (Some Unclear);
      text = codes "{\"line\":1,\"ulabel\":\"cb\",\"alabel\":\"cb\",\"disposition\":\"blocked\",\"unclear\":true}";
    }
    ∷ record {
      answer = variant 1 (utf8_of (codes "中国")) (codes "xn--fiqs8s") None;
      text = utf8_of (codes "{\"line\":1,\"ulabel\":\"中国\",\"alabel\":\"xn--fiqs8s\"}");
    }
    ∷ record {
      answer =
          collision 1 (utf8_of (codes "ςα")) (codes "xn--mxa7a")
          (record { there = NoVariant; back = regard.Allocatable });
      text =
          utf8_of (codes "{\"line\":1,\"ulabel\":\"ςα\",\"alabel\":\"xn--mxa7a\",")
          ++ codes "\"there\":\"none\",\"back\":\"allocatable\"}";
    }
    ∷ record {
      answer = trailer 1 (as_text (utf8_of (codes "straße"))) 2 None;
      text = utf8_of (codes "{\"line\":1,\"input\":\"straße\",\"count\":2,\"complete\":true}");
    }
    ∷ record {
      answer = trailer 1 (as_text (codes "strasse")) 1 (Some (codes "strasse"));
      text = codes "{\"line\":1,\"input\":\"strasse\",\"count\":1,\"complete\":false,\"after\":\"strasse\"}";
    }
    ∷ []

-- ---- refusals

abbrev pub refusals : List Row
refusals =
    record {
      answer = refused 1 (as_text (utf8_of (codes "Faß"))) Disallowed (barred 0x46 1 (codes "RFC 5892 2.2"));
      text =
          utf8_of (codes "{\"line\":1,\"input\":\"Faß\",\"refusal\":{\"number\":10,\"text\":\"disallowed code point\",")
          ++ codes "\"code_point\":\"U+0046\",\"place\":1,\"rule\":\"RFC 5892 2.2\"}}";
    }
    ∷ record {
      answer =
          refused 1 (as_text (utf8_of (0x78 ∷ 0x61 ∷ 0x301 ∷ []))) NotNfc
          (record no_details { code_point = Some 0x61; place = Some 2; nfc = Some 0xE1 });
      text =
          codes "{\"line\":1,\"input\":\"" ++ utf8_of (0x78 ∷ 0x61 ∷ 0x301 ∷ [])
          ++ codes "\",\"refusal\":{\"number\":12,\"text\":\"not in NFC\",\"code_point\":\"U+0061\",\"place\":2,"
          ++ codes "\"nfc\":\"U+00E1\"}}";
    }
    ∷ record {
      answer =
          refused 1 (as_text (utf8_of (0x61 ∷ 0x62 ∷ 0x5D0 ∷ []))) Bidi
          (record (barred 0x5D0 3 (codes "RFC 5893 2 condition 5")) { bidi_class = Some (codes "R") });
      text =
          codes "{\"line\":1,\"input\":\"" ++ utf8_of (0x61 ∷ 0x62 ∷ 0x5D0 ∷ [])
          ++ codes "\",\"refusal\":{\"number\":17,\"text\":\"Bidi rule broken\",\"code_point\":\"U+05D0\",\"place\":3,"
          ++ codes "\"rule\":\"RFC 5893 2 condition 5\",\"bidi_class\":\"R\"}}";
    }
    ∷ record {
      answer = refused 1 (as_text (codes "xn--a-")) BadALabel (record no_details { alabel = Some (codes "a") });
      text =
          codes
          "{\"line\":1,\"input\":\"xn--a-\",\"refusal\":{\"number\":19,\"text\":\"not an A-label\",\"alabel\":\"a\"}}";
    }
    ∷ record {
      answer =
          refused 1 (as_text (codes "xn--4db.xn--ls8h")) Disallowed
          (record (barred 0x1F4A9 1 (codes "RFC 5892 2.1")) { label = Some 2; decoded = true });
      text =
          codes
          "{\"line\":1,\"input\":\"xn--4db.xn--ls8h\",\"refusal\":{\"number\":10,\"text\":\"disallowed code point\","
          ++ codes "\"label\":2,\"decoded\":true,\"code_point\":\"U+1F4A9\",\"place\":1,\"rule\":\"RFC 5892 2.1\"}}";
    }
    ∷ record {
      answer = refused 1 (as_text (codes "a..b")) LookupLength (record no_details { label = Some 2; octets = Some 0 });
      text =
          codes "{\"line\":1,\"input\":\"a..b\",\"refusal\":{\"number\":21,\"text\":\"name or label length\","
          ++ codes "\"label\":2,\"octets\":0}}";
    }
    ∷ record {
      answer = refused 1 (as_octets (0x61 ∷ 0x62 ∷ 0xFF ∷ 0x63 ∷ [])) NotUtf8 (record no_details { byte = Some 3 });
      text =
          codes "{\"line\":1,\"input_hex\":\"6162FF63\",\"refusal\":{\"number\":1,\"text\":\"not UTF-8\",\"byte\":3}}";
    }
    ∷ record {
      answer = refused 1 not_kept LineTooLong no_details;
      text = codes "{\"line\":1,\"input\":null,\"refusal\":{\"number\":2,\"text\":\"line too long\"}}";
    }
    ∷ []

-- ---- refusals by a ruleset

-- of this line by this cause, which is told so
abbrev pub not_valid : List ℕ → Details → List ℕ → Row
not_valid label details told =
    record {
      answer = refused 1 (as_text (utf8_of label)) NotValid details;
      text =
          codes "{\"line\":1,\"input\":\"" ++ utf8_of label
          ++ codes "\",\"refusal\":{\"number\":41,\"text\":\"not valid under the table\"," ++ told ++ codes "}}";
    }

-- a code point at a place
abbrev pub found : ℕ → ℕ → Details
found point place = record no_details { code_point = Some point; place = Some place }

abbrev pub by_rulesets : List Row
by_rulesets =
    not_valid (0x430 ∷ 0x62 ∷ [])
    (record (found 0x430 1) { default_action = Some 1; type_name = Some (codes "invalid") })
    (codes "\"code_point\":\"U+0430\",\"place\":1,\"default_action\":1,\"type\":\"invalid\"")
    ∷ not_valid (0x62 ∷ 0x430 ∷ []) (record (found 0x430 2) { action = Some 1; type_name = Some (codes "oor") })
    (codes "\"code_point\":\"U+0430\",\"place\":2,\"action\":1,\"type\":\"oor\"")
    ∷ not_valid (0x31 ∷ 0x968 ∷ [])
    (record no_details { condition = Some (codes "when"); rule = Some (codes "mixed"); action = Some 1 })
    (codes "\"condition\":\"when\",\"rule\":\"mixed\",\"action\":1")
    ∷ not_valid (codes "a") (record no_details { action = Some 2 }) (codes "\"action\":2")
    ∷ not_valid (codes "ab") (record no_details { unclear = true }) (codes "\"unclear\":true")
    ∷ []

-- ---- tables

abbrev pub tables : List Row
tables =
    record {
      answer = pair Missing (codes "00DF") (codes "0073-0073");
      text = codes "{\"source\":\"00DF\",\"missing\":\"0073-0073\"}";
    }
    ∷ record {
      answer = pair Differs (codes "03C2") (codes "03C3");
      text = codes "{\"source\":\"03C2\",\"differs\":\"03C3\"}";
    }
    ∷ record { answer = idle (codes "t"); text = codes "{\"idle\":\"t\"}" }
    ∷ record { answer = checked 2 1; text = codes "{\"entries\":2,\"gaps\":1}" }
    ∷ record {
      answer = table_fault 2 Syntax no_details;
      text = codes "{\"table_line\":2,\"refusal\":{\"number\":30,\"text\":\"table syntax\"}}";
    }
    ∷ []
