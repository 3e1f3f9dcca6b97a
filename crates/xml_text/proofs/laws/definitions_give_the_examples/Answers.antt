use Rattle.std.proofs.Common.{ℕ, List, [], ◌∷◌, map, inl, inr, refl}
use Rattle.std.specs.Char.{encode_utf8}
use Rattle.std.specs.Prelude.{codes}
use Rattle.xml_text.specs.declared.attribute.TagKind.TheVariants.{Start}
use Rattle.xml_text.specs.declared.quote.Quote.TheVariants.{Double}
use Rattle.xml_text.specs.Documents as documents
use Rattle.xml_text.specs.Documents.{IsElement}
use Rattle.xml_text.specs.Pieces
use Rattle.xml_text.specs.References.{referenced}
use Rattle.xml_text.specs.Tags.{Part, Written}
use Rattle.xml_text.specs.Tags
use Rattle.xml_text.proofs.laws.definitions_give_the_examples.Goals as goal

plain : List ℕ → List Part
plain bytes = map (λ b. Tags.Plain b) bytes

abbrev of : List ℕ → List Part → Written
of name parts = record { before = 32 ∷ []; name = name; left = []; right = []; quote = Double; parts = parts }

pub returns-clause-start : goal.returns-clause-start
unfolding plain
returns-clause-start c = record {
  written = of (codes "id") (plain (codes "dt-dog")) ∷ of (codes "term") (plain (codes "dog")) ∷ [];
  blanks = [];
  spelled = refl;
  name = refl;
  attributes = refl;
  each = (
    record { separated = λ e. cc; before = refl; name = refl; left = refl; right = refl; parts = refl },
    (record { separated = λ e. cc; before = refl; name = refl; left = refl; right = refl; parts = refl }, tt),
  );
  new = (refl, (refl, tt));
  after = refl;
}

pub returns-clause-empty : goal.returns-clause-empty
unfolding referenced encode_utf8
returns-clause-empty c = record {
  written = of (codes "a") (Tags.Reference (codes "#xd") ∷ Tags.Plain 65 ∷ Tags.Reference (codes "#xa") ∷ []) ∷ [];
  blanks = 32 ∷ [];
  spelled = refl;
  name = refl;
  attributes = refl;
  each = (record { separated = λ e. cc; before = refl; name = refl; left = refl; right = refl; parts = refl }, tt);
  new = (refl, tt);
  after = refl;
}

abbrev byte : ℕ → documents.Written
byte b = record { text = b ∷ []; piece = Pieces.Character (Tags.Plain b) }

abbrev open_ : documents.Written
open_ = record { text = codes "<greeting>"; piece = Pieces.Opened (record { name = codes "greeting"; attributes = []; kind = Start }) }

abbrev comment : documents.Written
comment = record { text = codes "<!-- B -->"; piece = Pieces.Comment }

abbrev less : documents.Written
less = record { text = codes "&lt;"; piece = Pieces.Character (Tags.Reference (codes "lt")) }

abbrev section : documents.Written
section = record { text = codes "<![CDATA[<]]>"; piece = Pieces.Section (codes "<") }

abbrev close : documents.Written
close = record { text = codes "</greeting>"; piece = Pieces.Closed (codes "greeting") }

abbrev instruction : documents.Written
instruction = record { text = codes "<?x y?>"; piece = Pieces.Instruction }

pub returns-clause-document : goal.returns-clause-document
unfolding referenced encode_utf8 IsElement
returns-clause-document c = record {
  before = byte 10 ∷ [];
  element = open_ ∷ byte 72 ∷ byte 105 ∷ comment ∷ less ∷ section ∷ byte 10 ∷ close ∷ [];
  after = instruction ∷ [];
  spelled = refl;
  pieces = (
    (refl, refl),
    (
      record { written = []; blanks = []; spelled = refl; name = refl; attributes = refl; each = tt; new = tt; after = refl },
      (
        (refl, refl),
        (
          (refl, refl),
          (
            (codes " B ", refl, refl),
            (
              (refl, refl),
              (
                (refl, refl),
                (
                  (refl, refl),
                  (
                    ([], refl, refl),
                    (record { target = codes "x"; body = codes " y"; spelled = refl; name = refl; other = refl; separated = refl; ends = refl }, tt),
                  ),
                ),
              ),
            ),
          ),
        ),
      ),
    ),
  );
  data_ends = refl;
  prolog = refl;
  root = inr (record {
    open_ = open_;
    content = byte 72 ∷ byte 105 ∷ comment ∷ less ∷ section ∷ byte 10 ∷ [];
    close = close;
    tag = record { name = codes "greeting"; attributes = []; kind = Start };
    is = refl;
    opens = refl;
    starts = refl;
    inside = (
      (byte 72 ∷ []) ∷ (byte 105 ∷ []) ∷ (comment ∷ []) ∷ (less ∷ []) ∷ (section ∷ []) ∷ (byte 10 ∷ []) ∷ [],
      refl,
      (
        inl (byte 72, refl, refl),
        (inl (byte 105, refl, refl), (inl (comment, refl, refl), (inl (less, refl, refl), (inl (section, refl, refl), (inl (byte 10, refl, refl), tt))))),
      ),
    );
    closes = refl;
  });
  epilog = refl;
  says = refl;
}
