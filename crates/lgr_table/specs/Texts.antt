-- Which table a text in XML says (RFC 7940), and what is told of a text that says none.
use Rattle.std.specs.Prelude.{◌≡◌, ◌⊎◌, ℕ, true, List, map}
use Rattle.idn_class.specs.declared.properties.Properties.{Properties}
use Rattle.lgr_text.specs.Documents.{Says}
use Rattle.lgr_text.specs.Records.{Ruleset, file}
use Rattle.lgr_text.specs.Sizes.{exceeds}
use Rattle.lgr_text.specs.declared.records.Ruleset as held
use Rattle.lgr_table.specs.Faults.{AreFaultless, IsFaultOfTable}
use Rattle.lgr_table.specs.Tables.{IsTableOf, may_stand}
use Rattle.lgr_table.specs.declared.fault.TableError.{TableError}
use Rattle.lgr_table.specs.declared.fault.TableError.TheVariants as error
use Rattle.lgr_table.specs.declared.fault.TableFault.TheVariants.{Limit, Syntax}
use Rattle.variant_table.specs.Entries.{TableValue}
use Rattle.xml_text.specs.Files.{IsDocument, IsFault}
use Rattle.xml_text.specs.Tokens.{Token}
use Rattle.xml_text.specs.declared.fault.DocumentError.{DocumentError}
use Rattle.xml_text.specs.declared.fault.DocumentError.TheVariants.{TooLong, NoCharacter, Declaration, Stop, Memory}

-- the text is a document, whose tokens say this ruleset
pub record SaysRuleset (text : List ℕ) (r : Ruleset) : Type 0 where
  pub tokens : List Token
  pub document : IsDocument text tokens
  pub says : Says tokens r

-- the text says a ruleset, whose definitions have no fault, and the table says what that says
pub record IsTableOfText (properties : Properties) (text : List ℕ) (t : TableValue) : Type 0 where
  pub ruleset_ : Ruleset
  pub said : SaysRuleset text ruleset_
  pub is : IsTableOf properties ruleset_ t
  pub faultless : (r : held.Ruleset) × (file r ≡ ruleset_) × AreFaultless (may_stand properties) r

-- ---- a text that has no table

-- what is told of a text that is no document: the line on which it is none
abbrev pub document_error : DocumentError → TableError
document_error TooLong = error.Fault Limit 1
document_error (NoCharacter place) = error.Fault Syntax place.line
document_error Declaration = error.Fault Syntax 1
document_error (Stop place) = error.Fault Syntax place.line
document_error Memory = error.Memory

abbrev pub IsNoDocument : List ℕ → TableError → Type 0
IsNoDocument text e = (f : DocumentError) × IsFault text f × (e ≡ document_error f)

-- the text is a document, and says no ruleset
pub record SaysNoRuleset (text : List ℕ) (e : TableError) : Type 0 where
  pub tokens : List Token
  pub document : IsDocument text tokens
  pub none : (r : Ruleset) → Says tokens r → ⊥
  pub line : ℕ
  pub told : e ≡ error.Fault Syntax line

-- the text is a document, and one of its elements has too many in it
pub record HasTooMuch (text : List ℕ) (e : TableError) : Type 0 where
  pub tokens : List Token
  pub document : IsDocument text tokens
  pub more : exceeds 0 0 (map (λ t. t.said) tokens) ≡ true
  pub line : ℕ
  pub told : e ≡ error.Fault Limit line

-- the text gives no ruleset: memory was refused; or it is no document, or one that says none or has too much in an
-- element
abbrev pub HasNoRuleset : List ℕ → TableError → Type 0
HasNoRuleset text e = (e ≡ error.Memory) ⊎ (IsNoDocument text e ⊎ (SaysNoRuleset text e ⊎ HasTooMuch text e))

-- the text says a ruleset, which has this fault. Which lines its elements have isn't said
pub record SaysFaulty (properties : Properties) (text : List ℕ) (e : TableError) : Type 0 where
  pub ruleset_ : held.Ruleset
  pub said : SaysRuleset text (file ruleset_)
  pub told : IsFaultOfTable (may_stand properties) ruleset_ e

-- the error is told of the text
abbrev pub IsToldOf : Properties → List ℕ → TableError → Type 0
IsToldOf properties text e = HasNoRuleset text e ⊎ SaysFaulty properties text e
