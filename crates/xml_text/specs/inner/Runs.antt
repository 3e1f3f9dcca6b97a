-- Reading by runs: bytes in a row that are read at once, and lead where they lead one after another.
use Rattle.std.specs.Prelude.{◌≡◌, ℕ, ◌<◌, ◌≤◌, Bool, true, false, ◌==◌, ◌&&◌, not, Option, Some, None}
use Rattle.std.specs.Prelude.{List, ◌∷◌, ◌++◌, length, take, drop}
use Rattle.std.specs.List.{list_all}
use Rattle.idn_text.specs.Stops.{run}
use Rattle.xml_text.specs.declared.quote.Quote.{Quote}
use Rattle.xml_text.specs.declared.run.Run.{Run}
use Rattle.xml_text.specs.declared.run.Run.TheVariants as runs
use Rattle.xml_text.specs.Names.{is_name_byte}
use Rattle.xml_text.specs.Tags.{quote_byte}

-- ---- which bytes

-- no end of a line
abbrev pub is_in_line : ℕ → Bool
is_in_line b = not (b == 10) && not (b == 13)

-- a byte is read with those before it
abbrev pub goes_on : Run → ℕ → Bool
goes_on runs.Name b = is_name_byte b
goes_on (runs.Value q) b =
    not (b == quote_byte q) && not (b == 60) && not (b == 38) && not (b == 9) && is_in_line b
goes_on runs.Text b = not (b == 60) && not (b == 38) && not (b == 62) && not (b == 93) && is_in_line b
goes_on runs.Section b = not (b == 93) && is_in_line b
goes_on runs.Comment b = not (b == 45) && is_in_line b
goes_on runs.Instruction b = not (b == 63) && is_in_line b

-- the text begins with '=' and this value, each byte of which stands for itself between its quotes
pub record IsPlainValue (text value : List ℕ) : Type 0 where
  pub quote : Quote
  pub rest : List ℕ
  pub spelled : text ≡ 61 ∷ quote_byte quote ∷ value ++ quote_byte quote ∷ rest
  pub plain : list_all (goes_on (runs.Value quote)) value ≡ true

-- ---- states

-- the state after a byte that may stand there
abbrev pub taken_as : {S : Type 0} → Bool → S → Option S
taken_as true s = Some s
taken_as false s = None

-- so many bytes, all on one line but for the first, after which the state is this one if there is one
pub record IsTaken {S : Type 0} (step : S → ℕ → Option S) (first : Option S) (bytes : List ℕ) (n : ℕ) (s : S)
    : Type 0 where
  pub some : 0 < n
  pub within : n ≤ length bytes
  pub line : list_all is_in_line (drop 1 (take n bytes)) ≡ true
  pub leads : run step first (drop 1 (take n bytes)) ≡ Some s

-- so many bytes of one line lead from a state to another
pub record GoesOn {S : Type 0} (step : S → ℕ → Option S) (s : S) (bytes : List ℕ) (n : ℕ) (t : S) : Type 0 where
  pub within : n ≤ length bytes
  pub line : list_all is_in_line (take n bytes) ≡ true
  pub leads : run step (Some s) (take n bytes) ≡ Some t

-- so many bytes were taken and lead to the state; or none, since the first may not stand there
abbrev pub Takes : {S : Type 0} → (S → ℕ → Option S) → Option S → List ℕ → Option ℕ → S → Type 0
Takes step first bytes None s = first ≡ None
Takes step first bytes (Some n) s = IsTaken step first bytes n s
