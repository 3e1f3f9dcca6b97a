-- Reading a line lexeme by lexeme, and where it stops being what it is to be. Places are bytes of the line, counted
-- from 0.
use Rattle.std.specs.Prelude.{◌≡◌, ℕ, Option, Some, None, Result, Ok, Err, List, [], ◌∷◌, ◌++◌, length}
use Rattle.ruleset_text.specs.declared.fault.DefinitionFault.TheVariants as fault
use Rattle.ruleset_text.specs.declared.fault.DefinitionRefusal.{DefinitionRefusal}
use Rattle.ruleset_text.specs.declared.fault.FaultPlace.{FaultPlace}
use Rattle.ruleset_text.specs.declared.fault.FaultPlace.TheVariants.{Lexeme, End}
use Rattle.ruleset_text.specs.declared.fault.ReadError.{ReadError}
use Rattle.ruleset_text.specs.declared.fault.ReadError.TheVariants as unread
use Rattle.ruleset_text.specs.PlacedLexemes.{Placed, unplaced}
use Rattle.idn_text.specs.Stops.{IsStop}

-- ---- the law

-- the first byte of the first of these lexemes, and how many bytes it has; the end of the line, if there is none
abbrev pub place_of : ℕ → List Placed → FaultPlace
place_of end [] = End end
place_of end (w ∷ ws) = Lexeme w.place (length w.lexeme)

-- something that is so begins with the lexemes before the place, and nothing goes on with the one that stands there; or
-- the line ends there, at so many bytes, before it is complete
pub record IsLineStop (Is : List (List ℕ) → Type 0) (ws : List Placed) (end : ℕ) (place : FaultPlace) : Type 0 where
  pub before : List Placed
  pub after : List Placed
  pub cut : ws ≡ before ++ after
  pub told : place ≡ place_of end after
  pub stop : IsStop Is (unplaced before) (unplaced after)

-- ---- a reader by steps

abbrev pub or_end : {A : Type 0} → ℕ → Option A → Result A FaultPlace
or_end end None = Err (End end)
or_end end (Some a) = Ok a

-- what the state after a lexeme leads to, or the lexeme where there is none
abbrev pub at_lexeme : {S A : Type 0} → Placed → (S → Result A FaultPlace) → Option S → Result A FaultPlace
at_lexeme w go None = Err (Lexeme w.place (length w.lexeme))
at_lexeme w go (Some s) = go s

-- what is read from a state on, to the end of a line of so many bytes; or where reading stops
abbrev pub read_from : {S A : Type 0} → (S → List ℕ → Option S) → (S → Option A) → ℕ → S → List Placed →
    Result A FaultPlace
read_from step ended end s [] = or_end end (ended s)
read_from step ended end s (w ∷ ws) = at_lexeme w (λ t. read_from step ended end t ws) (step s w.lexeme)

-- what f makes of what is read, or the place
abbrev pub map_read : {X Y : Type 0} → (X → Y) → Result X FaultPlace → Result Y FaultPlace
map_read f (Ok x) = Ok (f x)
map_read f (Err place) = Err place

-- ---- a call that reads

-- the place, unless memory was refused
abbrev pub StopsAt : {Y : Type 0} → ReadError → Result Y FaultPlace → Type 0
StopsAt (unread.Stop place) read = read ≡ Err place
StopsAt unread.Memory read = Unit {0}

-- it gives what is read, or the place
abbrev pub Gives : {X Y : Type 0} → (X → Y) → Result X ReadError → Result Y FaultPlace → Type 0
Gives view (Ok x) read = read ≡ Ok (view x)
Gives view (Err error) read = StopsAt error read

abbrev pub refusal_of : ReadError → DefinitionRefusal
refusal_of (unread.Stop place) = record { fault = fault.Syntax; place = Some place }
refusal_of unread.Memory = record { fault = fault.Memory; place = None }
