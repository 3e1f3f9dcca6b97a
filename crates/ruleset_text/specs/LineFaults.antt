-- Faults of a line that its form alone doesn't show, and where it has them. Places are bytes of the line, counted from
-- 0.
use Rattle.std.specs.Prelude.{◌≡◌, ◌≢◌, ℕ, nat_le, Option, Some, None, List, [], ◌∷◌, ◌++◌, length, if◌then◌else◌}
use Rattle.std.specs.List.{AllByRecursion}
use Rattle.std.specs.Option.{option_or}
use Rattle.ruleset_text.specs.declared.fault.FaultPlace.{FaultPlace}
use Rattle.ruleset_text.specs.declared.fault.FaultPlace.TheVariants.{Lexeme, Point}
use Rattle.ruleset_text.specs.declared.token.Token.{Token}
use Rattle.ruleset_text.specs.declared.token.Token.TheVariants as token
use Rattle.ruleset_text.specs.Classes.{is_bad_point}
use Rattle.ruleset_text.specs.EntryWords.{point_of}
use Rattle.ruleset_text.specs.Names.{is_one_of}
use Rattle.ruleset_text.specs.PlacedLexemes.{Placed}
use Rattle.ruleset_text.specs.Tokens.{token_of}
use Rattle.idn_class.specs.declared.properties.Properties.{Properties}

abbrev pub lexeme_place : Placed → FaultPlace
lexeme_place w = Lexeme w.place (length w.lexeme)

-- what is told of the first of these of which something is told
abbrev pub first_told : {X : Type 0} → (X → Option FaultPlace) → List X → Option FaultPlace
first_told f [] = None
first_told f (w ∷ ws) = option_or (f w) (first_told f ws)

-- one that has it, and none before it does
pub record IsFirst {X : Type 0} (Has : X → Type 0) (xs : List X) (x : X) : Type 0 where
  pub before : List X
  pub after : List X
  pub cut : xs ≡ before ++ x ∷ after
  pub earlier : AllByRecursion (λ y. Has y → ⊥) before
  pub has : Has x

-- it is told of one, and of none before it anything
abbrev pub IsFirstTold : {X : Type 0} → (X → Option FaultPlace) → List X → FaultPlace → Type 0
IsFirstTold {X} f ws place = (w : X) × IsFirst (λ v. f v ≢ None) ws w × (f w ≡ Some place)

-- a name that is none of these
abbrev pub unknown_in : List (List ℕ) → List ℕ → Placed → Option FaultPlace
unknown_in names name w = if is_one_of names name then None else Some (lexeme_place w)

-- a code point that no label has
abbrev pub bad_place : Properties → ℕ → Option ℕ → Option FaultPlace
bad_place properties place None = None
bad_place properties place (Some c) = if is_bad_point properties c then Some (Point place c) else None

abbrev pub first_bad : Properties → List Placed → Option FaultPlace
first_bad properties ws = first_told (λ w. bad_place properties w.place (point_of w.lexeme)) ws

-- a set that is none of so many
abbrev pub unknown_place : ℕ → FaultPlace → Token → Option FaultPlace
unknown_place sets at (token.Set n) = if nat_le sets n then Some at else None
unknown_place sets at t = None

-- the first by a name that is none of these
abbrev pub first_unknown : List (List ℕ) → List Placed → Option FaultPlace
first_unknown names ws = first_told (λ w. unknown_place (length names) (lexeme_place w) (token_of names w.lexeme)) ws
