-- What the types, the rules and the sets of a file are called in its table.
use Rattle.std.specs.Prelude.{◌≡◌, ℕ, Bool, true, false, ◌&&◌, ◌||◌, not, List, [], ◌∷◌, All, Option, Some}
use Rattle.std.specs.Prelude.{is_some, map, unwrap_or}
use Rattle.lgr_text.specs.Records.{Ruleset}
use Rattle.lgr_table.specs.Numbers.{number_among}
use Rattle.ruleset_text.specs.Definitions.{Definitions}
use Rattle.ruleset_text.specs.Names.{is_name, is_one_of}

-- the names of a file: its types, as they are numbered, and its classes and rules
pub record FileNames : Type 0 where
  pub types : List (Option (List ℕ))
  pub definitions : List (List ℕ)

abbrev pub names_with : List (Option (List ℕ)) → Ruleset → FileNames
names_with types r = record { types = types; definitions = map (λ d. d.name) r.definitions }

abbrev pub has_type : FileNames → List ℕ → Bool
has_type names name = is_some (number_among names.types (Some name))

abbrev pub has_name : FileNames → List ℕ → Bool
has_name names name = has_type names name || is_one_of names.definitions name

-- it has its name in the file, if it keeps that; else one that the file hasn't
pub record IsCalled (names : FileNames) (keeps : Bool) (name given : List ℕ) : Type 0 where
  pub kept : keeps ≡ true → given ≡ name
  pub other : keeps ≡ false → has_name names given ≡ false

-- each the one at the same place
abbrev pub AreCalled : FileNames → (List ℕ → Bool) → (of given : List (List ℕ)) → Type 0
AreCalled names keeps [] [] = Unit {0}
AreCalled names keeps [] (g ∷ given) = ⊥
AreCalled names keeps (name ∷ of) [] = ⊥
AreCalled names keeps (name ∷ of) (g ∷ given) = IsCalled names (keeps name) name g × AreCalled names keeps of given

-- a rule keeps what is a name in a table, if no type has it
abbrev pub keeps_rule : FileNames → List ℕ → Bool
keeps_rule names name = is_name name && not (has_type names name)

-- a type keeps what is a name in a table; that of having none has no name in the file. These are the names of
-- the rules in the file
pub record AreTableNames (names : FileNames) (of : List (List ℕ)) (d : Definitions) : Type 0 where
  pub types : AreCalled names is_name (map (λ t. unwrap_or t []) names.types) d.types
  pub rules : AreCalled names (keeps_rule names) of d.rule_names
  pub sets : All (λ given. has_name names given ≡ false) d.set_names
