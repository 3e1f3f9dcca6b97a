-- Names that are given in a table.
use Rattle.std.specs.Prelude.{◌≡◌, ℕ, Bool, false, List, [], ◌∷◌, ◌++◌, All, Option, map, unwrap_or}
use Rattle.lgr_table.specs.TableNames.{AreCalled, FileNames, IsCalled, has_name, keeps_rule}
use Rattle.lgr_table.specs.declared.names.FileNames as held
use Rattle.lgr_table.specs.declared.names.Named.{Named}
use Rattle.lgr_table.specs.declared.names.Named.TheVariants.{«Type», Set, Rule}
use Rattle.ruleset_text.specs.Definitions.{Definitions}
use Rattle.ruleset_text.specs.Names.{is_name}
use Rattle.variant_table.specs.Entries.{TableValue}

-- a set is none of the file's classes, but what one of them has by itself or with others
abbrev pub keeps : FileNames → Named → List ℕ → Bool
keeps names «Type» = is_name
keeps names Set = λ name. false
keeps names Rule = keeps_rule names

-- the names that are held
abbrev pub names_by : held.FileNames → FileNames
names_by names = record { types = names.types.now; definitions = map (λ d. d.name) names.definitions.now }

-- the types that are defined are these
pub record DefinesTypes (names : FileNames) (t u : TableValue) : Type 0 where
  pub others : u ≡ record t { definitions = record t.definitions { types = u.definitions.types } }
  pub called : AreCalled names is_name (map (λ t. unwrap_or t []) names.types) u.definitions.types

-- after a type more is defined
pub record DefinesType (names : FileNames) (type : Option (List ℕ)) (t u : TableValue) : Type 0 where
  pub given : List ℕ
  pub called : IsCalled names (is_name (unwrap_or type [])) (unwrap_or type []) given
  pub added : u ≡ record t { definitions = record t.definitions { types = t.definitions.types ++ given ∷ [] } }

-- of rules by these names in the file and of sets, what they are called
pub record AreRuleNames (names : FileNames) (of : List (List ℕ)) (d : Definitions) : Type 0 where
  pub rules : AreCalled names (keeps_rule names) of d.rule_names
  pub sets : All (λ given. has_name names given ≡ false) d.set_names
