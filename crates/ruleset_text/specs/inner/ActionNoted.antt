-- What reading an action notes at each lexeme.
use Rattle.std.specs.Prelude.{ℕ, Option, Some, None, List, [], ◌∷◌, if◌then◌else◌}
use Rattle.std.specs.Option.{option_or}
use Rattle.ruleset_text.specs.declared.fault.FaultPlace.{FaultPlace}
use Rattle.ruleset_text.specs.ActionSteps.{Stage, Asked, Listing, step}
use Rattle.ruleset_text.specs.DefinitionPlaces.{Known}
use Rattle.ruleset_text.specs.LineFaults.{lexeme_place}
use Rattle.ruleset_text.specs.Names.{is_one_of}
use Rattle.ruleset_text.specs.PlacedLexemes.{Placed}

-- a name that is none of these
abbrev pub unless_known : List (List ℕ) → List ℕ → FaultPlace → Option FaultPlace
unless_known names w at = if is_one_of names w then None else Some at

-- after this stage the lexeme has to be the name of a whole-label rule, or of a type, and is none
abbrev pub unknown_at : Known → Stage → List ℕ → FaultPlace → Option FaultPlace
unknown_at k (Asked d kind) w at = unless_known k.whole_rules w at
unknown_at k (Listing d c t) w at = unless_known k.types w at
unknown_at k s w at = None

abbrev pub if_taken : Option Stage → (Stage → Option FaultPlace) → Option FaultPlace
if_taken None go = None
if_taken (Some s) go = go s

-- the first such lexeme of those that are read on from a stage
abbrev pub unknown_from : Known → Stage → List Placed → Option FaultPlace
unknown_from k s [] = None
unknown_from k s (w ∷ ws) =
    option_or (unknown_at k s w.lexeme (lexeme_place w)) (if_taken (step s w.lexeme) (λ t. unknown_from k t ws))
