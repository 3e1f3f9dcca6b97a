-- The pattern of a rule or of a demand: where '_', '^' and '$' may stand.
use Rattle.std.specs.Prelude.{ℕ, ◌+◌, ◌-◌, ◌==◌, Bool, true, false, not, ◌||◌, ◌&&◌, Option, None, List, []}
use Rattle.std.specs.Prelude.{if◌then◌else◌}
use Rattle.std.specs.Option.{option_map}
use Rattle.ruleset_text.specs.declared.token.Token.{Token}
use Rattle.ruleset_text.specs.declared.token.Token.TheVariants as token
use Rattle.label_patterns.specs.Patterns.{Pattern}
use Rattle.ruleset_text.specs.Reading.{Piece, step, ended}

-- in a rule '_' stands once in each context, in no group, '^' before it alone and '$' after it; in a demand '_' doesn't
-- stand
abbrev pub may_stand : Bool → ℕ → Bool → Token → Bool
may_stand is_rule groups passed token.Start = not is_rule || not passed
may_stand is_rule groups passed token.End = not is_rule || passed
may_stand is_rule groups passed token.Anchor = is_rule && (groups == 0) && not passed
may_stand is_rule groups passed token.Or = not (groups == 0) || (passed || not is_rule)
may_stand is_rule groups passed token.Other = false
may_stand is_rule groups passed t = true

abbrev pub groups_after : ℕ → Token → ℕ
groups_after groups token.Open = groups + 1
groups_after groups token.Close = groups - 1
groups_after groups t = groups

abbrev pub passed_after : ℕ → Bool → Token → Bool
passed_after groups passed token.Anchor = true
passed_after groups passed token.Or = if groups == 0 then false else passed
passed_after groups passed t = passed

-- the pieces, how many groups are open, and whether '_' was read in the context that is being read
pub record State : Type 0 where
  pub pieces : List Piece
  pub groups : ℕ
  pub passed : Bool

abbrev pub start : State
start = record { pieces = []; groups = 0; passed = false }

abbrev pub with_pieces : State → Token → List Piece → State
with_pieces s t pieces =
    record { pieces = pieces; groups = groups_after s.groups t; passed = passed_after s.groups s.passed t }

abbrev pub step_in : Bool → State → Token → Option State
step_in is_rule s t =
    if may_stand is_rule s.groups s.passed t then option_map (with_pieces s t) (step s.pieces t) else None

abbrev pub ended_in : Bool → State → Option Pattern
ended_in is_rule s = if s.passed || not is_rule then ended s.pieces else None
