-- What is true of whatever a document says.
use Rattle.std.specs.Prelude.{All}
use Rattle.lgr_text.specs.ClassMembers.{HasSpans}
use Rattle.lgr_text.specs.Known.{HaveSpans}
use Rattle.lgr_text.specs.PartMatches.{IsWellFormed}
use Rattle.lgr_text.specs.Records.{Meaning, IsClass, IsRule, Ruleset}

abbrev pub IsWellFormedMeaning : Meaning → Type 0
IsWellFormedMeaning (IsClass class) = HasSpans class
IsWellFormedMeaning (IsRule rule) = IsWellFormed rule

-- the spans of entries and classes are spans of code points, and no count is above what it may be at most
pub record IsWellFormedRuleset (r : Ruleset) : Type 0 where
  pub entries : HaveSpans r.entries
  pub definitions : All (λ d. IsWellFormedMeaning d.meaning) r.definitions
