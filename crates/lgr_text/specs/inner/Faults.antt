-- Results that tell a fault.
use Rattle.std.specs.Prelude.{◌≡◌, Option, Some, None, Result, MatchResult}
use Rattle.lgr_text.specs.declared.rule_error.RuleError.{RuleError}
use Rattle.lgr_text.specs.declared.rule_error.RuleError.TheVariants.{Fault, Memory}
use Rattle.lgr_text.specs.declared.rule_error.RuleFault.{RuleFault}

-- the error tells this fault, or that memory was refused
abbrev pub IsTold : Option RuleFault → RuleError → Type 0
IsTold fault (Fault told) = fault ≡ Some told
IsTold fault Memory = Unit {0}

-- there is no fault, or the error tells it
abbrev pub IsFaultOf : {X : Type 0} → Option RuleFault → Result X RuleError → Type 0
IsFaultOf fault result = MatchResult result (λ _. fault ≡ None) (IsTold fault)
