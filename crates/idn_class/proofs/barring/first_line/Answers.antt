use Rattle.idn_class.proofs.BarringLemmas.{line-of_scalar, line-of_none}
use Rattle.idn_class.proofs.barring.first_line.Goals as goal

pub returns-in_ok-line_of_scalar-in-Some : goal.returns-in_ok-line_of_scalar-in-Some
returns-in_ok-line_of_scalar-in-Some c = line-of_scalar c.args.properties _ _ _ c.in-Some.ensures.cases c.in-Some.ensures.value.1 c.in_ok-line_of_scalar-in-Some.ensures

pub returns-in-None : goal.returns-in-None
returns-in-None c = line-of_none c.args.properties _ c.in-None.ensures.cases
