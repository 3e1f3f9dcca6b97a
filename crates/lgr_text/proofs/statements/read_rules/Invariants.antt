use Rattle.std.proofs.Common.{length}
use Rattle.std.specs.Prelude.{option_map}
use Rattle.lgr_text.specs.Elements.{Content, each_element}
use Rattle.lgr_text.specs.Statements.{rules, rules_of, statement_of}
use Rattle.lgr_text.specs.inner.Reading.{AreOf}
use Rattle.lgr_text.proofs.FoldLemmas.{Folded}
use Rattle.lgr_text.proofs.SectionLemmas.{rules_from}
use Rattle.lgr_text.proofs.statements.read_rules.Given as goal

-- the statements that are left follow those that were read
abbrev pub invariant-loop-rules : goal.invariant-loop-rules
invariant-loop-rules l = (c : Content) → AreOf l.fn.elements c → Folded statement_of rules_from (rules l.rules) l.elements (option_map rules_of (each_element statement_of c))

abbrev pub decreases-loop-rules : goal.decreases-loop-rules
decreases-loop-rules l = length l.elements.tokens.now
