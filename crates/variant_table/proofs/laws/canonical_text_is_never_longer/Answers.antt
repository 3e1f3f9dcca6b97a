use Rattle.idn_text.specs.Lines.{raw_lines}
use Rattle.variant_table.proofs.RulesetLemmas.{ruleset-within}
use Rattle.variant_table.proofs.CanonicalLemmas.{length-canonical_line, length-blocked_line, length-named_line}
use Rattle.variant_table.proofs.SizeLemmas.{never_longer, size_of-raw_lines}
use Rattle.variant_table.proofs.laws.canonical_text_is_never_longer.Goals as goal

pub returns-clause-text : goal.returns-clause-text
returns-clause-text c = λ properties notation text table h one. never_longer notation (raw_lines text) table one h.lines.well_formed.defined h.lines.spelled

pub returns-clause-limit : goal.returns-clause-limit
returns-clause-limit c = λ table is. is.short

pub returns-clause-ruleset : goal.returns-clause-ruleset
returns-clause-ruleset c = ruleset-within

pub returns-clause-line : goal.returns-clause-line
returns-clause-line c = length-canonical_line

pub returns-clause-blocked : goal.returns-clause-blocked
returns-clause-blocked c = length-blocked_line

pub returns-clause-named : goal.returns-clause-named
returns-clause-named c = length-named_line

pub returns-clause-feeds : goal.returns-clause-feeds
returns-clause-feeds c = size_of-raw_lines
