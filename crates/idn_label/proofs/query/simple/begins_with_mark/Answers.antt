use Rattle.std.proofs.Common.{sym, ◌∙◌}
use Rattle.idn_class.specs.declared.facts.Fact.TheVariants.{Mark}
use Rattle.idn_label.proofs.SimplePoints.{no_mark_first, no_mark_covered}
use Rattle.idn_label.proofs.query.simple.begins_with_mark.Goals as goal

pub returns-then-contains : goal.returns-then-contains
returns-then-contains c = λ none. no_mark_first c.first-item.result c.args.label.now c.in-len1-up.len_at_least c.first-item.is (sym (c.of.ensures Mark) ∙ sym c.contains-then-contains.ensures ∙ none)

pub returns-else-contains : goal.returns-else-contains
returns-else-contains c = λ none. no_mark_covered c.args.facts c.args.label.now c.requires (sym c.contains.ensures ∙ none)
